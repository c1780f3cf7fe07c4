use Rattle.std.proofs.Common.{arith}
use Rattle.std.proofs.lemmas.Grind.{common_steps}
use Rattle.rules.specs.Rules.{first}
use Rattle.closing.proofs.Answers.{by_kind}
use Rattle.closing.proofs.check_closing.Goals as goal

pub returns-in-Read : goal.returns-in-Read
unfolding first
returns-in-Read c =
    let number = by_kind c.requires.0.is_open in
    grind (arith, common_steps)

use Rattle.std.proofs.Common.{arith}
use Rattle.std.proofs.lemmas.Grind.{common_steps}
use Rattle.rules.specs.Rules.{first}
use Rattle.layout.proofs.OneWalk.{nobody_hears}
use Rattle.newest.proofs.Walks.{nobody_found}
use Rattle.numbers.proofs.alone.check_heard.Goals as goal

pub returns-in_default-clause-value : goal.returns-in_default-clause-value
unfolding first
returns-in_default-clause-value c =
    let unheard = nobody_hears _ _ _ (nobody_found c.round_found.ensures c.in_default.is) in
    grind (arith, common_steps)

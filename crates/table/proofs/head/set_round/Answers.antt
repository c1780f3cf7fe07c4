use mathlib.Core.Path.{◌∙◌}
use Rattle.layout.specs.Updates.{set_round}
use Rattle.basics.proofs.Writing.{over-number}
use borrow.Author.Rules.{rules}
use Rattle.table.proofs.head.set_round.Goals as goal

pub returns : goal.returns
unfolding set_round
returns c =
    let a = c.args in
    let first = c.put_pair in
    let value = c.put_u64 in
    c.put_config_bytes.ensures
    ∙ rw (value.ensures, over-number first.new.t 16 8 a.value a.target (search rules), first.ensures)

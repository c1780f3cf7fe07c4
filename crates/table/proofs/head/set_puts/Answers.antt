use Rattle.layout.specs.Updates.{set_puts}
use Rattle.basics.proofs.Writing.{over-numbers}
use mathlib.Core.Path.{◌∙◌}
use borrow.Author.Rules.{rules}
use Rattle.table.proofs.head.set_puts.Goals as goal

pub returns : goal.returns
unfolding set_puts
returns c =
    let a = c.args in
    c.put_u16-2.ensures
    ∙ rw c.put_u16.ensures (over-numbers a.t.now 8 2 a.data_puts 2 a.config_puts (search rules))

use mathlib.Core.Path.{◌∙◌}
use Rattle.layout.specs.Updates.{put_data}
use Rattle.basics.proofs.Writing.{over-numbers}
use borrow.Author.Rules.{rules}
use Rattle.table.proofs.copy.write_data.Goals as goal

pub returns : goal.returns
unfolding put_data
returns c =
    let a = c.args in
    c.put_u64-2.ensures
    ∙ rw c.put_u64.ensures (over-numbers a.copy.now 0 8 a.version.0 8 a.value (search rules))

use lib.ListN.{replicate}
use Rattle.basics.proofs.Parts.{part_length}
use Rattle.layout.specs.Layout.{copies_at}
use Rattle.table.proofs.Lent.{over-part}
use Rattle.writes.proofs.Writes.{through_block}
use Rattle.writes.proofs.copy_again.Goals as goal

pub returns : goal.returns
returns c =
    let t = c.args.t.now in
    let n = c.args.count in
    let same = through_block t (replicate 14336 0) copies_at n c.requires.1 c.copy_from_slice.ensures.after c.copy_from_slice-2.ensures.after in
    rw same (over-part t c.args.to n _ (part_length t copies_at n c.requires.1))

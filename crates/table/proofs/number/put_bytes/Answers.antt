use Rattle.table.proofs.Lent.{over-part}
use borrow.Author.Rules.{rules}
use Rattle.table.proofs.number.put_bytes.Goals as goal

pub returns : goal.returns
returns g c = rw c.copy_from_slice.ensures.after (over-part c.args.t.now c.args.at g.row.N c.args.bytes (search rules))

use Rattle.basics.proofs.Bytes.{number_one}
use Rattle.table.proofs.number.byte_at.Goals as goal

pub returns : goal.returns
returns c = rw (number_one c.args.t.now c.args.at)

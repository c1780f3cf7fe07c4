use Rattle.layout.specs.Layout.{kind_at}
use Rattle.basics.proofs.Bytes.{number_one}
use Rattle.table.proofs.head.kind_byte.Goals as goal

pub returns : goal.returns
returns c = rw (number_one c.args.t.now kind_at)

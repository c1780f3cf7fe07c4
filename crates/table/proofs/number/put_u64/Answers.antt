use mathlib.Core.Path.{ap, ◌∙◌}
use Rattle.basics.specs.Bytes.{over}
use Rattle.table.proofs.Numbers.{number_written}
use Rattle.table.proofs.number.put_u64.Goals as goal

pub returns : goal.returns
returns c = c.put_bytes.ensures ∙ ap (over c.args.t.now c.args.at) (c.to_le_bytes.ensures ∙ number_written 8 c.args.x)

use mathlib.Core.Path.{ap, ◌∙◌}
use Rattle.basics.specs.Bytes.{little_endian}
use Rattle.table.proofs.Numbers.{number_read}
use borrow.Author.Rules.{rules}
use Rattle.table.proofs.number.u64_at.Goals as goal

pub returns : goal.returns
returns c = c.from_le_bytes.ensures ∙ number_read _ 7 (search rules) ∙ ap little_endian c.bytes_at.ensures

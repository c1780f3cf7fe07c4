use mathlib.Core.Path.{sym}
use native.Mathlib.Omega.{arith}
use Rattle.layout.specs.Layout.{table_length}
use Rattle.layout.proofs.Sizes.{lay_length_in}
use Rattle.table.proofs.head.lay_length.Goals as goal

pub returns-clause-value : goal.returns-clause-value
unfolding table_length
returns-clause-value c = let a = c.args in sym (lay_length_in a.n a.m (omega arith, omega arith, omega arith, omega arith))

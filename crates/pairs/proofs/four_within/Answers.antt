use native.Mathlib.Omega.{arith}
use Rattle.pairs.proofs.Pairs.{four_lanes}
use Rattle.pairs.proofs.four_within.Goals as goal

pub returns : goal.returns
returns c = rw (c.load_four.ensures.value, c.outside.ensures) (four_lanes _ _ _ (omega arith) c.load_four.ensures.four_fit)

use mathlib.Core.Path.{refl}
use lib.Bits.{and_le_l}
use Rattle.quorum.specs.Sets.{minus}
use Rattle.sets.proofs.difference.Goals as goal

pub overflow_sub-result : goal.overflow_sub-result
overflow_sub-result c = and_le_l _ _

pub returns : goal.returns
unfolding minus
returns c = refl

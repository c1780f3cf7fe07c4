use mathlib.Core.Path.{refl}
use Rattle.quorum.specs.Sets.{used, holds}
use Rattle.sets.proofs.is_held.Goals as goal

pub returns : goal.returns
unfolding used holds
returns c = refl

use mathlib.Core.Path.{refl}
use Rattle.quorum.specs.Sets.{unite}
use Rattle.sets.proofs.united.Goals as goal

pub returns : goal.returns
unfolding unite
returns c = refl

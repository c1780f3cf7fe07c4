use mathlib.Core.Path.{refl}
use Rattle.quorum.specs.Sets.{shares}
use Rattle.sets.proofs.share_station.Goals as goal

pub returns : goal.returns
unfolding shares
returns c = refl

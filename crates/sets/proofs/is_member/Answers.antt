use mathlib.Core.Path.{refl}
use Rattle.quorum.specs.Sets.{member}
use Rattle.sets.proofs.Words.{no_member}
use Rattle.sets.proofs.is_member.Goals as goal

pub returns-then-station-lt16 : goal.returns-then-station-lt16
unfolding member
returns-then-station-lt16 c = refl

pub returns-else-station-lt16 : goal.returns-else-station-lt16
returns-else-station-lt16 c = no_member c.args.set c.args.station c.ranges.set.fits c.if-station-lt16.false

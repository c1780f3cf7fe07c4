use Rattle.quorum.specs.Sets.{remove}
use Rattle.sets.proofs.Words.{one_shl, remove_none}
use Rattle.sets.proofs.without_station.Goals as goal

pub returns-then-station-lt16 : goal.returns-then-station-lt16
unfolding remove
returns-then-station-lt16 c = rw (← one_shl c.args.station 16 c.if-station-lt16.true) c.difference.ensures

pub returns-else-station-lt16 : goal.returns-else-station-lt16
returns-else-station-lt16 c = remove_none c.args.set c.args.station c.ranges.set.fits c.if-station-lt16.false

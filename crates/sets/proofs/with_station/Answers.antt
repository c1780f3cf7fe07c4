use Rattle.quorum.specs.Sets.{join}
use borrow.Author.Tests.{lt-ltb, le-ltb}
use Rattle.sets.proofs.Words.{one_shl}
use Rattle.sets.proofs.with_station.Goals as goal

pub returns-then-station-lt16 : goal.returns-then-station-lt16
unfolding join
returns-then-station-lt16 c = rw (one_shl c.args.station 16 c.if-station-lt16.true, lt-ltb _ _ c.if-station-lt16.true)

pub returns-else-station-lt16 : goal.returns-else-station-lt16
unfolding join
returns-else-station-lt16 c = rw (le-ltb _ _ c.if-station-lt16.false)

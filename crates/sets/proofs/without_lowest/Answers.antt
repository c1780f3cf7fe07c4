use Rattle.quorum.specs.Sets.{minus, remove}
use Rattle.quorum.proofs.Promise.{promise}
use Rattle.sets.proofs.without_lowest.Goals as goal

pub returns-then-set-eq0 : goal.returns-then-set-eq0
unfolding minus remove
returns-then-set-eq0 c = rw c.if-set-eq0.true

pub returns-else-set-eq0 : goal.returns-else-set-eq0
returns-else-set-eq0 c = promise.without_lowest c.args.set c.ranges.set.fits c.if-set-eq0.false

use Rattle.pairs.specs.Pairs.{outside_of}
use Rattle.pairs.proofs.outside.Goals as goal

pub returns : goal.returns
unfolding outside_of
returns c = rw c.all_stations.ensures

use Rattle.layout.specs.View.{view}
use Rattle.table.proofs.head.on_bus.Goals as goal

pub returns : goal.returns
unfolding view
returns c =
    rw (c.difference.ensures, c.all_stations.ensures, c.stations.ensures, c.off_set.ensures)

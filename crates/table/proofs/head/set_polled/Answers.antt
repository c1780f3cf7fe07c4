use Rattle.layout.specs.Updates.{set_polled}
use Rattle.table.proofs.head.set_polled.Goals as goal

pub returns : goal.returns
unfolding set_polled
returns c = c.put_u16.ensures

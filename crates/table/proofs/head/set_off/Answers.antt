use Rattle.layout.specs.Updates.{set_off}
use Rattle.table.proofs.head.set_off.Goals as goal

pub returns : goal.returns
unfolding set_off
returns c = c.put_u16.ensures

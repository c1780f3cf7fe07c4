use Rattle.table.proofs.ItemCopies.{copy_fits}
use Rattle.newest.proofs.copies.Copies.address.Goals as goal

pub returns-clause-fits : goal.returns-clause-fits
returns-clause-fits c = copy_fits c.args.self.in_table c.requires c.address.ensures

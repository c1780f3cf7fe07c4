use borrow.Author.Rules.{rules}
use Rattle.layout.specs.Layout.{address}
use Rattle.table.proofs.copy.address.Goals as goal

pub returns : goal.returns
unfolding address
returns c = search rules

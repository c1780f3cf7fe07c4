use Rattle.layout.specs.Fields.{copy_from}
use borrow.Author.Rules.{rules}
use Rattle.table.proofs.copy.version_at.Goals as goal

pub returns : goal.returns
unfolding copy_from
returns c = search rules

use borrow.Author.Rules.{rules}
use Rattle.dispatch.proofs.Codes.{no_length}
use Rattle.dispatch.proofs.Code.of.Goals as goal

pub returns-in_default : goal.returns-in_default
returns-in_default c = no_length c.args.byte (search rules)

use Rattle.validity.proofs.Same.{parts_compared}
use Rattle.validity.proofs.same_again.Goals as goal

pub returns : goal.returns
returns c = rw (c.eq.ensures, c.config_at.ensures, c.config_at-2.ensures) (parts_compared c.args.bytes.now c.args.at c.args.stride c.requires)

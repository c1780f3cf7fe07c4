use borrow.Author.Tests.{eq-eqb, ne_eqb}
use Rattle.pairs.specs.Pairs.{filled}
use Rattle.pairs.proofs.filled.Goals as goal

pub returns-then-set-next-eq0 : goal.returns-then-set-next-eq0
unfolding filled
returns-then-set-next-eq0 c = rw (eq-eqb _ _ c.if-set-next-eq0.true)

pub returns-else-set-next-eq0 : goal.returns-else-set-next-eq0
unfolding filled
returns-else-set-next-eq0 c = rw (ne_eqb _ _ c.if-set-next-eq0.false)

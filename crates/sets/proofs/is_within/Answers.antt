use native.Mathlib.Omega.{arith}
use Rattle.sets.proofs.Words.{shifted_within, all-within}
use Rattle.sets.proofs.is_within.Goals as goal

pub returns-then-n-lt32 : goal.returns-then-n-lt32
returns-then-n-lt32 c = shifted_within _ _

pub returns-else-n-lt32 : goal.returns-else-n-lt32
returns-else-n-lt32 c = all-within c.args.set c.args.n c.ranges.set.fits (omega arith)

use Rattle.pairs.specs.Pairs.{filled_side}
use Rattle.pairs.proofs.filled_side.Goals as goal

pub returns : goal.returns
unfolding filled_side
returns c =
    rw (
      c.filled.ensures,
      c.filled-2.ensures,
      c.filled-3.ensures,
      c.filled-4.ensures,
      c.filled-5.ensures,
      c.filled-6.ensures,
      c.filled-7.ensures,
      c.filled-8.ensures,
      c.load_side.ensures,
    )

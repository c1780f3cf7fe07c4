use native.Mathlib.Omega.{arith}
use Rattle.pairs.proofs.load_four.Goals as goal

pub returns : goal.returns
returns c =
    record {
      value = cc;
      four_fit = (omega arith, omega arith, omega arith, omega arith);
    }

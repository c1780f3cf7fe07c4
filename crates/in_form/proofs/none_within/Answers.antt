use lib.Dec.{eqb}
use lib.Bits.{bit_and}
use mathlib.Core.Bool.{false}
use Rattle.in_form.proofs.Ordered.{none_of}
use Rattle.in_form.proofs.none_within.Goals as goal

pub returns : goal.returns
returns c = rw c.any_within.ensures (none_of (λ other. eqb (bit_and c.args.set other) other) c.args.others.now)

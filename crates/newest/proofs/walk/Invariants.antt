use Rattle.std.specs.Prelude.{Option, None, Some}
use Prim.Native.Nat.{ℕ}
use Rattle.layout.specs.Fields.{Copy}
use Rattle.newest.specs.Seen.{seen}
use Rattle.layout.specs.Walk.{Walked, onward}
use Rattle.layout.proofs.Along.{along, Left}
use Rattle.newest.specs.Walks.{as_option}
use Rattle.newest.proofs.walk.Given as goal

-- what a station does to what the walk carries
abbrev pub turn : (ℕ → Copy) → ℕ → Option Walked → Option Walked
turn copies s o = Some (onward copies s o)

abbrev pub invariant-loop-s : goal.invariant-loop-s
invariant-loop-s l =
    Left (turn (seen l.copies)) l.copies.n (along (turn (seen l.copies)) None l.fn.set l.copies.n) (as_option l.found) l.s-iterator.0

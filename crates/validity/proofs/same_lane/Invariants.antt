use mathlib.Core.Path.{◌≡◌}
use Prim.Native.Nat.{◌+◌, ◌-◌, ◌*◌, ◌≤◌}
use Rattle.basics.specs.Tests.{all_below}
use lib.ListN.{get_or}
use lib.Dec.{eqb}
use Rattle.validity.proofs.same_lane.Given as goal

abbrev pub invariant-loop-j : goal.invariant-loop-j
invariant-loop-j l = (l.j ≤ 8) × (l.ok ≡ all_below (λ i. eqb (get_or l.bytes (l.at + l.stride + l.stride * i) 0) (get_or l.bytes l.at 0)) l.j)

abbrev pub decreases-loop-j : goal.decreases-loop-j
decreases-loop-j l = 8 - l.j

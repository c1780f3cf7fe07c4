use Prim.Native.Nat.{◌-◌, ◌≤◌}
use Rattle.validity.specs.Rows.{StillValid}
use Rattle.validity.proofs.Row.past_eights.Given as goal

abbrev pub invariant-loop-k : goal.invariant-loop-k
invariant-loop-k l = (l.from ≤ l.k) × (l.k ≤ l.self.count) × StillValid l.self.bytes.now l.self.at l.self.stride l.from l.k

abbrev pub decreases-loop-k : goal.decreases-loop-k
decreases-loop-k l = l.self.count - l.k

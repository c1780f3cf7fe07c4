use Rattle.layout.specs.Layout.{copies_at, copy_size}
use Rattle.layout.specs.Updates.{repeated}
use Rattle.basics.specs.Bytes.{part, over}
use Prim.Native.Nat.{◌-◌, ◌≤◌}
use mathlib.Core.Path.{◌≡◌}
use lib.ListN.{length}
use Rattle.writes.proofs.lay_rest.Given as goal

abbrev pub invariant-loop-k : goal.invariant-loop-k
invariant-loop-k l =
    (1 ≤ l.k) × (l.k ≤ l.copies) × (length l.t ≡ length l.initial.t)
    × (l.t ≡ over l.initial.t copies_at (repeated l.k (part l.initial.t copies_at copy_size)))

abbrev pub decreases-loop-k : goal.decreases-loop-k
decreases-loop-k l = l.copies - l.k

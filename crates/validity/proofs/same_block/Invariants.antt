use mathlib.Core.Path.{◌≡◌}
use Prim.Native.Nat.{◌+◌, ◌-◌, ◌≤◌}
use Rattle.quorum.specs.Configurations.{config_size}
use Rattle.basics.specs.Tests.{all_below}
use Rattle.validity.specs.Rows.{same_lane}
use Rattle.validity.proofs.same_block.Given as goal

abbrev pub invariant-loop-b : goal.invariant-loop-b
invariant-loop-b l = (l.b ≤ config_size) × (l.ok ≡ all_below (λ i. same_lane l.bytes (l.at + i) l.stride) l.b)

abbrev pub decreases-loop-b : goal.decreases-loop-b
decreases-loop-b l = config_size - l.b

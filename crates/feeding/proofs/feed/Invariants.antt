use Prim.Native.Nat.{◌-◌}
use lib.ListN.{length}
use Rattle.feeding.specs.Buffers.{Takes}
use Rattle.feeding.proofs.feed.Given as goal

abbrev pub invariant-loop-s : goal.invariant-loop-s
invariant-loop-s l = Takes l.piece l.initial.table l.initial.line l.initial.out l.initial.s l.table l.line l.out l.s

abbrev pub decreases-loop-s : goal.decreases-loop-s
decreases-loop-s l = length l.piece - l.s.at

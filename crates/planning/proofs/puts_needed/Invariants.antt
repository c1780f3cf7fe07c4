use Rattle.quorum.specs.Configurations.{holds_write}
use Rattle.planning.proofs.Walking.{Position, NoneUpTo}
use Rattle.planning.proofs.puts_needed.Given as goal

abbrev pub invariant-loop-before : goal.invariant-loop-before
invariant-loop-before l =
    (goal.iterator-loop-before).can_next l.before-iterator
    × Position l.fn.on l.before-iterator.count l.before-iterator.iter.0 l.written
    × NoneUpTo (holds_write l.config) l.fn.on l.before-iterator.count

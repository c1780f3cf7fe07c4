use mathlib.Core.Path.{◌≡◌}
use Rattle.newest.specs.Seen.{seen}
use Rattle.layout.specs.Newest.{hears}
use Rattle.layout.specs.Walk.{walk}
use Rattle.newest.specs.Walks.{as_option}
use Rattle.planning.proofs.Walking.{Position, NoneUpTo}
use Rattle.planning.proofs.first_heard.Given as goal

abbrev pub invariant-loop-before : goal.invariant-loop-before
invariant-loop-before l =
    (goal.iterator-loop-before).can_next l.before-iterator
    × Position l.fn.on l.before-iterator.count l.before-iterator.iter.0 l.polled
    × NoneUpTo (λ set. hears (seen l.copies) set l.copies.n) l.fn.on l.before-iterator.count
    × (as_option l.found ≡ walk (seen l.copies) l.polled l.copies.n)

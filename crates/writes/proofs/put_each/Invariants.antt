use mathlib.Core.Path.{◌≡◌}
use lib.ListN.{length}
use Rattle.layout.specs.Fields.{new_copy}
use Rattle.layout.specs.Updates.{put_copies}
use Rattle.layout.proofs.Along.{Left}
use Rattle.rounds.specs.Round.{as_round}
use Rattle.writes.proofs.Writes.{put_station}
use Rattle.writes.proofs.put_each.Given as goal

-- At a turn the puts of the stations taken have taken effect, and those of the stations left are to come.
abbrev pub invariant-loop-s : goal.invariant-loop-s
invariant-loop-s l =
    let new = new_copy l.version.0 l.value l.generation.0 l.round.target in
    (l.target ≡ l.round.target) × (length l.t ≡ length l.initial.t)
    × Left (put_station l.n (as_round l.round) new) l.n (put_copies l.initial.t l.n (as_round l.round) new l.n) l.t l.s-iterator.0

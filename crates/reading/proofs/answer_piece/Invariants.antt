use Rattle.std.proofs.Common.{◌≡◌, length, ◌-◌, take}
use Rattle.std.specs.Io.KnownBytes.{Appends}
use Rattle.runs.specs.Pieces.{printed_by}
use Rattle.feeding.specs.Buffers.{in_hand, Fits}
use Rattle.reading.proofs.Progress.{UpTo}
use Rattle.reading.proofs.answer_piece.Given as goal

abbrev pub invariant-loop-fed : goal.invariant-loop-fed
invariant-loop-fed g l =
    record {
      fits : Fits l.table l.line l.out l.fed;
      empty : l.fed.out ≡ 0;
      so_far : UpTo (in_hand l.initial.table l.initial.fed.used l.initial.line l.initial.fed.len) l.piece l.table l.line l.fed;
      written : Appends (g.W.Write.contents l.initial.to) (g.W.Write.contents l.to)
          (printed_by (in_hand l.initial.table l.initial.fed.used l.initial.line l.initial.fed.len) (take l.fed.at l.piece));
    }

abbrev pub decreases-loop-fed : goal.decreases-loop-fed
decreases-loop-fed g l = length l.piece - l.fed.at

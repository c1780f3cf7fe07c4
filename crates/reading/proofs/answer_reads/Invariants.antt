use Rattle.std.proofs.Common.{◌≡◌, ◌<◌}
use Rattle.feeding.specs.Buffers.{in_hand}
use Rattle.reading.specs.Between.{Ready, AfterInput, RunSoFar}
use Rattle.reading.proofs.answer_reads.Given as goal

abbrev pub invariant-loop-turn : goal.invariant-loop-turn
invariant-loop-turn g l =
    record {
      ready : Ready l.table l.line l.out l.s;
      reached : AfterInput l.input l.table l.line l.s;
      so_far : RunSoFar (g.R.Read.remaining l.initial.from) (g.R.Read.remaining l.from) (g.W.Write.contents l.initial.to) (g.W.Write.contents l.to)
          (in_hand l.table l.s.used l.line l.s.len);
      goes_on : 0 < l._turn → l.s.read ≡ 0 → ⊥;
    }

use mathlib.Core.Path.{refl}
use Rattle.feeding.proofs.answer_line.Goals as goal

pub returns : goal.returns
returns c = let answered = c.answer-used.ensures in
    record {
      answers_line = record { table_now = answered.in_use; shown = answered.out_after; out_end = refl; no_line = refl };
      stays_there = refl;
    }

use Rattle.std.proofs.Common.{refl, arith}
use Rattle.feeding.specs.Buffers.{Fits}
use Rattle.reading.proofs.Progress.{reached_none, reached_more}
use Rattle.reading.proofs.Known.{run_none, run_more}
use Rattle.reading.proofs.answer_reads.Goals as goal

pub loop-turn-init : goal.loop-turn-init
loop-turn-init g c =
    let a = c.args in
    let fits : Fits a.table.now a.line.now a.out.now (record { at = 0; len = 0; used = 0; out = 0 }) =
    record {
      table_length_lem = c.requires.0;
      table_fits = omega arith;
      line_length = c.requires.1;
      line_fits = omega arith;
      out_fits = omega arith;
    } in
    record {
      ready = (fits, c.requires.2);
      reached = reached_none a.input.now a.table.now a.line.now _ refl refl refl;
      so_far = run_none _ _ _ refl;
      goes_on = λ h. absurd (omega arith);
    }

pub loop-turn-preserved : goal.loop-turn-preserved
loop-turn-preserved g c =
    let l = c.loop-turn.invariant in
    let r = c.in_ok-s.ensures in
    record {
      ready = r.ready;
      reached = reached_more _ _ _ c.loop-turn.s _ _ _ c.in_ok-s.s l.reached r.answers_piece;
      so_far = run_more _ _ _ _ _ _ _ _ _ c.loop-turn.s _ _ c.in_ok-s.s l.so_far r.moved r.answers_piece;
      goes_on = λ _. c.if-s-eq0.false;
    }

pub returns-then-s-eq0-clause-stopped : goal.returns-then-s-eq0-clause-stopped
returns-then-s-eq0-clause-stopped g c =
    reached_more _ _ _ c.loop-turn.s _ _ _ c.in_ok-s.s c.loop-turn.invariant.reached c.in_ok-s.ensures.answers_piece

pub returns-then-s-eq0-clause-so_far : goal.returns-then-s-eq0-clause-so_far
returns-then-s-eq0-clause-so_far g c =
    let r = c.in_ok-s.ensures in
    run_more _ _ _ _ _ _ _ _ _ c.loop-turn.s _ _ c.in_ok-s.s c.loop-turn.invariant.so_far r.moved r.answers_piece

use Rattle.std.proofs.Common.{◌≤◌, length, refl, arith}
use Rattle.replies.specs.ReplyLine.{reply_line_size}
use Rattle.reading.specs.Between.{begin}
use Rattle.reading.proofs.Progress.{forward, up_to_none, up_to_more, fits_at}
use Rattle.std.proofs.lemmas.Grind.{common_steps}
use Rattle.reading.proofs.Known.{sent, written_none, written_more}
use Rattle.reading.proofs.answer_piece.Goals as goal

pub loop-fed-init : goal.loop-fed-init
loop-fed-init g c =
    let a = c.args in
    record { fits = c.requires.0; empty = refl; so_far = up_to_none a.piece.now a.table.now a.line.now (begin a.s) refl; written = written_none _ _ }

pub loop-fed-smaller : goal.loop-fed-smaller
loop-fed-smaller g c =
    let l = c.loop-fed in
    let room : reply_line_size ≤ length l.out = omega (arith, c.requires.1, l.auto.out) in
    let more = forward _ _ _ _ _ _ _ _ _ c.feed-r.ensures.takes l.invariant.empty room c.loop-fed-test.true c.feed-r.ensures.ended_or_full in
    omega arith

pub loop-fed-preserved : goal.loop-fed-preserved
loop-fed-preserved g c =
    let takes = c.feed-r.ensures.takes in
    let l = c.loop-fed.invariant in
    let went = sent c.send.result c.send.ensures (grind (arith, common_steps, c.map_err.ensures.variant, c.in_ok-map_err.was)) in
    record {
      fits = fits_at _ takes.fits;
      empty = refl;
      so_far = up_to_more _ _ _ _ _ _ _ _ _ takes _ l.so_far;
      written = written_more _ _ _ _ _ _ _ _ _ _ _ _ _ takes l.empty l.so_far l.written went;
    }

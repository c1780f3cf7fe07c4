use Rattle.std.proofs.Common.{◌<◌, length, eqb-true, arith}
use Rattle.feeding.specs.Buffers.{in_hand}
use Rattle.reading.proofs.Known.{whole_run}
use Rattle.frame_runner.proofs.answer_input.Goals as goal

pub returns : goal.returns
returns g c none room =
    let reads = c.answer_reads in
    let s = c.in_ok-s.s in
    let some : 0 < length reads.new.input = omega (arith, room, reads.auto.input) in
    let ended = c.in_ok-s.ensures.ended (eqb-true s.read 0 none) some in
    let last = rw c.answer_last-end.ensures.out_after at c.in_ok-send.ensures in
    whole_run _ _ _ _ _ (in_hand reads.new.table s.used reads.new.line s.len) c.in_ok-s.ensures.so_far ended last

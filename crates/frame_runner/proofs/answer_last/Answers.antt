use Rattle.std.proofs.Common.{◌≡◌, length, take, arith}
use Rattle.runs.specs.Pieces.{printed_last}
use Rattle.reading.proofs.Progress.{in_front_lem}
use Rattle.frame_runner.proofs.answer_last.Goals as goal

pub returns-clause-out_after : goal.returns-clause-out_after
returns-clause-out_after c =
    let a = c.args in
    let p = printed_last (take a.s.used a.table.now) (take a.s.len a.line.now) in
    let x = c.finish in
    let n : x.result.out ≡ length p = omega (arith, x.ensures.out_end) in
    rw (n, x.ensures.shown) (in_front_lem a.out.now p)

use native.Mathlib.Omega.{arith}
use Rattle.replies.proofs.Writing.{show_start, show_turn, show_end}
use Rattle.replies.proofs.write_hex.Goals as goal

pub loop-k-init : goal.loop-k-init
loop-k-init c = let a = c.args in show_start a.out.now a.at a.bytes.now

pub loop-k-preserved : goal.loop-k-preserved
loop-k-preserved c =
    let l = c.loop-k in
    let a = c.args in
    rw (c.high_digit.ensures, c.low_digit.ensures)
    (show_turn a.out.now a.at a.bytes.now c.requires l.k l.out (omega arith) l.invariant)

pub returns : goal.returns
returns c =
    let l = c.loop-k in
    show_end c.args.out.now c.args.at c.args.bytes.now c.requires l.k l.out (omega arith) l.invariant

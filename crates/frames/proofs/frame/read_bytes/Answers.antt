use mathlib.Core.Path.{refl, sym, ◌∙◌}
use Prim.Native.Nat.{◌/◌}
use native.Mathlib.Omega.{arith}
use lib.ListN.{length, length-set}
use Rattle.frames.proofs.Reading.{byte_at, read_start, read_turn, read_stop, read_end}
use Rattle.frames.proofs.frame.read_bytes.Goals as goal

pub loop-k-init : goal.loop-k-init
loop-k-init c = (refl, read_start c.args.text.now c.args.bytes.now)

pub returns-in_err-bytes-clause-value : goal.returns-in_err-bytes-clause-value
returns-in_err-bytes-clause-value c =
    let i = c.loop-k in
    let text = c.args.text.now in
    let chunks = c.as_chunks.ensures in
    let byte = byte_at text _ i.k _ chunks.front (omega (arith, chunks.front_len)) (omega arith) c.byte_of.ensures in
    rw c.from_residual.ensures (read_stop text i.k (omega (arith, chunks.front_len)) (sym c.in_err-bytes.was ∙ byte))

pub loop-k-preserved : goal.loop-k-preserved
loop-k-preserved c =
    let i = c.loop-k in
    let text = c.args.text.now in
    let chunks = c.as_chunks.ensures in
    let byte = byte_at text _ i.k _ chunks.front (omega (arith, chunks.front_len)) (omega arith) c.byte_of.ensures in
    let more = read_turn text i.k (omega (arith, chunks.front_len)) i.bytes (omega arith) i.invariant.1 (sym c.in_ok-bytes.was ∙ byte) in
    (rw length-set i.invariant.0, more)

pub returns : goal.returns
returns c =
    let i = c.loop-k in
    let text = c.args.text.now in
    let count = c.as_chunks.ensures.front_len in
    let all = read_end text (length text / 2) i.k i.bytes (omega arith) (omega (arith, count)) (omega (arith, count)) i.invariant.1 in
    record { value = all.0; leads = all.1 }

use native.Mathlib.Omega.{arith}
use mathlib.Core.Path.{◌≡◌, sym, ◌∙◌}
use Prim.Native.Nat.{◌+◌, ◌-◌, ◌*◌, ◌≤◌}
use lib.ListN.{length}
use borrow.Author.Tests.{not-false}
use Rattle.quorum.specs.Configurations.{config_size}
use Rattle.validity.proofs.Same.{stride_next, next_same}
use Rattle.validity.proofs.Row.past_same.Goals as goal
use Rattle.validity.proofs.Row.past_same.Goals.{In-loop-k}

-- the bytes of the next one
room : (c : In-loop-k) → let row = c.args.self in
    row.at + row.stride * c.loop-k.k + config_size ≤ length row.bytes.now
room c = c.args.self.fits.2 c.loop-k.k c.loop-k-test.true

-- there is one before it, a stride before it
started : (c : In-loop-k) → c.loop-k.k ≡ 0 → ⊥
started c e = omega arith

before_it : (c : In-loop-k) → let row = c.args.self in let k = c.loop-k.k in
    row.at + row.stride * (k - 1) + row.stride ≡ row.at + row.stride * k
before_it c = let row = c.args.self in stride_next 0 row.bytes.now row.at row.stride c.loop-k.k (started c)

pub same_again-requires : goal.same_again-requires
same_again-requires c =
    let at = goal.at.same_again-requires c in
    let h = room at.In-loop-k in let e = before_it at.In-loop-k in omega arith

pub loop-k-preserved : goal.loop-k-preserved
loop-k-preserved c =
    let at = goal.at.loop-k-preserved c in
    let row = c.args.self in
    let same = sym c.same_again.ensures ∙ not-false _ c.if-not-same_again.false-raw in
    let k = c.loop-k.k in
    let valid = c.loop-k.invariant.2 in
    let next = c.past_eights-k.ensures in
    (omega arith, next.1, λ n v. next.2 n (next_same n row.bytes.now row.at row.stride k (started at.In-loop-k) (room at.In-loop-k) same (valid n v)))

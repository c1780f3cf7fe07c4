use borrow.Author.Rules.{rules}
use native.Mathlib.Omega.{arith}
use mathlib.Core.Path.{◌≡◌, sym, ◌∙◌}
use Prim.Native.Nat.{ℕ, ◌+◌, ◌-◌, ◌*◌, ◌≤◌, ◌<◌}
use lib.ListN.{length}
use borrow.Author.Tests.{not-false}
use Rattle.quorum.specs.Configurations.{config_size}
use Rattle.validity.proofs.Same.{stride_on, eight_more}
use Rattle.validity.proofs.Row.past_eights.Goals as goal
use Rattle.validity.proofs.Row.past_eights.Goals.{In-loop-k}

-- the bytes of the one before the next, and of the eight from the next on
room : (c : In-loop-k) → let row = c.args.self in
    (i : ℕ) → i < c.loop-k.k + 8 → row.at + row.stride * i + config_size ≤ length row.bytes.now
room c i l = c.args.self.fits.2 i (omega arith)

-- there is one before the next
started : (c : In-loop-k) → c.loop-k.k ≡ 0 → ⊥
started c e = omega arith

pub same_block-requires : goal.same_block-requires
same_block-requires c =
    let at = goal.at.same_block-requires c in
    let row = c.args.self in
    let k = c.loop-k.k in (
      room at.In-loop-k (k - 1) (omega arith),
      λ j l. rw (stride_on 0 row.bytes.now row.at row.stride k j (started at.In-loop-k)) (room at.In-loop-k (k + j) (omega arith)),
    )

pub loop-k-preserved : goal.loop-k-preserved
loop-k-preserved c =
    let at = goal.at.loop-k-preserved c in
    let row = c.args.self in
    let same = sym c.same_block.ensures ∙ not-false _ c.if-not-same_block.false-raw in
    let k = c.loop-k.k in
    let valid = c.loop-k.invariant.2 in
    (search rules, search rules, λ n v. eight_more n row.bytes.now row.at row.stride k (started at.In-loop-k) (room at.In-loop-k) same (valid n v))

use borrow.Author.Rules.{rules}
use native.Mathlib.Omega.{arith}
use native.Mathlib.Nat.{le_antisymm, add-sub_cancel_left}
use mathlib.Core.Path.{◌≡◌, sym, ap, ◌∙◌}
use Prim.Native.Nat.{◌+◌, ◌*◌, ◌≤◌}
use lib.ListN.{length}
use borrow.Author.Tests.{not-true, not-false}
use Rattle.quorum.specs.Configurations.{config_size}
use Rattle.validity.specs.Rows.{valid_at, valid_to}
use Rattle.validity.proofs.Same.{none_yet, one_more, one_fails}
use Rattle.validity.proofs.all_valid.Goals as goal
use Rattle.validity.proofs.all_valid.Goals.{After-config_ok, In-loop-k}

-- the bytes of configuration k
room : (c : In-loop-k) → let a = c.args in
    a.at + a.stride * c.loop-k.k + config_size ≤ length a.bytes.now
room c = c.requires.4 c.loop-k.k c.loop-k-test.true

pub loop-k-init : goal.loop-k-init
loop-k-init c = let a = c.args in (search rules, none_yet a.n a.bytes.now a.at a.stride)

pub overflow_mul-place : goal.overflow_mul-place
overflow_mul-place c = let h = room (goal.at.overflow_mul-place c).In-loop-k in search rules

pub overflow_add-place : goal.overflow_add-place
overflow_add-place c = let h = room (goal.at.overflow_add-place c).In-loop-k in search rules

pub overflow_add-place-in-loop-k : goal.overflow_add-place-in-loop-k
overflow_add-place-in-loop-k c = let h = room (goal.at.overflow_add-place-in-loop-k c).In-loop-k in search rules

pub config_ok-requires : goal.config_ok-requires
config_ok-requires c = let h = room (goal.at.config_ok-requires c).In-loop-k in search rules

-- what the test of configuration k says
tested : (c : After-config_ok) → let a = c.args in
    c.config_ok.result ≡ valid_at a.n a.bytes.now (a.at + a.stride * c.loop-k.k)
tested c =
    let whole = rw c.unwrap-config.ensures at c.as_array.ensures.cases in rw (whole.same, add-sub_cancel_left) at c.config_ok.ensures

pub returns-then-not-config_ok : goal.returns-then-not-config_ok
returns-then-not-config_ok c =
    let at = goal.at.returns-then-not-config_ok c in
    one_fails _ _ _ _ _ c.loop-k.k c.loop-k-test.true (sym (tested at.After-config_ok) ∙ not-true _ c.if-not-config_ok.true-raw)

pub loop-k-smaller : goal.loop-k-smaller
loop-k-smaller c = let l = c.loop-k-test.true in let g = c.past_same-k.ensures in omega arith

pub loop-k-preserved : goal.loop-k-preserved
loop-k-preserved c =
    let at = goal.at.loop-k-preserved c in
    let turn = c.loop-k in
    let next = c.past_same-k.ensures in
    (next.1, next.2 _ (one_more _ _ _ _ turn.k turn.invariant.1 (sym (tested at.After-config_ok) ∙ not-false _ c.if-not-config_ok.false-raw)))

pub returns : goal.returns
returns c =
    let a = c.args in
    let kept = c.loop-k.invariant in
    sym (ap (valid_to a.n a.bytes.now a.at a.stride) (le_antisymm c.loop-k-test.false kept.0) ∙ kept.1)

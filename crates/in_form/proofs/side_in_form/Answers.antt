use Rattle.basics.proofs.Tests.{clash}
use Rattle.in_form.proofs.Ordered.{yes, no, orderly_start, orderly_more, next_last, ends_here, ends_last, above_last, apart_here, is_apart, apart_is}
use Rattle.sets.proofs.Sides.{at_place}
use native.Mathlib.Omega.{arith}
use Rattle.quorum.specs.Configurations.{side_sets}
use lib.ListN.{get_or}
use mathlib.Core.Path.{◌≡◌, refl}
use Rattle.in_form.proofs.side_in_form.Goals as goal
use Rattle.in_form.proofs.side_in_form.Goals.{In-loop-k}

-- the set at a place of the loop
here : (c : In-loop-k) → get_or c.load_side-sets.result c.loop-k.k 0 ≡ side_sets c.args.side c.args.config.now c.loop-k.k
here c = rw c.load_side-sets.ensures (at_place (side_sets c.args.side c.args.config.now) c.loop-k.k c.loop-k-test.true)

pub loop-k-init : goal.loop-k-init
loop-k-init c = (rw c.load_side-sets.ensures refl, orderly_start _)

pub returns-then-set-eq0 : goal.returns-then-set-eq0
returns-then-set-eq0 c =
    let at = goal.at.returns-then-set-eq0 c in
    yes (ends_here _ _ c.loop-k.invariant.1 c.loop-k.auto.k c.loop-k-test.true (here at.In-loop-k) c.if-set-eq0.true)

pub returns-then-set-last : goal.returns-then-set-last
returns-then-set-last c =
    let at = goal.at.returns-then-set-last c in
    let i = c.loop-k.invariant in
    no (λ f. above_last _ _ i.1 c.loop-k.auto.k c.loop-k-test.true (here at.In-loop-k) c.if-set-eq0.false f i.0 c.if-set-last.true)

pub returns-then-not-none_within : goal.returns-then-not-none_within
returns-then-not-none_within c =
    let at = goal.at.returns-then-not-none_within c in
    let i = c.loop-k.invariant in
    no (λ f. clash
    (apart_is _ _ _ (omega (arith, c.loop-k-test.true)) c.load_side-sets.ensures c.none_within.ensures
    (apart_here _ _ i.1 c.loop-k.auto.k c.loop-k-test.true (here at.In-loop-k) c.if-set-eq0.false f))
    c.if-not-none_within.true)

pub loop-k-preserved : goal.loop-k-preserved
loop-k-preserved c =
    let at = goal.at.loop-k-preserved c in
    let i = c.loop-k.invariant in
    let apart = is_apart _ _ _ (omega (arith, c.loop-k-test.true)) c.load_side-sets.ensures c.none_within.ensures c.if-not-none_within.false in
    (next_last _ _ i.1 (here at.In-loop-k), orderly_more _ _ i.1 i.0 (here at.In-loop-k) c.if-set-last.false apart)

pub returns : goal.returns
returns c = yes (ends_last _ _ c.loop-k.invariant.1 c.loop-k.auto.k (c.loop-k.auto.k-end (omega arith)) c.loop-k-test.false)

use mathlib.Core.Path.{sym, ◌∙◌}
use mathlib.Core.Logic.{inl}
use Prim.Native.Nat.{◌+◌}
use native.Mathlib.Omega.{arith}
use Rattle.layout.proofs.OneWalk.{walk_empty}
use Rattle.rounds.specs.Heard.{HasFound}
use Rattle.planning.proofs.Walking.{Position, position_start, all_fit, next-below, turn, none_yet, none_more}
use Rattle.planning.proofs.Hearing.{walk_turn, says_after, says_never}
use Rattle.planning.proofs.first_heard.Goals as goal
use Rattle.planning.proofs.first_heard.Goals.{After-into_iter-before-iterator, After-onward-newest, After-with_station-polled}

started : (c : After-into_iter-before-iterator)
    → let all = c.into_iter-before-iterator.result in Position c.args.on all.count all.iter.0 0
started c =
    let all = c.enumerate-before-items.ensures in
    rw (c.into_iter-before-iterator.ensures.into_iter_gives, all.count, all.source) (position_start _ c.ranges.on.fits)

pub loop-before-init : goal.loop-before-init
loop-before-init c =
    let start = started (goal.at.loop-before-init c).After-into_iter-before-iterator in (
      (tt, tt, inl (omega (arith, all_fit start))),
      start,
      rw (c.into_iter-before-iterator.ensures.into_iter_gives, c.enumerate-before-items.ensures.count) none_yet,
      sym (walk_empty _ _),
    )

pub onward-newest-requires : goal.onward-newest-requires
onward-newest-requires c =
    let step = c.in-Some.ensures.steps.0 in next-below c.loop-before.invariant.1 step.0 step.1 _ c.requires

-- the position after it, and what the walk has found then
stepped : (c : After-with_station-polled)
    → Position c.args.on (c.loop-before.before-iterator.count + 1) c.next.new.self.iter.0 c.with_station-polled.result
stepped c =
    let step = c.in-Some.ensures.steps.0 in turn c.loop-before.invariant.1 step.0 step.1 step.2 c.with_station-polled.ensures

found : (c : After-onward-newest)
    → let a = c.args.copies in HasFound a.table.now a.n a.item c.with_station-polled.result c.onward-newest.result
found c =
    let inv = c.loop-before.invariant in
    let step = c.in-Some.ensures.steps.0 in
    walk_turn _ _ inv.1 c.requires step.0 inv.3 step.1 c.with_station-polled.ensures c.onward-newest.ensures

pub is_heard-requires : goal.is_heard-requires
is_heard-requires c = found (goal.at.is_heard-requires c).After-onward-newest

pub returns-then-is_heard : goal.returns-then-is_heard
returns-then-is_heard c =
    let at = goal.at.returns-then-is_heard c in
    let none = c.loop-before.invariant.2 in
    let heard = sym c.is_heard.ensures ∙ c.if-is_heard.true in
    rw c.in-Some.ensures.steps.1 (says_after _ _ none (stepped at.After-with_station-polled) (found at.After-onward-newest) heard)

pub loop-before-preserved : goal.loop-before-preserved
loop-before-preserved c =
    let at = goal.at.loop-before-preserved c in
    let after = stepped at.After-with_station-polled in
    let one_more = c.in-Some.ensures.steps.2 in
    let none = none_more c.loop-before.invariant.2 after (sym c.is_heard.ensures ∙ c.if-is_heard.false) in
    ((tt, tt, inl (omega (arith, one_more, all_fit after))), rw one_more after, rw one_more none, sym (found at.After-onward-newest))

pub returns : goal.returns
returns c = let turned = c.loop-before.invariant in says_never _ _ turned.2 turned.1 c.in-None.ensures.steps.0.0

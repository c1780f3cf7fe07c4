use mathlib.Core.Path.{sym, ap, ◌∙◌}
use mathlib.Core.Logic.{inl}
use Prim.Native.Nat.{◌+◌}
use native.Mathlib.Omega.{arith}
use Rattle.planning.proofs.Walking.{Position, position_start, all_fit, turn, none_yet, none_more, first_passes, none_at_all}
use Rattle.planning.proofs.puts_needed.Goals as goal
use Rattle.planning.proofs.puts_needed.Goals.{After-into_iter-before-iterator, After-with_station-written}

started : (c : After-into_iter-before-iterator)
    → let all = c.into_iter-before-iterator.result in Position c.args.on all.count all.iter.0 0
started c =
    let all = c.enumerate-before-items.ensures in
    rw (c.into_iter-before-iterator.ensures.into_iter_gives, all.count, all.source) (position_start _ c.ranges.on.fits)

pub loop-before-init : goal.loop-before-init
loop-before-init c =
    let start = started (goal.at.loop-before-init c).After-into_iter-before-iterator in (
      (tt, tt, inl (omega (arith, all_fit start))),
      start,
      rw (c.into_iter-before-iterator.ensures.into_iter_gives, c.enumerate-before-items.ensures.count) none_yet,
    )

-- the position after a station is taken
stepped : (c : After-with_station-written)
    → Position c.args.on (c.loop-before.before-iterator.count + 1) c.next.new.self.iter.0 c.with_station-written.result
stepped c =
    let step = c.in-Some.ensures.steps.0 in turn c.loop-before.invariant.1 step.0 step.1 step.2 c.with_station-written.ensures

pub returns-then-holds_side : goal.returns-then-holds_side
returns-then-holds_side c =
    let after = stepped (goal.at.returns-then-holds_side c).After-with_station-written in
    let passes = first_passes c.loop-before.invariant.2 after (sym c.holds_side.ensures ∙ c.if-holds_side.true) in
    ap (λ x. x + 1) c.in-Some.ensures.steps.1 ∙ sym passes

pub loop-before-preserved : goal.loop-before-preserved
loop-before-preserved c =
    let after = stepped (goal.at.loop-before-preserved c).After-with_station-written in
    let one_more = c.in-Some.ensures.steps.2 in
    let none = none_more c.loop-before.invariant.2 after (sym c.holds_side.ensures ∙ c.if-holds_side.false) in
    ((tt, tt, inl (omega (arith, one_more, all_fit after))), rw one_more after, rw one_more none)

pub returns : goal.returns
returns c = let turned = c.loop-before.invariant in sym (none_at_all turned.2 turned.1 c.in-None.ensures.steps.0.0)

use native.Mathlib.Omega.{arith}
use borrow.Author.Rules.{rules}
use Prim.Native.Nat.{◌+◌, ◌≤◌}
use mathlib.Core.Path.{refl, ◌∙◌}
use lib.ListN.{length}
use Rattle.layout.specs.Layout.{copy_size}
use Rattle.layout.proofs.Along.{left_done, left_past, left_turn}
use Rattle.table.proofs.ItemCopies.{copy_fits}
use Rattle.rounds.specs.Round.{as_round}
use Rattle.writes.proofs.Writes.{puts_along, put_turn}
use Rattle.writes.proofs.put_each.Goals as goal
use Rattle.writes.proofs.put_each.Goals.{After-address-at}

pub loop-s-init : goal.loop-s-init
loop-s-init c = (
  refl,
  refl,
  record {
    comes_to = rw (c.into_iter-s-iterator.ensures.into_iter_gives, c.united.ensures) (puts_along c.args.t.now c.args.n (as_round c.args.round) _ c.args.n);
    small = rw c.into_iter-s-iterator.ensures.into_iter_gives (search rules);
  },
)

pub returns-then-n-s : goal.returns-then-n-s
returns-then-n-s c = left_past c.loop-s.invariant.2 c.in-Some.ensures.steps.1 c.if-n-s.true

-- the copy of the turn's station is there
fits : (c : After-address-at) → c.address-at.result + copy_size ≤ length c.args.t.now
fits c = copy_fits c.requires c.if-n-s.false c.address-at.ensures

pub put_data_if-requires : goal.put_data_if-requires
put_data_if-requires c =
    omega (arith, fits (goal.at.put_data_if-requires c).After-address-at, c.loop-s.invariant.1)

pub put_config_if-requires : goal.put_config_if-requires
put_config_if-requires c =
    omega (arith, fits (goal.at.put_config_if-requires c).After-address-at, c.loop-s.invariant.1, c.put_data_if.auto.t)

pub loop-s-preserved : goal.loop-s-preserved
loop-s-preserved c =
    let inv = c.loop-s.invariant in
    let step = c.in-Some.ensures.steps in
    let round = as_round c.args.round in
    let put = put_turn _ round _ _ _ c.address-at.ensures c.is_member.ensures c.is_member-in-loop-s.ensures inv.0
    c.put_data_if.ensures c.put_config_if.ensures in (
      inv.0,
      c.put_config_if.auto.t ∙ c.put_data_if.auto.t ∙ inv.1,
      left_turn inv.2 step.0 step.2 step.1 c.if-n-s.false put,
    )

pub returns : goal.returns
returns c = left_done c.loop-s.invariant.2 c.in-None.ensures.steps.0

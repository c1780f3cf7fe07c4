use mathlib.Core.Path.{refl}
use Prim.Native.Nat.{◌<◌}
use Rattle.layout.specs.Fields.{items}
use Rattle.layout.specs.View.{view}
use Rattle.rounds.proofs.Hearing.{copies_in_table}
use Rattle.rules.specs.Calls.{reach, plan}
use Rattle.rules.specs.Needs.{needs}
use Rattle.rules.specs.declared.Refusal.TheVariants.{OutOfHearing}
use Rattle.rules.proofs.Outcomes.{refused, refused_figures, finished, shown}
use Rattle.planning.proofs.Plans.{no_item_lem, on_within, unheard, heard, figures}
use Rattle.planning.proofs.plan_on.Goals as goal
use Rattle.planning.proofs.plan_on.Goals.{After-on_bus-on}

-- the item is there
there : (c : After-on_bus-on) → c.args.i < items c.args.table.bytes.now
unfolding needs view
there c = (shown _ c.args.table.is_sound (reach _) refl c.in_ok-check_item.ensures).1.0

pub returns-in_err-check_item : goal.returns-in_err-check_item
returns-in_err-check_item c =
    let number = no_item_lem _ _ _ c.in_err-check_item.ensures in
    (refused_figures _ c.args.table.is_sound (plan _) refl c.from_residual.result _ c.from_residual.ensures.1 number).value

pub invariant_of-copies : goal.invariant_of-copies
invariant_of-copies c =
    record { in_table = copies_in_table _ c.args.table.is_sound c.stations.ensures (there (goal.at.invariant_of-copies c).After-on_bus-on) }

pub first_heard-requires : goal.first_heard-requires
first_heard-requires c =
    on_within _ c.args.table.is_sound _ (there (goal.at.first_heard-requires c).After-on_bus-on) c.stations.ensures c.on_bus-on.ensures

pub returns-in_default : goal.returns-in_default
returns-in_default c =
    let at = goal.at.returns-in_default c in
    let number = unheard _ c.args.table.is_sound _ (there at.After-on_bus-on) c.stations.ensures c.on_bus-on.ensures c.in_default.ensures in
    (refused _ c.args.table.is_sound (plan _) refl OutOfHearing number).value

pub returns : goal.returns
returns c =
    let at = goal.at.returns c in
    let s = c.args.table.is_sound in
    let n = c.stations.ensures in
    let on = c.on_bus-on.ensures in
    let one = c.in-Some.first in
    let config = c.config_found.ensures in
    (finished _ s (plan _) refl (heard _ s _ (there at.After-on_bus-on) n on one c.in-Some.ensures config c.puts_needed.ensures)
    (figures _ s _ (there at.After-on_bus-on) n on one c.in-Some.ensures config c.puts_needed.ensures) refl).value

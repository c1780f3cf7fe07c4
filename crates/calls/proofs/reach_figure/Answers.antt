use mathlib.Core.Path.{◌≡◌, sym, ◌∙◌}
use mathlib.Core.Bool.{Bool, cond}
use borrow.Author.Tests.{not-true, not-false}
use Rattle.layout.specs.View.{view}
use Rattle.layout.proofs.OneWalk.{nobody_hears}
use Rattle.newest.proofs.Walks.{has_found, nobody_found}
use Rattle.rounds.specs.Heard.{HasFound}
use Rattle.rounds.proofs.Hearing.{copies_in_table}
use Rattle.rules.specs.Figures.{reach_figure}
use Rattle.calls.proofs.Figures.{not_reached, reached}
use Rattle.calls.proofs.reach_figure.Goals as goal
use Rattle.calls.proofs.reach_figure.Goals.{After-holds_side, After-on_bus-on, In-Some}

found : (c : In-Some) → HasFound c.args.table.bytes.now c.stations.result c.args.i c.on_bus-on.result c.in-Some.newest
found c = has_found c.walk.ensures.walked c.in-Some.is

pub invariant_of-copies : goal.invariant_of-copies
invariant_of-copies c = record { in_table = copies_in_table _ c.args.table.is_sound c.stations.ensures c.requires }

pub returns-in_default : goal.returns-in_default
returns-in_default c =
    not_reached _ _ c.stations.ensures c.on_bus-on.ensures
    (nobody_hears _ _ _ (nobody_found c.walk.ensures.walked c.in_default.is))

pub returns-then-not-is_heard : goal.returns-then-not-is_heard
returns-then-not-is_heard c =
    not_reached _ _ c.stations.ensures c.on_bus-on.ensures (sym c.is_heard.ensures ∙ not-true _ c.if-not-is_heard.true-raw)

figure : (c : After-holds_side) {r : Bool} → HasFound c.args.table.bytes.now c.stations.result c.args.i c.on_bus-on.result c.in-Some.newest
    → c.holds_side.result ≡ r → cond r 3 1 ≡ reach_figure (view c.args.table.bytes.now) c.args.i
figure c own e =
    reached _ _ c.stations.ensures c.on_bus-on.ensures (sym c.is_heard.ensures ∙ not-false _ c.if-not-is_heard.false-raw)
    own c.config_found.ensures (sym e ∙ c.holds_side.ensures)

pub returns-then-not-holds_side : goal.returns-then-not-holds_side
returns-then-not-holds_side c =
    let at = goal.at.returns-then-not-holds_side c in
    figure at.After-holds_side (found at.In-Some) (not-true _ c.if-not-holds_side.true-raw)

pub returns : goal.returns
returns c =
    let at = goal.at.returns c in
    figure at.After-holds_side (found at.In-Some) (not-false _ c.if-not-holds_side.false-raw)

use borrow.Author.Tests.{not-true, not-false}
use Rattle.std.proofs.Common.{◌≡◌, true, false, sym, ap, ◌∙◌, arith}
use Rattle.quorum.specs.Configurations.{place_figure}
use Rattle.quorum.proofs.Promise.{promise}
use Rattle.layout.proofs.Newer.{place_fits}
use Rattle.layout.proofs.OneWalk.{version_carried, generation_carried, station_figure_lem, nobody_hears, nobody_place, nobody_figure}
use Rattle.layout.proofs.Soundness.{is_sound_lem}
use Rattle.layout.specs.View.{view, heard}
use Rattle.newest.proofs.Walks.{has_found, nobody_found}
use Rattle.rounds.specs.Heard.{OwnFound}
use Rattle.closing.proofs.Answers.{commit_number, diagnosis_is}
use Rattle.closing.proofs.RoundFound.{version_there, heard_at, place_heard}
use Rattle.closing.proofs.diagnosed.Goals as goal
use Rattle.closing.proofs.diagnosed.Goals.{After-is_some, Else-not-is_some, In-Some}

found : (c : In-Some) → OwnFound c.args.table.bytes.now c.in-Some.newest
found c = has_found c.round_found.ensures c.in-Some.is

pub returns-in_default : goal.returns-in_default
returns-in_default c =
    let nobody = nobody_found c.round_found.ensures c.in_default.is in
    let number = c.number.ensures ∙ commit_number c.requires (nobody_hears _ _ _ nobody) in
    c.one.ensures
    ∙ diagnosis_is c.requires c.args.table.is_sound number (nobody_figure _ _ _ nobody) (sym ((promise.figure_nowhere _).1 (nobody_place _ _ _ nobody)))

pub overflow_add-station : goal.overflow_add-station
unfolding view
overflow_add-station c =
    omega (arith, version_there _ (found (goal.at.overflow_add-station c).In-Some), (is_sound_lem _ c.args.table.is_sound).small)

-- whether the round is heard
heard_test : (c : After-is_some) → c.is_some.result ≡ heard (view c.args.table.bytes.now)
heard_test c = c.is_some.ensures ∙ place_heard _ c.round_place-place.ensures

pub returns-then-not-is_some : goal.returns-then-not-is_some
returns-then-not-is_some c =
    let at = goal.at.returns-then-not-is_some c in
    let nowhere : c.is_some.result ≡ false = not-true _ c.if-not-is_some.true-raw in
    let number = c.number-then-not-is_some.ensures ∙ commit_number c.requires (sym (heard_test at.After-is_some) ∙ nowhere) in
    let no_place = (promise.figure_none _).1 (sym c.is_some.ensures ∙ nowhere) in
    c.diagnosis.ensures
    ∙ diagnosis_is c.requires c.args.table.is_sound number (station_figure_lem _ _ _ (found at.In-Some))
    (sym (ap place_figure (sym c.round_place-place.ensures) ∙ no_place))

there : (c : Else-not-is_some) → c.is_some.result ≡ heard (view c.args.table.bytes.now) → heard (view c.args.table.bytes.now) ≡ true
there c tested = sym tested ∙ not-false _ c.if-not-is_some.false-raw

pub check_closing-outcome-requires : goal.check_closing-outcome-requires
check_closing-outcome-requires c =
    let at = goal.at.check_closing-outcome-requires c in
    let own = found at.In-Some in
    let heard_round = there at.Else-not-is_some (heard_test at.After-is_some) in
    (heard_at _ own c.args.table.is_sound c.requires c.round_copy-g.ensures heard_round, version_carried _ _ _ own, generation_carried _ _ _ own)

pub place_figure-requires : goal.place_figure-requires
place_figure-requires c = rw c.round_place-place.ensures (place_fits _ _ _)

pub returns : goal.returns
returns c =
    let at = goal.at.returns c in
    let heard_round = there at.Else-not-is_some (heard_test at.After-is_some) in
    let number = c.number_of.ensures ∙ c.check_closing-outcome.ensures ∙ commit_number c.requires heard_round in
    c.diagnosis-2.ensures
    ∙ diagnosis_is c.requires c.args.table.is_sound number (station_figure_lem _ _ _ (found at.In-Some))
    (c.place_figure.ensures ∙ ap place_figure c.round_place-place.ensures)

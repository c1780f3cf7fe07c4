use mathlib.Core.Path.{◌≡◌, refl, ◌∙◌}
use Rattle.std.proofs.lemmas.Result.{err_from_is_err_and}
use borrow.Author.Rules.{rules}
use Rattle.form.proofs.Laws.{form_any}
use Rattle.layout.specs.View.{view}
use Rattle.rules.specs.Calls.{lay}
use Rattle.rules.specs.Figures.{figures_of}
use Rattle.rules.specs.After.{done}
use Rattle.rules.specs.Rules.{number_of}
use Rattle.rules.proofs.Outcomes.{by_refusal, by_plain}
use Rattle.ospreyscreen.proofs.Laying.{lay_number_is, lay_room, lay_valid}
use Rattle.ospreyscreen.proofs.lay.Goals as goal
use Rattle.ospreyscreen.proofs.lay.Goals.{In_ok-check_lay}

pub returns-in_err-check_lay : goal.returns-in_err-check_lay
returns-in_err-check_lay c =
    let value = c.args.value in
    let p = err_from_is_err_and c.from_residual.result c.from_residual.ensures.1 in
    rw (p.1, p.2) (by_refusal _ (lay _ _ value _) _ (c.in_err-check_lay.ensures ∙ lay_number_is _ _ _ value _))

-- the call is done
allowed : (c : In_ok-check_lay) → let a = c.args in 0 ≡ number_of (view a.table.now) (lay a.n a.m a.value a.config.now)
allowed c = let a = c.args in c.in_ok-check_lay.ensures ∙ lay_number_is a.table.now _ _ a.value a.config.now

pub form_of-form-requires : goal.form_of-form-requires
form_of-form-requires c = (_, lay_valid _ _ _ _ _ (allowed (goal.at.form_of-form-requires c).In_ok-check_lay))

pub lay_bytes-requires : goal.lay_bytes-requires
lay_bytes-requires c =
    let room = lay_room _ _ _ _ _ (allowed (goal.at.lay_bytes-requires c).In_ok-check_lay) in
    (room.0, room.1, room.2, room.3, room.4, search rules)

pub returns : goal.returns
unfolding done figures_of
returns c =
    let number = allowed (goal.at.returns c).In_ok-check_lay in
    let valid = lay_valid _ _ _ _ _ number in
    by_plain _ (lay _ _ c.args.value _) number refl (c.lay_bytes.ensures ∙ rw (c.form_of-form.ensures, form_any _ _ valid))

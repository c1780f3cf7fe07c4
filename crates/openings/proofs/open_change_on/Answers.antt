use Rattle.std.proofs.Common.{refl, ◌∙◌}
use Rattle.quorum.proofs.Promise.{promise}
use Rattle.form.proofs.Laws.{form_any}
use Rattle.layout.proofs.Soundness.{sound_head}
use Rattle.rules.specs.Calls.{open_change}
use Rattle.rules.specs.Figures.{figures_of}
use Rattle.rules.specs.After.{done}
use Rattle.rules.specs.Needs.{needs}
use Rattle.rules.proofs.Outcomes.{refused_plain, plain_finished, shown}
use Rattle.openings.proofs.Replies.{item_byte}
use Rattle.openings.proofs.open_change_on.Goals as goal

pub returns-in_err-check_open_change : goal.returns-in_err-check_open_change
returns-in_err-check_open_change c =
    refused_plain _ c.requires (open_change _ _) refl c.from_residual.result _ c.from_residual.ensures.1 c.in_err-check_open_change.ensures

pub overflow_cast-i : goal.overflow_cast-i
unfolding needs
overflow_cast-i c =
    let s = c.requires in
    let a = shown _ s (open_change _ _) refl c.in_ok-check_open_change.ensures in record { fits = item_byte _ s a.1.0 }

pub form_of-requires : goal.form_of-requires
unfolding needs
form_of-requires c =
    (_, (promise.valid_exactly _ _).1 (shown _ c.requires (open_change _ _) refl c.in_ok-check_open_change.ensures).1.1.0)

pub open_round-requires : goal.open_round-requires
open_round-requires c = sound_head _ c.requires

pub returns : goal.returns
unfolding done figures_of needs
returns c =
    let e = c.in_ok-check_open_change.ensures in
    let valid = (promise.valid_exactly _ _).1 (shown _ c.requires (open_change _ _) refl e).1.1.0 in
    plain_finished _ c.requires (open_change _ _) refl e refl (c.open_round.ensures ∙ rw (c.form_of.ensures, form_any _ _ valid))

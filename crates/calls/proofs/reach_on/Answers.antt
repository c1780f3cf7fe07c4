use mathlib.Core.Path.{refl, ap, ◌∙◌}
use Rattle.layout.specs.View.{view}
use Rattle.rules.specs.Calls.{reach}
use Rattle.rules.specs.Figures.{figures_of, one_figure}
use Rattle.rules.specs.Needs.{needs}
use Rattle.rules.proofs.Outcomes.{refused_figures, finished, shown}
use Rattle.calls.proofs.reach_on.Goals as goal

pub returns-in_err-check_item : goal.returns-in_err-check_item
returns-in_err-check_item c =
    (refused_figures _ c.args.table.is_sound (reach _) refl c.from_residual.result _ c.from_residual.ensures.1 c.in_err-check_item.ensures).value

pub reach_figure-requires : goal.reach_figure-requires
unfolding needs view
reach_figure-requires c =
    let s = c.args.table.is_sound in
    (shown _ s (reach _) refl c.in_ok-check_item.ensures).1.0

pub returns : goal.returns
unfolding figures_of
returns c =
    (finished _ c.args.table.is_sound (reach _) refl c.in_ok-check_item.ensures (c.one.ensures ∙ ap one_figure c.reach_figure.ensures) refl).value

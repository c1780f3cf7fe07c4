use mathlib.Core.Path.{refl, ◌∙◌}
use Rattle.rules.specs.Calls.{diagnose}
use Rattle.rules.specs.Figures.{figures_of}
use Rattle.rules.proofs.Outcomes.{refused_figures, finished}
use Rattle.calls.proofs.Committing.{diagnose_asks}
use Rattle.calls.proofs.diagnose_on.Goals as goal

pub returns-in_err-kind : goal.returns-in_err-kind
returns-in_err-kind c =
    let asked = c.in_err-kind.ensures.value ∙ diagnose_asks _ in
    (refused_figures _ c.args.table.is_sound diagnose refl c.from_residual.result _ c.from_residual.ensures.1 asked).value

pub returns : goal.returns
unfolding figures_of
returns c = (finished _ c.args.table.is_sound diagnose refl (c.in_ok-kind.ensures.value ∙ diagnose_asks _) c.diagnosed.ensures refl).value

-- The demands hold of the definitions, and what else is stated of them: each theorem is of the statement in the file of specs/ that
-- bears its name.
use mathlib.Core.Path.{refl}
use Rattle.rules.specs.Calls.{reach, plan}
use Rattle.rules.specs.After.{done}
use Rattle.rules.specs.Demand1.{Demand1}
use Rattle.rules.specs.Steps.{Steps}
use Rattle.rules.proofs.Demand1.{refusal_changes_nothing, refusal_has_no_figures, other_calls_have_no_figures, number_is_listed}
use Rattle.rules.proofs.Room.{figures_fit}
use Rattle.rules.proofs.Laws.{done-step, length_kept, bytes_kept}
use Rattle.rules.proofs.Twice.{settled}
use Rattle.rules.proofs.DiagnoseExact.{diagnose_nothing}
pub use Rattle.rules.proofs.Judged.{numbered}
pub use Rattle.rules.proofs.Demand2.{demand2}
pub use Rattle.rules.proofs.Demand3.{demand3}
pub use Rattle.rules.proofs.Kept.{sound_kept}
pub use Rattle.rules.proofs.OffAtFirst.{off_at_first}
pub use Rattle.rules.proofs.ReachExact.{reach_exact}
pub use Rattle.rules.proofs.DiagnoseExact.{diagnose_exact}
pub use Rattle.rules.proofs.Twice.{twice, lay_alone}
pub use Rattle.rules.proofs.Alike.{alike_tables}

pub demand1 : Demand1
demand1 =
    record {
      refusal_changes_nothing = refusal_changes_nothing;
      refusal_has_no_figures = refusal_has_no_figures;
      other_calls_have_no_figures = other_calls_have_no_figures;
      number_is_listed = number_is_listed;
      figures_fit = figures_fit;
      length_kept = length_kept;
      bytes_kept = bytes_kept;
    }

pub steps : Steps
unfolding done
steps =
    record {
      step = λ t c b p e. done-step t c e b p;
      reach_changes_nothing = λ t i. settled t (reach i) refl;
      diagnose_changes_nothing = diagnose_nothing;
      plan_changes_nothing = λ t i. settled t (plan i) refl;
    }

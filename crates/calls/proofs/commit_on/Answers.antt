use mathlib.Core.Path.{refl, ap}
use Rattle.layout.specs.View.{view}
use Rattle.layout.proofs.Soundness.{is_sound_lem}
use Rattle.rounds.proofs.Hearing.{items_in_table}
use Rattle.rules.specs.Calls.{commit}
use Rattle.rules.proofs.Outcomes.{refused_figures}
use Rattle.std.proofs.lemmas.Result.{err_from_is_err_and}
use Rattle.calls.proofs.Committing.{commit_asks, commit_refused, commit_finished}
use Rattle.calls.proofs.commit_on.Goals as goal

pub returns-in_err-kind : goal.returns-in_err-kind
returns-in_err-kind c =
    refused_figures _ c.requires commit refl c.from_residual.result _ c.from_residual.ensures.1 (commit_asks _ _ c.in_err-kind.ensures.value)

pub returns-in_err-figures : goal.returns-in_err-figures
returns-in_err-figures c =
    let p = err_from_is_err_and c.from_residual-in_err-figures.result c.from_residual-in_err-figures.ensures.1 in
    rw (p.1, p.2) (commit_refused _ _ c.in_err-figures.ensures)

pub finish-requires : goal.finish-requires
unfolding view
finish-requires c =
    let s = c.requires in
    rw (c.stations.ensures, ap (λ r. r.item) c.«of».ensures.round) (items_in_table _ s _ (is_sound_lem _ s).item)

pub returns : goal.returns
returns c = commit_finished _ c.in_ok-figures.ensures c.stations.ensures c.«of».ensures.round c.finish.ensures

use mathlib.Core.Path.{◌≡◌, refl, ap, ◌∙◌}
use Rattle.layout.specs.Fields.{round_of}
use Rattle.layout.specs.Rounds.{with_poll}
use Rattle.layout.specs.Updates.{set_polled}
use Rattle.layout.specs.View.{view}
use Rattle.layout.proofs.Newer.{place_fits}
use Rattle.rounds.specs.Round.{as_round}
use Rattle.rounds.proofs.Hearing.{own_copies}
use Rattle.rules.specs.Calls.{poll}
use Rattle.rules.specs.After.{done}
use Rattle.rules.proofs.Outcomes.{refused_figures, finished}
use Rattle.calls.proofs.Figures.{poll_figure}
use Rattle.calls.proofs.poll_on.Goals as goal
use Rattle.calls.proofs.poll_on.Goals.{After-poll-round}

round : (c : After-poll-round) → as_round c.poll-round.result ≡ with_poll (round_of c.args.t.now) c.args.station
round c = c.poll-round.ensures ∙ ap (λ r. with_poll r c.args.station) c.«of».ensures.round

pub returns-in_err-check_poll : goal.returns-in_err-check_poll
returns-in_err-check_poll c =
    refused_figures _ c.requires (poll _) refl c.from_residual.result _ c.from_residual.ensures.1 c.in_err-check_poll.ensures

pub invariant_of-copies : goal.invariant_of-copies
invariant_of-copies c =
    record { in_table = own_copies _ c.requires c.stations.ensures (ap (λ r. r.item) (round (goal.at.invariant_of-copies c).After-poll-round)) }

pub place_figure-requires : goal.place_figure-requires
place_figure-requires c =
    rw c.heard_place-place.ensures (place_fits _ _ _)

pub returns : goal.returns
unfolding done view
returns c =
    let at = goal.at.returns c in
    let item = ap (λ r. r.item) (round at.After-poll-round) in
    let set = ap (λ r. r.polled) (round at.After-poll-round) in
    let figure = poll_figure _ _ c.stations.ensures item set c.heard_place-place.ensures c.place_figure.ensures in
    finished _ c.requires (poll _) refl c.in_ok-check_poll.ensures (c.one.ensures ∙ figure) (c.set_polled.ensures ∙ ap (set_polled _) set)

use mathlib.Core.Path.{◌≡◌, refl, ap, ◌∙◌}
use Prim.Native.Nat.{ℕ}
use Rattle.layout.specs.Rounds.{with_put}
use Rattle.layout.specs.View.{view}
use Rattle.layout.specs.declared.Sort.{Sort}
use Rattle.layout.specs.declared.Sort.TheVariants.{Data, Configuration}
use Rattle.rounds.specs.Round.{is_data as is_data_put}
use Rattle.rules.specs.Calls.{put, is_data}
use Rattle.rules.specs.Figures.{figures_of}
use Rattle.rules.specs.After.{done, puts_of}
use Rattle.rules.proofs.Outcomes.{refused_plain, plain_finished}
use Rattle.numbers.specs.Tests.{sort_number}
use Rattle.calls.proofs.put_on.Goals as goal

data_put : (sort : Sort) {x : ℕ} → sort_number sort ≡ x → is_data_put sort ≡ is_data x
data_put Data e = ap is_data e
data_put Configuration e = ap is_data e

pub returns-in_err-listed : goal.returns-in_err-listed
returns-in_err-listed c =
    refused_plain _ c.requires (put _ _) refl c.from_residual.result _ c.from_residual.ensures.1 c.in_err-listed.ensures.value

pub returns : goal.returns
unfolding done figures_of view
returns c =
    let sort = data_put c.in_ok-listed.listed c.in_ok-listed.ensures.sort in
    let round = c.put-round.ensures ∙ (λ j. with_put (c.«of».ensures.round j) c.args.station (sort j)) in
    plain_finished _ c.requires (put _ _) refl c.in_ok-listed.ensures.value refl (c.set_puts.ensures ∙ ap (puts_of _) round)

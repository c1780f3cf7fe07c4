use mathlib.Core.Path.{◌≡◌, refl, sym, ap, ◌∙◌}
use mathlib.Core.Bool.{true, false}
use Rattle.layout.specs.Rounds.{with_link}
use Rattle.layout.specs.View.{view}
use Rattle.rules.specs.Calls.{link, is_off}
use Rattle.rules.specs.Figures.{figures_of}
use Rattle.rules.specs.After.{done}
use Rattle.rules.proofs.Outcomes.{refused_plain, plain_finished}
use Rattle.calls.proofs.link_on.Goals as goal
use Rattle.calls.proofs.link_on.Goals.{In-Off, In-On}

pub returns-in_err-listed : goal.returns-in_err-listed
returns-in_err-listed c =
    refused_plain _ c.requires (link _ _) refl c.from_residual.result _ c.from_residual.ensures.1 c.in_err-listed.ensures.value

goes_off : (c : In-Off) → is_off c.args.state ≡ true
goes_off c = ap is_off (sym (rw c.in-Off.is at c.in_ok-listed.ensures.link))

comes_on : (c : In-On) → is_off c.args.state ≡ false
comes_on c = ap is_off (sym (rw c.in-On.is at c.in_ok-listed.ensures.link))

pub returns-in-Off : goal.returns-in-Off
unfolding done figures_of view
returns-in-Off c =
    let left = c.drop-left.ensures ∙ ap (λ r. with_link r c.args.station true) c.of-round.ensures.round in
    plain_finished _ c.requires (link _ _) refl c.in_ok-listed.ensures.value refl
    (c.set_puts.ensures ∙ rw (
      c.set_off.ensures,
      c.with_station.ensures,
      ap (λ r. r.data_puts) left,
      ap (λ r. r.config_puts) left,
      c.off_set-off.ensures,
      goes_off (goal.at.returns-in-Off c).In-Off,
    ))

pub returns-in-On : goal.returns-in-On
unfolding done figures_of view
returns-in-On c =
    plain_finished _ c.requires (link _ _) refl c.in_ok-listed.ensures.value refl
    (c.set_puts-in-On.ensures ∙ rw (
      c.set_off-in-On.ensures,
      c.without_station.ensures,
      ap (λ r. r.data_puts) c.of-round.ensures.round,
      ap (λ r. r.config_puts) c.of-round.ensures.round,
      c.off_set-off.ensures,
      comes_on (goal.at.returns-in-On c).In-On,
    ))

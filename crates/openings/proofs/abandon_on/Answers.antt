use Rattle.std.proofs.Common.{refl}
use Rattle.layout.proofs.Soundness.{sound_head}
use Rattle.rules.specs.Calls.{abandon}
use Rattle.rules.specs.Figures.{figures_of}
use Rattle.rules.specs.After.{done}
use Rattle.rules.proofs.Outcomes.{refused_plain, plain_finished}
use Rattle.openings.proofs.abandon_on.Goals as goal

pub returns-in_err-check_open_round : goal.returns-in_err-check_open_round
returns-in_err-check_open_round c =
    refused_plain _ c.requires abandon refl c.from_residual.result _ c.from_residual.ensures.1 c.in_err-check_open_round.ensures.value

pub close_round-requires : goal.close_round-requires
close_round-requires c = sound_head _ c.requires

pub returns : goal.returns
unfolding done figures_of
returns c = plain_finished _ c.requires abandon refl c.in_ok-check_open_round.ensures.value refl c.close_round.ensures

use Rattle.std.proofs.Common.{refl}
use Rattle.layout.proofs.Soundness.{sound_head}
use Rattle.rules.specs.Calls.{open_read}
use Rattle.rules.specs.Figures.{figures_of}
use Rattle.rules.specs.After.{done}
use Rattle.rules.specs.Needs.{needs}
use Rattle.rules.proofs.Outcomes.{refused_plain, plain_finished, shown}
use Rattle.openings.proofs.Replies.{item_byte}
use Rattle.openings.proofs.open_read_on.Goals as goal

pub returns-in_err-check_open : goal.returns-in_err-check_open
returns-in_err-check_open c = refused_plain _ c.requires (open_read _) refl c.from_residual.result _ c.from_residual.ensures.1 c.in_err-check_open.ensures

pub overflow_cast-i : goal.overflow_cast-i
unfolding needs
overflow_cast-i c =
    let s = c.requires in
    let a = shown _ s (open_read _) refl c.in_ok-check_open.ensures in record { fits = item_byte _ s a.1.0 }

pub open_round-requires : goal.open_round-requires
open_round-requires c = sound_head _ c.requires

pub returns : goal.returns
unfolding done figures_of
returns c = plain_finished _ c.requires (open_read _) refl c.in_ok-check_open.ensures refl c.open_round.ensures

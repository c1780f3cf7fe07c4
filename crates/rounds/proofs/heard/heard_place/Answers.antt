use mathlib.Core.Path.{sym, ◌∙◌}
use Rattle.layout.proofs.OneWalk.{nobody_place}
use Rattle.newest.proofs.Walks.{nobody_found}
use Rattle.rounds.proofs.heard.heard_place.Goals as goal

pub returns-in_err-newest : goal.returns-in_err-newest
returns-in_err-newest c = c.from_residual.ensures ∙ sym (nobody_place _ _ _ (nobody_found c.walk.ensures.walked c.in_err-newest.was))

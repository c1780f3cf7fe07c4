use mathlib.Core.Path.{◌∙◌, ap}
use lib.ListN.{get_or}
use Rattle.dispatch.specs.Dispatch.{lengths, frame_length}
use Rattle.dispatch.proofs.Code.frame_length.Goals as goal

pub returns : goal.returns
unfolding frame_length
returns c = c.from-2.ensures ∙ ap (λ k. get_or lengths k 0) (c.from.ensures ∙ c.number.ensures)

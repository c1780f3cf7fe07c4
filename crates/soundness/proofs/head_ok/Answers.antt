use Rattle.soundness.specs.Scan.{head_sound}
use Rattle.soundness.proofs.head_ok.Goals as goal

pub returns : goal.returns
unfolding head_sound
returns c = cc

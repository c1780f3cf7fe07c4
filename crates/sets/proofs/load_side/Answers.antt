use Rattle.sets.proofs.Sides.{loaded}
use Rattle.sets.proofs.load_side.Goals as goal

pub returns : goal.returns
returns c = let e = loaded c.args.side c.args.config.now c.start-start.ensures in cc

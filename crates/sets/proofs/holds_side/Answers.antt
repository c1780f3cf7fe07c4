use mathlib.Core.Path.{sym}
use Rattle.sets.proofs.Sides.{side_holds, side_short}
use Rattle.sets.proofs.holds_side.Goals as goal

pub returns-in-Some : goal.returns-in-Some
returns-in-Some c = let h = side_holds c.args.side c.args.config.now c.args.set in let l = c.in-Some.ensures.cases in cc

pub returns-in-None : goal.returns-in-None
returns-in-None c = sym (side_short c.args.side c.args.config.now c.args.set c.in-None.ensures.cases)

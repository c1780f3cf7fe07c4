use native.Mathlib.Omega.{arith}
use Rattle.sets.proofs.Sides.{set_bytes}
use Rattle.sets.proofs.load_set.Goals as goal

pub returns : goal.returns
returns c = omega (arith, c.from_le_bytes.ensures, set_bytes c.args.config.now c.args.place c.told-config)

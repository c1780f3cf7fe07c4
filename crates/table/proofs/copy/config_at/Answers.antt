use Prim.Native.Nat.{◌+◌, ◌-◌}
use mathlib.Core.Path.{◌≡◌}
use native.Mathlib.Omega.{arith}
use Rattle.quorum.specs.Configurations.{config_size}
use Rattle.layout.specs.Layout.{copy_config_at}
use Rattle.layout.specs.Fields.{copy_from}
use Rattle.table.proofs.copy.config_at.Goals as goal

pub returns : goal.returns
unfolding copy_from
returns c = let at = c.args.at in let e : at + copy_config_at + config_size - (at + copy_config_at) ≡ config_size = omega arith in rw e

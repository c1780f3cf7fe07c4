use Rattle.layout.specs.Layout.{copies_at}
use Rattle.writes.proofs.Writes.{whole_copy}
use lib.Seq.{take_all}
use native.Mathlib.Omega.{arith}
use Rattle.writes.proofs.lay_first.Goals as goal

pub returns : goal.returns
returns c =
    let a = c.args in
    let config = c.config_bytes_at.ensures in
    rw (
      c.put_config.ensures,
      c.put_data.ensures,
      config,
      take_all 32 a.config.now (omega arith),
    )
    (whole_copy a.t.now copies_at 0 a.value 0 a.config.now c.requires.0 c.requires.1)

use Rattle.table.proofs.Lent.{over-lent}
use Rattle.layout.specs.Updates.{put_config}
use Rattle.table.proofs.copy.put_config.Goals as goal

pub returns : goal.returns
unfolding put_config
returns c =
    let a = c.args in
    rw c.write_config.ensures (over-lent a.t.now a.at 16 _)

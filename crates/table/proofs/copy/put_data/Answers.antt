use Rattle.table.proofs.Lent.{over-lent}
use Rattle.layout.specs.Updates.{put_data}
use Rattle.table.proofs.copy.put_data.Goals as goal

pub returns : goal.returns
unfolding put_data
returns c =
    let a = c.args in
    rw c.write_data.ensures (over-lent a.t.now a.at 0 _)

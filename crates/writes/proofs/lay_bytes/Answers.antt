use Prim.Native.Nat.{◌*◌, ◌≤◌}
use Rattle.writes.proofs.Writes.{some_copies, lay_all}
use Rattle.layout.proofs.Fields.{table_head}
use Rattle.layout.specs.Layout.{table_length}
use mathlib.Core.Path.{◌∙◌}
use native.Mathlib.Omega.{arith}
use Rattle.writes.proofs.lay_bytes.Goals as goal
use Rattle.writes.proofs.lay_bytes.Goals.{Start}

some : (s : Start) → (1 ≤ s.args.n * s.args.m) × (s.args.n * s.args.m ≤ 512)
some s = some_copies s.requires.0 s.requires.1 s.requires.2 s.requires.3

pub lay_head-requires : goal.lay_head-requires
lay_head-requires c =
    (c.requires.1, c.requires.3, omega (arith, c.requires.4, table_head c.args.n c.args.m))

pub lay_first-requires : goal.lay_first-requires
unfolding table_length
lay_first-requires c =
    (omega (arith, some (goal.at.lay_first-requires c).Start, c.lay_head.auto.t), c.requires.5)

pub lay_rest-requires : goal.lay_rest-requires
unfolding table_length
lay_rest-requires c =
    let q = some (goal.at.lay_rest-requires c).Start in (
      q.0,
      q.1,
      omega (arith, c.lay_first.auto.t, c.lay_head.auto.t),
    )

pub returns : goal.returns
returns c =
    let a = c.args in
    let head = c.lay_head.ensures in
    let first = c.lay_first.ensures in
    c.lay_rest.ensures
    ∙ lay_all a.t.now a.n a.m a.value a.config.now (some (goal.at.returns c).Start).0 c.requires.4 c.requires.5 head first

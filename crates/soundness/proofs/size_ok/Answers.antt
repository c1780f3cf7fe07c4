use mathlib.Core.Path.{sym}
use Rattle.basics.proofs.Tests.{fails}
use Prim.Native.Nat.{◌*◌, ◌≤◌}
use lib.ListN.{length}
use lib.Dec.{eqb, leb}
use Rattle.layout.specs.Fields.{stations, items}
use Rattle.soundness.proofs.Scan.{size_joined, size_facts, bytes_product}
use native.Mathlib.Omega.{arith}
use Rattle.layout.specs.Layout.{table_length}
use Rattle.layout.specs.Soundness.{soundness}
use Rattle.soundness.specs.Scan.{size_sound}
use Rattle.soundness.proofs.size_ok.Goals as goal
use Rattle.soundness.proofs.size_ok.Goals.{After-items-m}

-- the number of copies, before n and m are known to be in range
product : (c : After-items-m) → c.stations-n.result * c.items-m.result ≤ 65025
product c =
    let byte = c.type_inv.t in
    rw (c.stations-n.ensures, c.items-m.ensures) (bytes_product c.args.t.now (byte 0).fits (byte 1).fits)

pub returns-then-t-lt-HEAD_SIZE : goal.returns-then-t-lt-HEAD_SIZE
unfolding table_length
returns-then-t-lt-HEAD_SIZE c = sym (fails _ (λ e. let h = (size_facts c.args.t.now e).long in omega arith))

pub overflow_mul-result : goal.overflow_mul-result
overflow_mul-result c = omega (arith, product (goal.at.overflow_mul-result c).After-items-m)

pub overflow_mul-result-2 : goal.overflow_mul-result-2
overflow_mul-result-2 c = omega (arith, product (goal.at.overflow_mul-result-2 c).After-items-m)

pub overflow_add-result : goal.overflow_add-result
overflow_add-result c = omega (arith, product (goal.at.overflow_add-result c).After-items-m)

pub returns : goal.returns
unfolding size_sound soundness table_length
returns c =
    let t = c.args.t.now in
    let n = stations t in
    let m = items t in
    cc (size_joined (eqb (length t) (table_length n m)) (leb 1 n) (leb n 16) (leb 1 m) (leb m 32))

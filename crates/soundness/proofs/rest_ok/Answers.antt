use native.Mathlib.Omega.{arith}
use mathlib.Core.Path.{◌≡◌}
use Prim.Native.Nat.{◌*◌}
use Rattle.layout.specs.Layout.{table_length}
use Rattle.layout.specs.Fields.{stations, items}
use Rattle.soundness.proofs.Scan.{Size, size_facts}
use Rattle.soundness.proofs.rest_ok.Goals as goal
use Rattle.soundness.proofs.rest_ok.Goals.{After-items, After-shared_slice_known-1}

-- what the length says
size : (c : After-shared_slice_known-1) → Size c.args.t.now
size c = size_facts _ c.requires.0

-- the number of copies
copies : (c : After-items) → let t = c.args.t.now in
    c.stations-n.result * c.items.result ≡ stations t * items t
copies c = cc

pub round_ok-requires : goal.round_ok-requires
unfolding table_length
round_ok-requires c = let h = (size (goal.at.round_ok-requires c).After-shared_slice_known-1).long in omega arith

pub stations-n-requires : goal.stations-n-requires
unfolding table_length
stations-n-requires c = let h = (size (goal.at.stations-n-requires c).After-shared_slice_known-1).long in omega arith

pub items-requires : goal.items-requires
unfolding table_length
items-requires c = let h = (size (goal.at.items-requires c).After-shared_slice_known-1).long in omega arith

pub overflow_mul-count : goal.overflow_mul-count
overflow_mul-count c =
    let at = goal.at.overflow_mul-count c in
    let h = size at.After-shared_slice_known-1 in let e = copies at.After-items in omega arith

pub overflow_add-count : goal.overflow_add-count
overflow_add-count c =
    let at = goal.at.overflow_add-count c in
    let h = size at.After-shared_slice_known-1 in let e = copies at.After-items in omega arith

pub all_valid-requires : goal.all_valid-requires
unfolding table_length
all_valid-requires c =
    let at = goal.at.all_valid-requires c in
    let h = size at.After-shared_slice_known-1 in
    let e = copies at.After-items in
    let n = c.stations-n.ensures in
    (omega arith, omega arith, omega arith, omega arith, λ k l. omega arith)

use native.Mathlib.Omega.{arith}
use Prim.Native.Nat.{◌+◌, ◌≤◌}
use Rattle.quorum.specs.Configurations.{place_figure}
use Rattle.sets.proofs.place_figure.Goals as goal

pub overflow_add-result : goal.overflow_add-result
unfolding place_figure
overflow_add-result c =
    let small : c.in-Some.k + 1 ≤ 8 = rw c.in-Some.is at c.requires in omega arith

pub returns-in-Some : goal.returns-in-Some
unfolding place_figure
returns-in-Some c = rw c.in-Some.is

pub returns-in-None : goal.returns-in-None
unfolding place_figure
returns-in-None c = rw c.in-None.is

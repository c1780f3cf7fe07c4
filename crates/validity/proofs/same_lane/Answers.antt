use native.Mathlib.Omega.{arith}
use borrow.Author.Rules.{rules}
use mathlib.Core.Path.{refl, sym}
use Prim.Native.Nat.{◌+◌, ◌*◌, ◌<◌}
use Rattle.basics.proofs.Tests.{all_start, all_turn, all_end}
use lib.ListN.{length}
use Rattle.validity.specs.Rows.{same_lane}
use Rattle.validity.proofs.same_lane.Goals as goal
use Rattle.validity.proofs.same_lane.Goals.{In-loop-j}

-- the byte so many strides on
room : (c : In-loop-j) → let a = c.args in
    a.at + a.stride + a.stride * c.loop-j.j < length a.bytes.now
room c = c.requires.1 c.loop-j.j (omega arith)

pub loop-j-init : goal.loop-j-init
loop-j-init c = (search rules, sym (all_start _))

pub loop-j-preserved : goal.loop-j-preserved
loop-j-preserved c = (search rules, all_turn _ _ c.loop-j.invariant.1 refl)

pub returns : goal.returns
unfolding same_lane
returns c = all_end _ 8 _ c.loop-j.invariant.0 c.loop-j-test.false c.loop-j.invariant.1

use mathlib.Core.Path.{◌≡◌, ap, ◌∙◌}
use Rattle.std.specs.Prelude.{Option, None, Some}
use Prim.Native.Nat.{ℕ}
use Rattle.layout.specs.Fields.{Copy}
use Rattle.layout.specs.Newest.{version_station, generation_station}
use Rattle.layout.specs.Walk.{Walked, walk, walked_version, walked_generation}
use Rattle.layout.proofs.Along.{along, left_done, left_past, left_turn}
use Rattle.layout.proofs.OneWalk.{one_walk, walk_along}
use Rattle.newest.proofs.walk.Invariants.{turn}
use Rattle.newest.proofs.walk.Goals as goal

-- what the walk ends with answers both searches
answers : (copies : ℕ → Copy) (n set : ℕ) {o : Option Walked} → o ≡ along (turn copies) None set n
    → record {
      walked : o ≡ walk copies set n;
      version : walked_version o ≡ version_station copies set n;
      generation : walked_generation o ≡ generation_station copies set n;
    }
answers copies n set e =
    let is_walk = e ∙ walk_along copies set n in
    record {
      walked = is_walk;
      version = ap walked_version is_walk ∙ one_walk.version copies set n;
      generation = ap walked_generation is_walk ∙ one_walk.generation copies set n;
    }

pub loop-s-preserved : goal.loop-s-preserved
loop-s-preserved c =
    let step = c.in-Some.ensures.steps in left_turn c.loop-s.invariant step.0 step.2 step.1 c.if-copies-s.false (ap Some c.onward.ensures)

pub returns-then-copies-s : goal.returns-then-copies-s
returns-then-copies-s c = answers _ _ _ (left_past c.loop-s.invariant c.in-Some.ensures.steps.1 c.if-copies-s.true)

pub returns : goal.returns
returns c = answers _ _ _ (left_done c.loop-s.invariant c.in-None.ensures.steps.0)

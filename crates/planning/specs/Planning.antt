-- What the walks of plan are held to.
use Rattle.std.specs.Prelude.{◌≡◌, ℕ, ◌≤◌, Option, Some, None}
use Rattle.layout.specs.Fields.{Copy}
use Rattle.layout.specs.Walk.{walk}
use Rattle.newest.specs.Walks.{as_walked}
use Rattle.quorum.specs.Configurations.{place_figure}
use Rattle.plan.specs.Plan.{polls_needed, heard_start}
use Rattle.planning.specs.declared.FirstHeard.{FirstHeard}

-- what the code's answer says of an item's copies and the stations on the bus: after so many polls a round is first heard, and these are the newest copies
-- that it then has found; or no start is heard
abbrev pub Says : (ℕ → Copy) → ℕ → ℕ → Option FirstHeard → Type 0
Says copies n on (Some first) =
    (1 ≤ first.polls) × (first.polls ≡ place_figure (polls_needed copies on n))
    × (walk copies (heard_start copies on n) n ≡ Some (as_walked first.newest))
Says copies n on None = place_figure (polls_needed copies on n) ≡ 0

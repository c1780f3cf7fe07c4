-- Tests that are made of tests.
use Rattle.std.specs.Prelude.{Bool, true, false, ◌&&◌, ◌||◌, List, [], ◌∷◌, ℕ, zero, suc, ◌<◌}

-- every test of a list passes
unfoldable pub all : List Bool → Bool
all [] = true
all (b ∷ l) = b && all l

-- p holds of every number below a bound
unfoldable pub all_below : (ℕ → Bool) → ℕ → Bool
all_below p zero = true
all_below p (suc k) = all_below p k && p k

-- p holds of some number below a bound
unfoldable pub any_below : (ℕ → Bool) → ℕ → Bool
any_below p zero = false
any_below p (suc k) = any_below p k || p k

-- some number below a bound has P
abbrev pub Some : ℕ → (ℕ → Type 0) → Type 0
Some n P = (i : ℕ) × (i < n) × P i

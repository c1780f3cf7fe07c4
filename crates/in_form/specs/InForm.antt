-- What the test of a side comes to; nobody has to believe it, since `is_form` is held to `standard_form`.
use Rattle.std.specs.Prelude.{◌≡◌, Bool, false, not, List, ℕ, ◌-◌, ◌≤◌, ◌<◌, eqb, bit_and}
use Rattle.std.specs.List.{list_any, list_all}
use Rattle.quorum.specs.Sets.{holds}

-- one of the sets of a list lies within the set; none does
abbrev pub any_within : List ℕ → ℕ → Bool
any_within others set = list_any (λ other. eqb (bit_and set other) other) others

abbrev pub none_within : List ℕ → ℕ → Bool
none_within others set = list_all (λ other. not (eqb (bit_and set other) other)) others

-- no set of a side before a place lies within the set
abbrev pub Apart : (ℕ → ℕ) → ℕ → ℕ → Type 0
Apart side place set = (j : ℕ) → j < place → holds set (side j) ≡ false

-- the set at a place is above the one before it, and none before it lies within it
pub record Follows (side : ℕ → ℕ) (k : ℕ) : Type 0 where
  pub above : side (k - 1) < side k
  pub apart : Apart side k (side k)

-- each of the first sets, as many as the count says, follows those before it; they fill the side, or an unused place comes behind them
pub record InForm (side : ℕ → ℕ) : Type 0 where
  pub count : ℕ
  pub some : 1 ≤ count
  pub room : count ≤ 8
  pub each : (k : ℕ) → 1 ≤ k → k < count → Follows side k
  pub end : count < 8 → side count ≡ 0

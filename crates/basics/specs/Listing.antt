-- The numbers below a bound that pass a test, as a list: the smallest sets of votes, the sets of a standard form, and stations in rising number.
use Rattle.std.specs.Prelude.{◌≡◌, Bool, cond, List, [], ◌∷◌, ◌++◌, ℕ, zero, suc, ◌<◌, length, get_or}
use Rattle.basics.specs.Tests.{Some}

-- the numbers below a bound that pass a test, rising
unfoldable pub passing : (ℕ → Bool) → ℕ → List ℕ
passing test zero = []
passing test (suc k) = passing test k ++ cond (test k) (k ∷ []) []

-- the list has exactly the numbers with P, rising
pub record Listing (P : ℕ → Type 0) (l : List ℕ) : Type 0 where
  pub only : (k : ℕ) → k < length l → P (get_or l k 0)
  pub every : (x : ℕ) → P x → Some (length l) (λ k. get_or l k 0 ≡ x)
  pub rises : (j k : ℕ) → j < k → k < length l → get_or l j 0 < get_or l k 0

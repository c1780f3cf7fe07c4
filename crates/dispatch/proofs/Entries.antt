-- A rule of a table, proved at all of its entries: by one test that is computed, or entry by entry.
use mathlib.Core.Path.{◌≡◌}
use mathlib.Core.Bool.{Bool, true, ◌&&◌}
use mathlib.Core.List.{List, [], ◌∷◌}
use Prim.Native.Nat.{ℕ, zero, suc, ◌≤◌}
use native.Mathlib.Omega.{arith}
use lib.ListN.{length, get_or}
use Rattle.basics.proofs.Tests.{and_left, and_right}

-- the test passes at each entry
abbrev pub every : (ℕ → Bool) → List ℕ → Bool
every f [] = true
every f (x ∷ xs) = f x && every f xs

-- past the end the entry counts as 0
pub entry : (f : ℕ → Bool) (xs : List ℕ) → f 0 ≡ true → every f xs ≡ true → (k : ℕ) → f (get_or xs k 0) ≡ true
entry f [] z e k = z
entry f (x ∷ xs) z e zero = and_left (f x) (every f xs) e
entry f (x ∷ xs) z e (suc k) = entry f xs z (and_right (f x) (every f xs) e) k

-- what holds at each entry, by its place
abbrev pub Each : {A : Type 0} → (ℕ → A → Type 0) → List A → Type 0
Each P [] = Unit {0}
Each P (x ∷ xs) = P 0 x × Each (λ k. P (suc k)) xs

-- past the end stands the default
pub each_at : {A : Type 0} (P : ℕ → A → Type 0) (xs : List A) (d : A) → Each P xs → ((k : ℕ) → length xs ≤ k → P k d) → (k : ℕ)
    → P k (get_or xs k d)
each_at P [] d e past k = past k (omega arith)
each_at P (x ∷ xs) d e past zero = e.0
each_at P (x ∷ xs) d e past (suc k) = each_at (λ j. P (suc j)) xs d e.1 (λ j h. past (suc j) (omega arith)) k

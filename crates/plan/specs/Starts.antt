-- Stations in rising number, and the starts of that order (document 02, 2026-05: "if the stations on the bus are polled in rising number").
use Rattle.std.specs.Prelude.{◌≡◌, Bool, true, false, ◌||◌, List, [], ◌∷◌, ◌↔◌, ℕ, suc, ◌≤◌, ◌<◌, eqb, length, take, get_or, Option}
use Rattle.basics.specs.Tests.{Some}
use Rattle.basics.specs.Listing.{Listing}
pub use Rattle.quorum.specs.Sets.{rising}
use Rattle.quorum.specs.Sets.{member, join}
use Rattle.quorum.specs.Configurations.{first_place, place_figure}

-- ---- stations in an order: a list, who is in it, and the set of them
abbrev pub among : List ℕ → ℕ → Bool
among [] s = false
among (k ∷ rest) s = eqb s k || among rest s

-- the stations of a list join a set, one after the other
abbrev pub joined : ℕ → List ℕ → ℕ
joined set [] = set
joined set (s ∷ rest) = joined (join set s) rest

-- ---- starts
-- a start of an order: its first k stations, as a set
abbrev pub start : List ℕ → ℕ → ℕ
start order k = joined 0 (take k order)

-- the first start of an order that passes a test, by the place of its last station, if there is one; how many stations it has is the figure of
-- that place: one plus it, or 0 where no start passes
abbrev pub first_start : (ℕ → Bool) → List ℕ → Option ℕ
first_start test order = first_place (λ k. test (start order (suc k))) (length order)

-- the same by quantifiers
pub record Starts : Type 0 where
  -- the rising order has the stations of the set, each once
  pub rises : (set : ℕ) → Listing (λ s. (s < 16) × (member set s ≡ true)) (rising set)
  -- its start of k stations has those at places below k, and no others
  pub has : (set k s : ℕ) → (member (start (rising set) k) s ≡ true) ↔ Some (length (rising set)) (λ j. (j < k) × (get_or (rising set) j 0 ≡ s))
  -- the first start that passes a test has k stations, k from 1 on: it passes, and no shorter one does
  pub passes_first : (test : ℕ → Bool) (order : List ℕ) (k : ℕ) → 1 ≤ k → (place_figure (first_start test order) ≡ k)
      ↔ ((k ≤ length order) × (test (start order k) ≡ true) × ((j : ℕ) → 1 ≤ j → j < k → test (start order j) ≡ false))
  pub none_passes : (test : ℕ → Bool) (order : List ℕ) → (place_figure (first_start test order) ≡ 0)
      ↔ ((k : ℕ) → 1 ≤ k → k ≤ length order → test (start order k) ≡ false)

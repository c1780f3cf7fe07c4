-- A configuration written out, by the sets of its two sides: "eight read sets, then eight write sets, two bytes each" (document 01).
use Rattle.std.specs.Prelude.{◌≡◌, true, List, [], ◌++◌, ℕ, zero, suc, ◌<◌, get_or}
use Rattle.basics.specs.Tests.{Some}
use Rattle.basics.specs.Bytes.{bytes_of}
use Rattle.quorum.specs.Sets.{used}

-- the first k places of a side, two bytes each
unfoldable pub places : (ℕ → ℕ) → ℕ → List ℕ
places side zero = []
places side (suc k) = places side k ++ bytes_of 2 (side k)

-- the eight places of a side: the sets of a list, then unused places. Nobody asks for more than eight sets.
unfoldable pub side_bytes : List ℕ → List ℕ
side_bytes sets = places (λ k. get_or sets k 0) 8

-- the configuration with these read sets and these write sets
unfoldable pub config_bytes : List ℕ → List ℕ → List ℕ
config_bytes reads writes = side_bytes reads ++ side_bytes writes

-- the used places of a side, which come first where it is valid, are exactly the sets with P, each once, rising as numbers
pub record SideLists (P : ℕ → Type 0) (side : ℕ → ℕ) : Type 0 where
  pub every : (set : ℕ) → P set → Some 8 (λ k. side k ≡ set)
  pub only : (k : ℕ) → k < 8 → used (side k) ≡ true → P (side k)
  pub rises : (j k : ℕ) → j < k → k < 8 → used (side k) ≡ true → side j < side k

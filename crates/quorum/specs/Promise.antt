-- What the crate promises of its definitions of sets and configurations: "the table layer relies on their promises alone". The crates above rely on this
-- record and on the contracts of `sets`, `pairs` and `validity`. These three, the code of this layer, open the definitions, and so do `form`, `in_form` and
-- `forming`, which test and write configurations, and the examples that are computed (`cases`, `runs`).
use Rattle.std.specs.Prelude.{◌≡◌, Bool, true, false, not, ◌&&◌, ◌||◌, List, ◌↔◌, ℕ, suc, ◌-◌, ◌≤◌, ◌<◌, ltb, eqb, length, Option, None, Some}
use Rattle.std.specs.Int.Bits.{bit_and}
use Rattle.basics.specs.Tests.{Some as SomeBelow}
use Rattle.basics.specs.Listing.{Listing}
use Rattle.quorum.specs.Sets.{listed_stations, rising, member, used, holds, shares, within, join, unite, minus, remove, lowest, full}
use Rattle.quorum.specs.Configurations.{config_size, read_set, write_set, valid, first_place}
use Rattle.quorum.specs.Configurations.{first_read, first_write, place_figure, is_place, holds_read, holds_write}

infix 50 ◌⊆◌
-- every member of a is one of b
abbrev pub ◌⊆◌ : ℕ → ℕ → Type 0
a ⊆ b = (i : ℕ) → member a i ≡ true → member b i ≡ true

-- a place of a side is used, and its set lies within the given one: source 000's 𝓡 ∈ config.read and 𝓡 ⊆ read (5.4.3)
abbrev pub LiesIn : (ℕ → ℕ) → ℕ → ℕ → Type 0
LiesIn side set k = (used (side k) ≡ true) × (side k ⊆ set)

-- some set of a side lies within a station set
abbrev pub QuorumIn : (ℕ → ℕ) → ℕ → Type 0
QuorumIn side set = SomeBelow 8 (LiesIn side set)

-- k is the first place of a side that is used and whose set lies within the given one
abbrev pub FirstIn : (ℕ → ℕ) → ℕ → ℕ → Type 0
FirstIn side set k = (k < 8) × LiesIn side set k × ((j : ℕ) → j < k → LiesIn side set j → ⊥)

-- the same station sets pass for reading, and the same for writing
pub record SamePasses (c d : List ℕ) : Type 0 where
  pub reads : (set : ℕ) → holds_read c set ≡ holds_read d set
  pub writes : (set : ℕ) → holds_write c set ≡ holds_write d set

-- ---- a configuration of n stations, as source 000, section 3, has it: "each of c.read and c.write is a nonempty collection of
-- subsets of S, and .. every element of c.read has a nonempty intersection with every element of c.write"
-- one side: a zero set is an unused place, used places come first, one is used, and the sets name stations below n
pub record Side (n : ℕ) (side : ℕ → ℕ) : Type 0 where
  pub packed : (k : ℕ) → k < 7 → used (side (suc k)) ≡ true → used (side k) ≡ true
  pub some : SomeBelow 8 (λ k. used (side k) ≡ true)
  pub in_range : (k : ℕ) → k < 8 → (i : ℕ) → member (side k) i ≡ true → i < n

pub record Valid (n : ℕ) (c : List ℕ) : Type 0 where
  pub positive : 1 ≤ n
  pub small : n ≤ 16
  pub long : length c ≡ config_size
  pub reads : Side n (read_set c)
  pub writes : Side n (write_set c)
  pub meet : (j k : ℕ) → j < 8 → k < 8 → used (read_set c j) ≡ true → used (write_set c k) ≡ true
      → (i : ℕ) × (member (read_set c j) i ≡ true) × (member (write_set c k) i ≡ true)

pub record Promise : Type 0 where
  -- ---- quorums (source 000, section 3)
  -- a set that holds a read set and a set that holds a write set share a station, one of the n
  pub quorums_meet : (n : ℕ) (c : List ℕ) (r w : ℕ) → valid n c ≡ true → holds_read c r ≡ true → holds_write c w ≡ true
      → SomeBelow n (λ i. (member r i ≡ true) × (member w i ≡ true))
  -- to hold a read or a write set is that one lies within
  pub holds_read_lem : (c : List ℕ) (set : ℕ) → (holds_read c set ≡ true) ↔ QuorumIn (read_set c) set
  pub holds_write_lem : (c : List ℕ) (set : ℕ) → (holds_write c set ≡ true) ↔ QuorumIn (write_set c) set
  -- a larger set holds what a smaller one does, the empty set holds none, all stations hold one of each side
  pub read_more : (c : List ℕ) (a b : ℕ) → a ⊆ b → holds_read c a ≡ true → holds_read c b ≡ true
  pub write_more : (c : List ℕ) (a b : ℕ) → a ⊆ b → holds_write c a ≡ true → holds_write c b ≡ true
  pub none_read : (c : List ℕ) → holds_read c 0 ≡ false
  pub none_write : (c : List ℕ) → holds_write c 0 ≡ false
  pub all_read : (n : ℕ) (c : List ℕ) → valid n c ≡ true → holds_read c (full n) ≡ true
  pub all_write : (n : ℕ) (c : List ℕ) → valid n c ≡ true → holds_write c (full n) ≡ true
  -- ---- places
  -- the first place below a bound of which a test holds; that there is none; and tests that agree below the bound have the same
  pub first_exactly : (p : ℕ → Bool) (n k : ℕ) → (first_place p n ≡ Some k) ↔ ((k < n) × (p k ≡ true) × ((j : ℕ) → j < k → p j ≡ false))
  pub first_nowhere : (p : ℕ → Bool) (n : ℕ) → (first_place p n ≡ None) ↔ ((k : ℕ) → k < n → p k ≡ false)
  pub first_same : (p q : ℕ → Bool) (n : ℕ) → ((k : ℕ) → k < n → p k ≡ q k) → first_place p n ≡ first_place q n
  -- that of a side is the first whose set lies within, and there is none exactly if no set does
  pub first_read_lem : (c : List ℕ) (set k : ℕ) → (first_read c set ≡ Some k) ↔ FirstIn (read_set c) set k
  pub first_write_lem : (c : List ℕ) (set k : ℕ) → (first_write c set ≡ Some k) ↔ FirstIn (write_set c) set k
  pub no_first_read : (c : List ℕ) (set : ℕ) → (first_read c set ≡ None) ↔ (QuorumIn (read_set c) set → ⊥)
  pub no_first_write : (c : List ℕ) (set : ℕ) → (first_write c set ≡ None) ↔ (QuorumIn (write_set c) set → ⊥)
  -- whether an answer is a place, and its figure, which tells the answer
  pub a_place : (place : Option ℕ) → (is_place place ≡ true) ↔ ((k : ℕ) × (place ≡ Some k))
  pub no_place : (place : Option ℕ) → (is_place place ≡ false) ↔ (place ≡ None)
  pub figure_at : (place : Option ℕ) (k : ℕ) → (place_figure place ≡ suc k) ↔ (place ≡ Some k)
  pub figure_nowhere : (place : Option ℕ) → (place_figure place ≡ 0) ↔ (place ≡ None)
  pub figure_place : (place : Option ℕ) → (1 ≤ place_figure place) ↔ (is_place place ≡ true)
  pub figure_none : (place : Option ℕ) → (place_figure place ≡ 0) ↔ (is_place place ≡ false)
  -- ---- validity
  pub valid_exactly : (n : ℕ) (c : List ℕ) → (valid n c ≡ true) ↔ Valid n c
  pub listed_stations_lem : (n : ℕ) → (listed_stations n ≡ true) ↔ ((1 ≤ n) × (n ≤ 16))
  pub valid_stations : (n : ℕ) (c : List ℕ) → valid n c ≡ true → (1 ≤ n) × (n ≤ 16)
  pub valid_length : (n : ℕ) (c : List ℕ) → valid n c ≡ true → length c ≡ config_size
  -- a side's first place is used
  pub first_used : (n : ℕ) (side : ℕ → ℕ) → Side n side → used (side 0) ≡ true
  -- a list of another length has no sets
  pub short_read : (c : List ℕ) (set : ℕ) → (length c ≡ config_size → ⊥) → holds_read c set ≡ false
  pub short_write : (c : List ℕ) (set : ℕ) → (length c ≡ config_size → ⊥) → holds_write c set ≡ false
  -- ---- members
  pub member_empty : (i : ℕ) → member 0 i ≡ false
  pub member_join : (a i k : ℕ) → k < 16 → member (join a k) i ≡ (member a i || eqb i k)
  pub member_unite : (a b i : ℕ) → member (unite a b) i ≡ (member a i || member b i)
  pub member_minus : (a b i : ℕ) → member (minus a b) i ≡ (member a i && not (member b i))
  pub member_remove : (a i k : ℕ) → member (remove a k) i ≡ (member a i && not (eqb i k))
  pub member_full : (n i : ℕ) → n ≤ 16 → member (full n) i ≡ ltb i n
  pub full_16 : 65535 ≡ full 16
  -- a set is used exactly if it has a member, and sets with the same members are equal
  pub used_member : (a : ℕ) → (used a ≡ true) ↔ ((i : ℕ) × (member a i ≡ true))
  pub same_members : (a b : ℕ) → a ⊆ b → b ⊆ a → a ≡ b
  -- a set is no greater as a number than one that it lies within
  pub subset_le : (a b : ℕ) → a ⊆ b → a ≤ b
  pub holds_members : (a b : ℕ) → (holds a b ≡ true) ↔ (b ⊆ a)
  pub shares_member : (a b : ℕ) → (shares a b ≡ true) ↔ ((i : ℕ) × (member a i ≡ true) × (member b i ≡ true))
  -- the lowest station of a set of 16 bits that has one is in it, and none below it is; to take a station out makes the number smaller.
  -- So a walk over a set takes its stations one by one, and ends.
  pub lowest_member : (a : ℕ) → a < 65536 → used a ≡ true → member a (lowest a) ≡ true
  pub below_lowest : (a i : ℕ) → i < lowest a → member a i ≡ false
  pub remove_less : (a i : ℕ) → member a i ≡ true → remove a i < a
  -- the digits that a number shares with the one before it: the set without its lowest station
  pub without_lowest : (a : ℕ) → a < 65536 → (a ≡ 0 → ⊥) → bit_and a (a - 1) ≡ remove a (lowest a)
  -- the rising order has the stations of a set of 16 bits, each once
  pub rises : (set : ℕ) → Listing (λ s. (s < 16) × (member set s ≡ true)) (rising set)
  -- ---- stations below n
  pub within_member : (n a i : ℕ) → within n a ≡ true → member a i ≡ true → i < n
  pub member_within : (n a : ℕ) → ((i : ℕ) → member a i ≡ true → i < n) → within n a ≡ true
  pub within_empty : (n : ℕ) → within n 0 ≡ true
  pub within_join : (n a k : ℕ) → n ≤ 16 → within n a ≡ true → k < n → within n (join a k) ≡ true
  pub within_unite : (n a b : ℕ) → within n (unite a b) ≡ (within n a && within n b)
  pub within_minus : (n a b : ℕ) → within n a ≡ true → within n (minus a b) ≡ true
  pub within_remove : (n a k : ℕ) → within n a ≡ true → within n (remove a k) ≡ true
  pub within_16 : (n a : ℕ) → n ≤ 16 → within n a ≡ true → a < 65536
  pub small_within : (a : ℕ) → a < 65536 → within 16 a ≡ true

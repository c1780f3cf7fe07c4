-- How the code tests whether one configuration is valid. Not for the crates above: a reader needs `valid`, to which `config_ok` is proved equal.
use Rattle.std.specs.List.{list_all}
use Rattle.std.specs.Prelude.{Bool, cond, ◌&&◌, List, [], ◌∷◌, ℕ, ◌+◌, ◌-◌, ◌*◌, ◌<◌, eqb}
use Rattle.std.specs.Int.Bits.{bit_or}
use Rattle.quorum.specs.Sets.{shares, within, full}
use Rattle.quorum.specs.Configurations.{set_at, read_set, write_set}

-- A set as the pairs are tested, by the set of the next place. An unused place stands for all stations, which share one with every
-- used set; but one right before a used place stays empty and shares none, so that a gap is found. (That each side has a used place is
-- tested apart: the first sets share a station.)
unfoldable pub filled : ℕ → ℕ → ℕ
filled set next = cond (eqb (bit_or set next) 0) 65535 set

-- the places of a side; nothing follows its last place
unfoldable pub filled_side : (ℕ → ℕ) → List ℕ
filled_side side =
    filled (side 0) (side 1) ∷ filled (side 1) (side 2) ∷ filled (side 2) (side 3) ∷ filled (side 3) (side 4)
    ∷ filled (side 4) (side 5) ∷ filled (side 5) (side 6) ∷ filled (side 6) (side 7) ∷ filled (side 7) 0 ∷ []

-- a read set shares a station with each of the write sets; each read set does
abbrev pub row_ok : List ℕ → ℕ → Bool
row_ok writes read = list_all (shares read) writes

abbrev pub rows_ok : List ℕ → List ℕ → Bool
rows_ok reads writes = list_all (row_ok writes) reads

abbrev pub pairs_ok : List ℕ → Bool
pairs_ok c = rows_ok (filled_side (read_set c)) (filled_side (write_set c))

-- four sets as one number
abbrev pub four : List ℕ → ℕ → ℕ
four c place =
    set_at c place + 65536 * set_at c (place + 1) + 4294967296 * set_at c (place + 2) + 281474976710656 * set_at c (place + 3)

-- each of the four has 16 bits, so that the number has them side by side
abbrev pub FourFit : List ℕ → ℕ → Type 0
FourFit c place =
    (set_at c place < 65536) × (set_at c (place + 1) < 65536) × (set_at c (place + 2) < 65536) × (set_at c (place + 3) < 65536)

-- stations n to 15, four times over
unfoldable pub outside_of : ℕ → ℕ
outside_of n = 281479271743489 * (65535 - full n)

-- none of the four names a station n or above
unfoldable pub four_within : ℕ → List ℕ → ℕ → Bool
four_within n c place =
    within n (set_at c (place + 3)) && within n (set_at c (place + 2)) && within n (set_at c (place + 1)) && within n (set_at c place)

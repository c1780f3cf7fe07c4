-- Configurations (document 01, "Stations, sets, configurations"; source 000, section 3).
use Rattle.std.specs.Prelude.{Bool, not, cond, ◌&&◌, ◌||◌, List, [], ◌∷◌, ℕ, zero, suc, ◌+◌, ◌*◌, length, eqb, Option, None, Some, is_some}
use Rattle.std.specs.Option.{option_or}
use Rattle.basics.specs.Tests.{all, all_below, any_below}
use Rattle.basics.specs.Bytes.{number}
use Rattle.quorum.specs.Sets.{listed_stations, used, holds, shares, within}
use Rattle.quorum.specs.declared.Side.{Side}
use Rattle.quorum.specs.declared.Side.TheVariants.{Read, Write}

-- "A configuration is 32 bytes: eight read sets, then eight write sets, two bytes each."
abbrev pub config_size : ℕ
config_size = 32

-- A list of another length is no configuration, and no place of it is used.
unfoldable pub set_at : List ℕ → ℕ → ℕ
set_at c place = cond (eqb (length c) config_size) (number c (2 * place) 2) 0

-- the sets of the two sides, by their places: the read and write quorums of source 000. Nobody asks beyond place 7 (there
-- `read_set` would run on into the write sets, and `write_set` gives 0).
unfoldable pub read_set : List ℕ → ℕ → ℕ
read_set c k = set_at c k

unfoldable pub write_set : List ℕ → ℕ → ℕ
write_set c k = set_at c (8 + k)

-- a side of the code: its sets, and the place where it starts
abbrev pub side_sets : Side → List ℕ → ℕ → ℕ
side_sets Read c = read_set c
side_sets Write c = write_set c

abbrev pub side_start : Side → ℕ
side_start Read = 0
side_start Write = 8

-- "A zero set is an unused place; used places come first on each side": no used place behind an unused one
unfoldable pub used_first : (ℕ → ℕ) → Bool
used_first side = all_below (λ k. used (side k) || not (used (side (suc k)))) 7

unfoldable pub some_used : (ℕ → ℕ) → Bool
some_used side = any_below (λ k. used (side k)) 8

unfoldable pub all_within : ℕ → (ℕ → ℕ) → Bool
all_within n side = all_below (λ k. within n (side k)) 8

-- the set shares a station with every used set of the side
unfoldable pub shares_all : (ℕ → ℕ) → ℕ → Bool
shares_all side set = all_below (λ k. not (used (side k)) || shares set (side k)) 8

-- "every read set shares a station with every write set (source 000, section 3)"
unfoldable pub all_share : (ℕ → ℕ) → (ℕ → ℕ) → Bool
all_share reads writes = all_below (λ k. not (used (reads k)) || shares_all writes (reads k)) 8

-- "It is valid if each side has a used place, no set names a station n or above, and every read set shares a station with every
-- write set (source 000, section 3). Repeated sets are allowed. A list not 32 bytes long is not valid." Two clauses come from the
-- sentences before that one: there are 1 to 16 stations, and used places come first on each side.
unfoldable pub validity : ℕ → List ℕ → List Bool
validity n c =
    listed_stations n
    ∷ eqb (length c) config_size
    ∷ used_first (read_set c)
    ∷ used_first (write_set c)
    ∷ some_used (read_set c)
    ∷ some_used (write_set c)
    ∷ all_within n (read_set c)
    ∷ all_within n (write_set c)
    ∷ all_share (read_set c) (write_set c)
    ∷ []

unfoldable pub valid : ℕ → List ℕ → Bool
valid n c = all (validity n c)

-- the set holds every station of the used set at a place of the side
unfoldable pub holds_place : (ℕ → ℕ) → ℕ → ℕ → Bool
holds_place side set k = used (side k) && holds set (side k)

-- ---- the first place held (document 02, 2026-04: "The test for heard shall tell the first read place held")
-- the first of two answers that is a place, if one is
abbrev pub or_else : Option ℕ → Option ℕ → Option ℕ
or_else place other = option_or place other

-- the first place below a bound of which p holds, if there is one
unfoldable pub first_place : (ℕ → Bool) → ℕ → Option ℕ
first_place p zero = None
first_place p (suc k) = or_else (first_place p k) (cond (p k) (Some k) None)

-- the first read place, the first write place whose set the given set holds
unfoldable pub first_read : List ℕ → ℕ → Option ℕ
first_read c set = first_place (holds_place (read_set c) set) 8

unfoldable pub first_write : List ℕ → ℕ → Option ℕ
first_write c set = first_place (holds_place (write_set c) set) 8

-- the answer as a figure: "one plus that place, or 0"
unfoldable pub place_figure : Option ℕ → ℕ
place_figure (Some k) = k + 1
place_figure None = 0

-- whether there is one
abbrev pub is_place : Option ℕ → Bool
is_place place = is_some place

-- the set holds every station of some read set, of some write set: there is a place
abbrev pub holds_read : List ℕ → ℕ → Bool
holds_read c set = is_place (first_read c set)

abbrev pub holds_write : List ℕ → ℕ → Bool
holds_write c set = is_place (first_write c set)

abbrev pub holds_side : Side → List ℕ → ℕ → Bool
holds_side Read c set = holds_read c set
holds_side Write c set = holds_write c set

-- Station sets (document 01, "Stations, sets, configurations"): "A station set is 16 bits: bit i is station i."
-- A station is a replica of source 000, and a station set a set of replica names.
use Rattle.std.specs.Prelude.{Bool, not, cond, ◌&&◌, List, ℕ, ◌-◌, ◌/◌, ◌%◌, ◌^◌, min, leb, ltb, eqb}
use Rattle.std.specs.Int.Bits.{bit_and, bit_or}
use Rattle.std.specs.Int.Count.{count_trailing_zeros}
use Rattle.basics.specs.Listing.{passing}

-- "A table has n stations, 1 to 16": a number of stations that there can be
abbrev pub listed_stations : ℕ → Bool
listed_stations n = leb 1 n && leb n 16

-- station i is in the set
unfoldable pub member : ℕ → ℕ → Bool
member set i = eqb (set / 2 ^ i % 2) 1

-- the stations of a set of 16 bits, in rising number
abbrev pub rising : ℕ → List ℕ
rising set = passing (member set) 16

-- the set has a station
unfoldable pub used : ℕ → Bool
used set = not (eqb set 0)

-- the set holds every station of the other
unfoldable pub holds : ℕ → ℕ → Bool
holds set other = eqb (bit_and set other) other

-- the two sets share a station
unfoldable pub shares : ℕ → ℕ → Bool
shares a b = not (eqb (bit_and a b) 0)

-- the set names no station n or above
unfoldable pub within : ℕ → ℕ → Bool
within n set = ltb set (2 ^ n)

-- the set with station i; there is no station 16 or above
unfoldable pub join : ℕ → ℕ → ℕ
join set i = cond (ltb i 16) (bit_or set (2 ^ i)) set

-- the stations of either set
unfoldable pub unite : ℕ → ℕ → ℕ
unite a b = bit_or a b

-- the stations of a that are not in b: their bits taken out (`member_minus` of Promise.antt)
unfoldable pub minus : ℕ → ℕ → ℕ
minus a b = a - bit_and a b

-- the set without station i
unfoldable pub remove : ℕ → ℕ → ℕ
remove set i = minus set (2 ^ i)

-- the lowest station of the set, where a walk over it begins; 16 where it has none
unfoldable pub lowest : ℕ → ℕ
lowest set = count_trailing_zeros 16 set

-- the set of all of n stations, at most 16
unfoldable pub full : ℕ → ℕ
full n = 2 ^ min n 16 - 1

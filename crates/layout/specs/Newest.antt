-- What the copies at the stations of a set give. The set is a round's polled set or, for reach and plan, all or the lowest of the stations on the bus. Document
-- 01, "The calls": "the newest copy by version gives version and value; the newest by generation gives generation and configuration; on equal numbers the
-- lowest station counts."
use Rattle.std.specs.Prelude.{◌≡◌, Bool, true, false, cond, ◌↔◌, [], ℕ, zero, suc, ◌+◌, ◌≤◌, ◌<◌, ltb, Option, None, Some}
use Rattle.quorum.specs.Sets.{member}
use Rattle.quorum.specs.Configurations.{first_read, is_place}
use Rattle.layout.specs.Fields.{Copy}

-- station k, if its key is greater than that of the newest before it
abbrev pub newer : (ℕ → ℕ) → ℕ → Option ℕ → Option ℕ
newer key k None = Some k
newer key k (Some b) = cond (ltb (key b) (key k)) (Some k) (Some b)

-- the newest by a key of the stations below a bound that are in the set
unfoldable pub newest : (ℕ → ℕ) → ℕ → ℕ → Option ℕ
newest key set zero = None
newest key set (suc k) = cond (member set k) (newer key k (newest key set k)) (newest key set k)

-- the same by quantifiers: of the stations below n that are in the set, b has the greatest key, and is the lowest that has it
pub record IsNewest (key : ℕ → ℕ) (set n b : ℕ) : Type 0 where
  pub station : b < n
  pub in_set : member set b ≡ true
  pub greatest : (s : ℕ) → s < n → member set s ≡ true → key s ≤ key b
  pub lowest : (s : ℕ) → s < b → member set s ≡ true → key s < key b

-- the two are one, and there is none exactly if the set has no station below the bound
pub record NewestExactly : Type 0 where
  pub is_newest : (key : ℕ → ℕ) (set n b : ℕ) → (newest key set n ≡ Some b) ↔ IsNewest key set n b
  pub nobody : (key : ℕ → ℕ) (set n : ℕ) → (newest key set n ≡ None) ↔ ((s : ℕ) → s < n → member set s ≡ false)

-- "With nothing polled it is unheard": the empty list has no read set, so that the zeros are never used
abbrev pub no_copy : Copy
no_copy = record { version = 0; value = 0; generation = 0; config = [] }

abbrev pub copy_or : (ℕ → Copy) → Option ℕ → Copy
copy_or copies None = no_copy
copy_or copies (Some s) = copies s

-- the station that gives version and value, and the one that gives generation and configuration, if any
abbrev pub version_station : (ℕ → Copy) → ℕ → ℕ → Option ℕ
version_station copies set n = newest (λ s. (copies s).version) set n

abbrev pub generation_station : (ℕ → Copy) → ℕ → ℕ → Option ℕ
generation_station copies set n = newest (λ s. (copies s).generation) set n

-- a station, or none, as a figure (document 02, 2026-04): "one plus the station that gave the version, or 0"
abbrev pub station_figure : Option ℕ → ℕ
station_figure None = 0
station_figure (Some s) = s + 1

unfoldable pub by_version : (ℕ → Copy) → ℕ → ℕ → Copy
by_version copies set n = copy_or copies (version_station copies set n)

unfoldable pub by_generation : (ℕ → Copy) → ℕ → ℕ → Copy
by_generation copies set n = copy_or copies (generation_station copies set n)

-- "The round is heard if the polled set holds every station of some read set of that configuration." And document 02, 2026-04: "The test for heard
-- shall tell the first read place held". In source 000 (5.4.3): a read quorum of the configuration with the highest generation that was read has been read.
abbrev pub heard_place : (ℕ → Copy) → ℕ → ℕ → Option ℕ
heard_place copies set n = first_read (by_generation copies set n).config set

-- heard: there is such a place (`holds_read` of that configuration)
unfoldable pub hears : (ℕ → Copy) → ℕ → ℕ → Bool
hears copies set n = is_place (heard_place copies set n)

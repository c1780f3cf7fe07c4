-- One walk over the copies at the stations of a set, which finds what the two searches of Newest.antt find. The rules speak of the searches; the code
-- walks once. Document 02, 2026-07: "let one walk carry the newest of both, by generation and by version. Show that for any polled set it finds what two
-- separate searches find, the lowest station on equal numbers in each."
use Rattle.std.specs.Prelude.{◌≡◌, false, cond, ◌↔◌, ℕ, zero, suc, ◌<◌, ltb, Option, None, Some}
use Rattle.quorum.specs.Sets.{member}
use Rattle.layout.specs.Fields.{Copy}
use Rattle.layout.specs.Newest.{IsNewest, version_station, generation_station}

-- what the walk carries: the stations of the newest copies so far, each with the counter by which its copy is the newest
pub record Walked : Type 0 where
  pub by_version : ℕ
  pub version : ℕ
  pub by_generation : ℕ
  pub generation : ℕ

-- the walk comes to station s: it is the first, or it takes the place of a station whose counter is smaller
abbrev pub onward : (ℕ → Copy) → ℕ → Option Walked → Walked
onward copies s None = record { by_version = s; version = (copies s).version; by_generation = s; generation = (copies s).generation }
onward copies s (Some w) =
    record {
      by_version = cond (ltb w.version (copies s).version) s w.by_version;
      version = cond (ltb w.version (copies s).version) (copies s).version w.version;
      by_generation = cond (ltb w.generation (copies s).generation) s w.by_generation;
      generation = cond (ltb w.generation (copies s).generation) (copies s).generation w.generation;
    }

-- the walk over the stations below a bound that are in the set, in rising number
unfoldable pub walk : (ℕ → Copy) → ℕ → ℕ → Option Walked
walk copies set zero = None
walk copies set (suc k) = cond (member set k) (Some (onward copies k (walk copies set k))) (walk copies set k)

-- its two answers
abbrev pub walked_version : Option Walked → Option ℕ
walked_version None = None
walked_version (Some w) = Some w.by_version

abbrev pub walked_generation : Option Walked → Option ℕ
walked_generation None = None
walked_generation (Some w) = Some w.by_generation

-- of any copies and for any set
pub record OneWalk : Type 0 where
  -- each answer is that of its own search
  pub version : (copies : ℕ → Copy) (set n : ℕ) → walked_version (walk copies set n) ≡ version_station copies set n
  pub generation : (copies : ℕ → Copy) (set n : ℕ) → walked_generation (walk copies set n) ≡ generation_station copies set n
  -- the counters carried are those of the copies at the stations carried
  pub counters : (copies : ℕ → Copy) (set n : ℕ) (w : Walked) → walk copies set n ≡ Some w
      → (w.version ≡ (copies w.by_version).version) × (w.generation ≡ (copies w.by_generation).generation)
  -- by quantifiers: in each the greatest counter, and the lowest station that has it; and nobody exactly if the set has no station below the bound
  pub newest : (copies : ℕ → Copy) (set n : ℕ) (w : Walked) → walk copies set n ≡ Some w
      → IsNewest (λ s. (copies s).version) set n w.by_version × IsNewest (λ s. (copies s).generation) set n w.by_generation
  pub nobody : (copies : ℕ → Copy) (set n : ℕ) → (walk copies set n ≡ None) ↔ ((s : ℕ) → s < n → member set s ≡ false)

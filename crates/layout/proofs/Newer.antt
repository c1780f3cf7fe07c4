-- The newest copy by a key, by its record `IsNewest`: the station that `newest` gives is the one that has the greatest key of the stations in
-- the set, and of several the lowest.
use mathlib.Core.Path.{◌≡◌, refl, ap}
use mathlib.Core.Bool.{Bool, true, false, cond}
use mathlib.Core.List.{List, []}
use mathlib.Core.Logic.{◌↔◌}
use Rattle.std.specs.Prelude.{Option, None, Some}
use Prim.Native.Nat.{ℕ, zero, suc, ◌≤◌, ◌<◌}
use native.Mathlib.Nat.{not-suc-le-zero, le_antisymm}
use native.Mathlib.Omega.{arith}
use lib.Dec.{ltb}
use borrow.Author.Tests.{ltb-true, ltb-false}
use Rattle.quorum.specs.Sets.{member, within}
use Rattle.quorum.specs.Configurations.{first_read, place_figure, is_place, holds_read}
use Rattle.basics.proofs.Tests.{clash, below_suc, either}
use Rattle.quorum.proofs.Promise.{promise}
use Rattle.layout.specs.Fields.{Copy}
use Rattle.layout.specs.Newest.{newest, newer, IsNewest, NewestExactly, no_copy, copy_or, version_station, station_figure}
use Rattle.layout.specs.Newest.{by_version, by_generation, heard_place, hears}
use Rattle.layout.specs.View.{CopyBy}

-- what `newest` gives
abbrev pub Gives : (ℕ → ℕ) → ℕ → ℕ → Option ℕ → Type 0
Gives key set n None = (s : ℕ) → s < n → member set s ≡ false
Gives key set n (Some b) = IsNewest key set n b

module _ (key : ℕ → ℕ) (set : ℕ) where
  -- one more station: it is the newest if its key is greater, or if it is the first in the set
  later : (k : ℕ) → member set k ≡ true → ((s : ℕ) → s < k → member set s ≡ true → key s < key k) → IsNewest key set (suc k) k
  later k m less =
      record {
        station = omega arith;
        in_set = m;
        greatest = below_suc (λ (s : ℕ). member set s ≡ true → key s ≤ key k) k (λ s h p. let q = less s h p in omega arith) (λ p. omega arith);
        lowest = less;
      }

  -- and leaves the newest as it was if not
  kept : (k b : ℕ) → IsNewest key set k b → (member set k ≡ true → key k ≤ key b) → IsNewest key set (suc k) b
  kept k b h last =
      record {
        station = let q = h.station in omega arith;
        in_set = h.in_set;
        greatest = below_suc (λ (s : ℕ). member set s ≡ true → key s ≤ key b) k h.greatest last;
        lowest = h.lowest;
      }

  pub is_newest : (n : ℕ) → Gives key set n (newest key set n)
  unfolding newest
  is_newest zero = λ s h. absurd (not-suc-le-zero h)
  is_newest (suc k) = go (newest key set k) (is_newest k) (member set k) refl
    where
      pick : (b : ℕ) → IsNewest key set k b → member set k ≡ true → (t : Bool) → ltb (key b) (key k) ≡ t
          → Gives key set (suc k) (cond t (Some k) (Some b))
      pick b h m true e =
          let l = ltb-true (key b) (key k) e in later k m (λ s hs p. let g = h.greatest s hs p in omega arith)
      pick b h m false e = kept k b h (λ p. ltb-false (key b) (key k) e)

      go : (o : Option ℕ) → Gives key set k o → (t : Bool) → member set k ≡ t → Gives key set (suc k) (cond t (newer key k o) o)
      go None h true m = later k m (λ s hs p. clash p (h s hs))
      go None h false m = below_suc (λ (s : ℕ). member set s ≡ false) k h m
      go (Some b) h true m = pick b h m (ltb (key b) (key k)) refl
      go (Some b) h false m = kept k b h (λ p. clash p m)

  module _ (n : ℕ) where
    -- there is one newest: of two, neither is the lower
    not_lower : (a b : ℕ) → IsNewest key set n a → IsNewest key set n b → b ≤ a
    not_lower a b p q =
        either (ltb a b)
        (λ e. let l = q.lowest a (ltb-true a b e) p.in_set in let g = p.greatest b q.station q.in_set in absurd (omega arith))
        (λ e. ltb-false a b e)

    pub same_newest : (a b : ℕ) → IsNewest key set n a → IsNewest key set n b → a ≡ b
    same_newest a b p q = le_antisymm (not_lower b a q p) (not_lower a b p q)

    pub newest_is : (b : ℕ) → IsNewest key set n b → newest key set n ≡ Some b
    newest_is b h = go (newest key set n) (is_newest n)
      where
        go : (o : Option ℕ) → Gives key set n o → o ≡ Some b
        go None f = clash h.in_set (f b h.station)
        go (Some a) f = ap Some (same_newest a b f h)

    -- with a station of the set there is a newest
    pub some_newest : (s : ℕ) → s < n → member set s ≡ true → (b : ℕ) × IsNewest key set n b
    some_newest s l m = go (newest key set n) (is_newest n)
      where
        go : (o : Option ℕ) → Gives key set n o → (b : ℕ) × IsNewest key set n b
        go None f = clash m (f s l)
        go (Some b) f = (b, f)

-- the statement of specs/Newest.antt
pub newest_exactly : NewestExactly
newest_exactly =
    record {
      is_newest = λ key set n b. (λ e. rw e at (is_newest key set n), newest_is key set n b);
      nobody = λ key set n. (λ e. rw e at (is_newest key set n), nobody key set n);
    }
  where
    nobody : (key : ℕ → ℕ) (set n : ℕ) → ((s : ℕ) → s < n → member set s ≡ false) → newest key set n ≡ None
    nobody key set n h = go (newest key set n) (is_newest key set n)
      where
        go : (o : Option ℕ) → Gives key set n o → o ≡ None
        go None f = refl
        go (Some b) f = clash f.in_set (h b f.station)

-- ---- the station found, as a figure; in a set of stations below n there is none exactly if the set is empty
module _ (key : ℕ → ℕ) (set n : ℕ) where
  pub station_shown : (s : ℕ) → (station_figure (newest key set n) ≡ suc s) ↔ IsNewest key set n s
  station_shown s = go (newest key set n) (is_newest key set n)
    where
      go : (o : Option ℕ) → Gives key set n o → (station_figure o ≡ suc s) ↔ IsNewest key set n s
      go None f = (λ z. absurd (omega (arith, z)), λ h. clash h.in_set (f s h.station))
      go (Some b) f = (
        λ z. let q : b ≡ s = omega (arith, z) in rw q at f,
        λ h. let q = same_newest key set n b s f h in omega (arith, q),
      )

  pub none_shown : within n set ≡ true → (station_figure (newest key set n) ≡ 0) ↔ (set ≡ 0)
  none_shown inside = go (newest key set n) (is_newest key set n)
    where
      go : (o : Option ℕ) → Gives key set n o → (station_figure o ≡ 0) ↔ (set ≡ 0)
      go None f = (
        λ z. promise.same_members set 0 (λ i m. clash m (f i (promise.within_member n set i inside m))) (λ i m. clash m (promise.member_empty i)),
        λ z. refl,
      )
      go (Some b) f = (λ z. absurd (omega (arith, z)), λ z. clash (rw z at f.in_set) (promise.member_empty b))

  pub station_fits : station_figure (newest key set n) ≤ n
  station_fits = go (newest key set n) (is_newest key set n)
    where
      go : (o : Option ℕ) → Gives key set n o → station_figure o ≤ n
      go None f = omega arith
      go (Some b) f = let l = f.station in omega arith

-- ---- the copies that it gives
module _ (copies : ℕ → Copy) (set n : ℕ) where
  -- the figure of the place held: there are eight places
  pub place_fits : place_figure (heard_place copies set n) ≤ 8
  place_fits = go (place_figure place) refl
    where
      config : List ℕ
      config = (by_generation copies set n).config

      place : Option ℕ
      place = first_read config set

      go : (x : ℕ) → place_figure place ≡ x → x ≤ 8
      go zero e = omega arith
      go (suc k) e = let f = ((promise.first_read_lem config set k).0 ((promise.figure_at place k).0 e)).0 in omega arith

  pub by_version_lem : (b : ℕ) → IsNewest (λ s. (copies s).version) set n b → by_version copies set n ≡ copies b
  unfolding by_version
  by_version_lem b h = ap (copy_or copies) (newest_is (λ s. (copies s).version) set n b h)

  pub by_generation_lem : (b : ℕ) → IsNewest (λ s. (copies s).generation) set n b → by_generation copies set n ≡ copies b
  unfolding by_generation
  by_generation_lem b h = ap (copy_or copies) (newest_is (λ s. (copies s).generation) set n b h)

  -- what the copies of a set with a station give
  pub record Finds : Type 0 where
    pub b : ℕ
    pub newest_version : IsNewest (λ s. (copies s).version) set n b
    pub version : by_version copies set n ≡ copies b
    pub g : ℕ
    pub newest_generation : IsNewest (λ s. (copies s).generation) set n g
    pub generation : by_generation copies set n ≡ copies g

  pub finds : (s : ℕ) → s < n → member set s ≡ true → Finds
  finds s l m =
      let x = some_newest (λ s. (copies s).version) set n s l m in
      let y = some_newest (λ s. (copies s).generation) set n s l m in
      record {
        b = x.0;
        newest_version = x.1;
        version = by_version_lem x.0 x.1;
        g = y.0;
        newest_generation = y.1;
        generation = by_generation_lem y.0 y.1;
      }

  -- a set that hears has a station: with none, the configuration is no list of 32 bytes, and has no sets
  pub heard_finds : hears copies set n ≡ true → Finds
  unfolding hears by_generation
  heard_finds e = go (newest (λ s. (copies s).generation) set n) (is_newest (λ s. (copies s).generation) set n) e
    where
      go : (o : Option ℕ) → Gives (λ s. (copies s).generation) set n o → holds_read (copy_or copies o).config set ≡ true → Finds
      go None f h = clash h (promise.short_read [] set (λ z. absurd (omega arith)))
      go (Some s) f h = finds s f.station f.in_set

-- ---- only the stations below n are looked at
module _ (key key' : ℕ → ℕ) (set : ℕ) where
  newest_same : (n : ℕ) → ((s : ℕ) → s < n → key s ≡ key' s) → newest key set n ≡ newest key' set n
  unfolding newest
  newest_same zero e = refl
  newest_same (suc k) e = rw (newest_same k (λ s l. e s (omega arith)), newer_same (newest key' set k) (is_newest key' set k))
    where
      newer_same : (o : Option ℕ) → Gives key' set k o → newer key k o ≡ newer key' k o
      newer_same None h = refl
      newer_same (Some b) h = let l = h.station in rw (e b (omega arith), e k (omega arith))

-- two rows of copies that are related, one by one, give copies that are: the newest by a field in which related copies agree
found_related : (R : Copy → Copy → Type 0) → R no_copy no_copy → (field : Copy → ℕ) → ((c d : Copy) → R c d → field c ≡ field d)
    → (cs ds : ℕ → Copy) (set n : ℕ) → ((s : ℕ) → s < n → R (cs s) (ds s))
    → R (copy_or cs (newest (λ s. field (cs s)) set n)) (copy_or ds (newest (λ s. field (ds s)) set n))
found_related R nobody field agree cs ds set n e =
    rw (newest_same (λ s. field (cs s)) (λ s. field (ds s)) set n (λ s l. agree (cs s) (ds s) (e s l)))
    (go (newest (λ s. field (ds s)) set n) (is_newest (λ s. field (ds s)) set n))
  where
    go : (o : Option ℕ) → Gives (λ s. field (ds s)) set n o → R (copy_or cs o) (copy_or ds o)
    go None h = nobody
    go (Some b) h = e b h.station

-- the same numbers, and related configurations
module _ (R : List ℕ → List ℕ → Type 0) (itself : (c : List ℕ) → R c c) (cs ds : ℕ → Copy) (set n : ℕ)
    (e : (s : ℕ) → s < n → CopyBy R (cs s) (ds s)) where
  nobody : CopyBy R no_copy no_copy
  nobody = record { version = refl; value = refl; generation = refl; config = itself [] }

  pub version_station_by : version_station cs set n ≡ version_station ds set n
  version_station_by = newest_same (λ s. (cs s).version) (λ s. (ds s).version) set n (λ s l. (e s l).version)

  pub version_by : CopyBy R (by_version cs set n) (by_version ds set n)
  unfolding by_version
  version_by = found_related (CopyBy R) nobody (λ c. c.version) (λ c d p. p.version) cs ds set n e

  pub generation_by : CopyBy R (by_generation cs set n) (by_generation ds set n)
  unfolding by_generation
  generation_by = found_related (CopyBy R) nobody (λ c. c.generation) (λ c d p. p.generation) cs ds set n e

-- for what is heard, only generations count, and what passes for reading
module _ (cs ds : ℕ → Copy) (set n : ℕ)
    (e : (s : ℕ) → s < n → ((cs s).generation ≡ (ds s).generation) × ((a : ℕ) → holds_read (cs s).config a ≡ holds_read (ds s).config a)) where
  pub hears_alike : hears cs set n ≡ hears ds set n
  unfolding hears by_generation
  hears_alike =
      (found_related (λ c d. (c.generation ≡ d.generation) × ((a : ℕ) → holds_read c.config a ≡ holds_read d.config a)) (refl, λ a. refl)
      (λ c. c.generation) (λ c d p. p.0) cs ds set n e).1 set

module _ (cs ds : ℕ → Copy) (set n : ℕ) (e : (s : ℕ) → s < n → cs s ≡ ds s) where
  pub place_same : heard_place cs set n ≡ heard_place ds set n
  unfolding by_generation
  place_same = ap (λ c. first_read c.config set) (found_related ◌≡◌ refl (λ c. c.generation) (λ c d p. ap (λ x. x.generation) p) cs ds set n e)

  pub hears_same : hears cs set n ≡ hears ds set n
  unfolding hears
  hears_same = ap is_place place_same

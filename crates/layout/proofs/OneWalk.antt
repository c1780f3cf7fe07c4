-- The one walk finds what the two searches find: the statement of specs/Walk.antt.
use mathlib.Core.Path.{◌≡◌, refl, sym, ap, ◌∙◌}
use mathlib.Core.Bool.{Bool, true, false, cond}
use Rattle.std.specs.Prelude.{Option, None, Some}
use Prim.Native.Nat.{ℕ, zero, suc, ◌+◌, ◌<◌}
use lib.Dec.{ltb}
use Rattle.basics.proofs.Tests.{clash, by_cases, fails}
use Rattle.quorum.specs.Sets.{member, join}
use Rattle.quorum.proofs.Promise.{promise}
use Rattle.layout.specs.Fields.{Copy}
use Rattle.layout.specs.Newest.{newest, newer, version_station, generation_station, station_figure, by_version, by_generation, heard_place, hears}
use Rattle.layout.specs.Walk.{Walked, onward, walk, walked_version, walked_generation, OneWalk}
use Rattle.layout.proofs.Newer.{newest_exactly, by_version_lem, by_generation_lem, heard_finds}
use Rattle.layout.proofs.Along.{along, along_none, along_joined}

-- ---- one of the two: a station b and its counter c, of any key
module _ (key : ℕ → ℕ) (s b : ℕ) {c : ℕ} (e : c ≡ key b) where
  -- the newer of two stations is told by the counter carried
  newer_station : Some (cond (ltb c (key s)) s b) ≡ newer key s (Some b)
  newer_station = rw e (by_cases (λ (t : Bool). Some (cond t s b) ≡ cond t (Some s) (Some b)) (ltb (key b) (key s)) (λ _. refl) (λ _. refl))

  newer_counter : cond (ltb c (key s)) (key s) c ≡ key (cond (ltb c (key s)) s b)
  newer_counter = by_cases (λ (t : Bool). cond t (key s) c ≡ key (cond t s b)) (ltb c (key s)) (λ _. refl) (λ _. e)

module _ (copies : ℕ → Copy) where
  abbrev versions : ℕ → ℕ
  versions s = (copies s).version

  abbrev generations : ℕ → ℕ
  generations s = (copies s).generation

  abbrev Counted : Option Walked → Type 0
  Counted None = Unit {0}
  Counted (Some w) = (w.version ≡ versions w.by_version) × (w.generation ≡ generations w.by_generation)

  -- what is carried is what each search has so far, with its counter
  record Carries (o : Option Walked) (by_version by_generation : Option ℕ) : Type 0 where
    version : walked_version o ≡ by_version
    generation : walked_generation o ≡ by_generation
    counters : Counted o

  -- one station more
  carries_on : (s : ℕ) (o : Option Walked) (v g : Option ℕ) → Carries o v g
      → Carries (Some (onward copies s o)) (newer versions s v) (newer generations s g)
  carries_on s None v g h =
      record {
        version = rw (← h.version);
        generation = rw (← h.generation);
        counters = (refl, refl);
      }
  carries_on s (Some w) v g h =
      let c = h.counters in
      record {
        version = rw (← h.version) (newer_station versions s w.by_version c.0);
        generation = rw (← h.generation) (newer_station generations s w.by_generation c.1);
        counters = (newer_counter versions s w.by_version c.0, newer_counter generations s w.by_generation c.1);
      }

  carries : (set n : ℕ) → Carries (walk copies set n) (version_station copies set n) (generation_station copies set n)
  unfolding walk newest
  carries set zero = record { version = refl; generation = refl; counters = tt }
  carries set (suc k) =
      by_cases
      (λ (b : Bool). Carries (cond b (Some (onward copies k (walk copies set k))) (walk copies set k))
      (cond b (newer versions k (version_station copies set k)) (version_station copies set k))
      (cond b (newer generations k (generation_station copies set k)) (generation_station copies set k)))
      (member set k)
      (λ _. carries_on k _ _ _ (carries set k))
      (λ _. carries set k)

  -- the walk, taken station by station
  pub walk_along : (set n : ℕ) → along (λ k o. Some (onward copies k o)) None set n ≡ walk copies set n
  unfolding walk along
  walk_along set zero = refl
  walk_along set (suc k) = rw (walk_along set k)

  -- over no station, and over a set that a station joins above all others
  pub walk_empty : (n : ℕ) → walk copies 0 n ≡ None
  walk_empty n = sym (walk_along 0 n) ∙ along_none (λ k o. Some (onward copies k o)) None 0 n (λ i _. promise.member_empty i)

  pub walk-joined : (set s n : ℕ) → s < 16 → ((i : ℕ) → member set i ≡ true → i < s) → s < n
      → walk copies (join set s) n ≡ Some (onward copies s (walk copies set n))
  walk-joined set s n small above l =
      sym (walk_along (join set s) n) ∙ along_joined (λ k o. Some (onward copies k o)) None set s small above n l
      ∙ ap (λ o. Some (onward copies s o)) (walk_along set n)

pub one_walk : OneWalk
one_walk =
    record {
      version = λ copies set n. (carries copies set n).version;
      generation = λ copies set n. (carries copies set n).generation;
      counters = λ copies set n w e. rw e at (carries copies set n).counters;
      newest = λ copies set n w e. let h = carries copies set n in (
        (newest_exactly.is_newest _ set n _).0 (sym h.version ∙ ap walked_version e),
        (newest_exactly.is_newest _ set n _).0 (sym h.generation ∙ ap walked_generation e),
      );
      nobody = λ copies set n. (
        λ e. (newest_exactly.nobody _ set n).0 (sym (carries copies set n).version ∙ ap walked_version e),
        λ h. nobody_walked _ ((carries copies set n).version ∙ (newest_exactly.nobody _ set n).1 h),
      );
    }
  where
    nobody_walked : (o : Option Walked) → walked_version o ≡ None → o ≡ None
    nobody_walked None e = refl
    nobody_walked (Some w) e = cc

-- ---- for callers: what a walk has found is what the round's rules speak of
module _ (copies : ℕ → Copy) (set n : ℕ) {w : Walked} (e : walk copies set n ≡ Some w) where
  pub version_below : w.by_version < n
  version_below = (one_walk.newest copies set n w e).0.station

  pub generation_below : w.by_generation < n
  generation_below = (one_walk.newest copies set n w e).1.station

  pub version_found : by_version copies set n ≡ copies w.by_version
  version_found = by_version_lem copies set n w.by_version (one_walk.newest copies set n w e).0

  pub generation_found : by_generation copies set n ≡ copies w.by_generation
  generation_found = by_generation_lem copies set n w.by_generation (one_walk.newest copies set n w e).1

  -- the counters carried are those found
  pub version_carried : w.version ≡ (by_version copies set n).version
  version_carried = (one_walk.counters copies set n w e).0 ∙ ap (λ c. c.version) (sym version_found)

  pub generation_carried : w.generation ≡ (by_generation copies set n).generation
  generation_carried = (one_walk.counters copies set n w e).1 ∙ ap (λ c. c.generation) (sym generation_found)

  pub station_figure_lem : w.by_version + 1 ≡ station_figure (version_station copies set n)
  station_figure_lem = ap (λ o. station_figure (walked_version o)) (sym e) ∙ ap station_figure (one_walk.version copies set n)

-- with nobody there it is not heard
module _ (copies : ℕ → Copy) (set n : ℕ) (e : walk copies set n ≡ None) where
  pub nobody_hears : hears copies set n ≡ false
  nobody_hears =
      fails _ (λ h. let f = heard_finds copies set n h in
      clash f.newest_version.in_set ((one_walk.nobody copies set n).0 e f.b f.newest_version.station))

  pub nobody_place : heard_place copies set n ≡ None
  unfolding hears
  nobody_place = (promise.no_place _).0 nobody_hears

  pub nobody_figure : 0 ≡ station_figure (version_station copies set n)
  nobody_figure = ap (λ o. station_figure (walked_version o)) (sym e) ∙ ap station_figure (one_walk.version copies set n)

-- The store's tests of a round are the conditions of source 000.
use mathlib.Core.Path.{◌≡◌, refl, ap}
use mathlib.Core.Bool.{Bool, true, false, not, ◌&&◌}
use mathlib.Core.Logic.{◌↔◌}
use mathlib.Core.List.{List}
use Prim.Native.Nat.{ℕ}
use borrow.Author.Tests.{eqb-true, eq-eqb, not-false}
use Rattle.basics.proofs.Tests.{clash, fails, and_left, and_right, and_both}
use Rattle.quorum.specs.Configurations.{first_read, place_figure}
use Rattle.std.specs.Prelude.{Option}
use Rattle.quorum.proofs.Promise.{promise}
use Rattle.layout.specs.Fields.{last_count, Kind, none, read, write, change}
use Rattle.layout.specs.Newest.{by_generation, heard_place, hears}
use Rattle.layout.specs.View.{State, own, found_by_version, found_by_generation, heard}
use Rattle.layout.proofs.Newer.{by_version_lem, by_generation_lem, heard_finds}
use Rattle.rules.specs.Rules.{spent, written}
use Rattle.rules.specs.Demand2.{Found, Heard, HeardBy, HeardRound, Spent, Written}
use Rattle.rules.specs.Steps.{PlaceShown}

-- ---- tests that decide a condition
pub negated : (b : Bool) {A : Type 0} → (b ≡ true) ↔ A → (b ≡ false) ↔ (A → ⊥)
negated b p = (λ e a. clash (p.1 a) e, λ h. fails b (λ e. h (p.0 e)))

pub passes : (b : Bool) {A : Type 0} → (b ≡ true) ↔ A → (not b ≡ false) ↔ A
passes b p = (λ e. p.0 (not-false b e), λ a. ap not (p.1 a))

pub both : (a b : Bool) {A B : Type 0} → (a ≡ true) ↔ A → (b ≡ true) ↔ B → ((a && b) ≡ true) ↔ (A × B)
both a b p q = (λ e. (p.0 (and_left a b e), q.0 (and_right a b e)), λ h. and_both a b (p.1 h.0) (q.1 h.1))

module _ (v : State) where
  -- a round that is heard has found something
  pub found : heard v ≡ true → Found v
  found e =
      let h = heard_finds (own v) v.round.polled v.n e in
      record { g = h.g; b = h.b; newest_generation = h.newest_generation; newest_version = h.newest_version }

  module _ (f : Found v) where
    pub generation_found : found_by_generation v ≡ own v f.g
    generation_found = by_generation_lem (own v) v.round.polled v.n f.g f.newest_generation

    pub version_found : found_by_version v ≡ own v f.b
    version_found = by_version_lem (own v) v.round.polled v.n f.b f.newest_version

    pub is_heard_lem : (heard v ≡ true) ↔ Heard v f
    unfolding hears
    is_heard_lem = rw generation_found (promise.holds_read_lem (own v f.g).config v.round.polled)

    pub is_spent : (k : Kind) → (spent v k ≡ true) ↔ Spent v f k
    is_spent none = (λ e. clash e refl, λ z. absurd z)
    is_spent read = (λ e. clash e refl, λ z. absurd z)
    is_spent write = rw version_found (eqb-true _ last_count, eq-eqb _ last_count)
    is_spent change = rw generation_found (eqb-true _ last_count, eq-eqb _ last_count)

    pub is_written : (k : Kind) → (written v k ≡ true) ↔ Written v f k
    is_written none = (λ e. tt, λ u. refl)
    is_written read = (λ e. tt, λ u. refl)
    is_written write = rw generation_found (promise.holds_write_lem (own v f.g).config v.round.data_puts)
    is_written change =
        rw generation_found (both _ _ (promise.holds_write_lem v.round.target v.round.data_puts)
        (promise.holds_write_lem (own v f.g).config v.round.config_puts))

  -- any item and any stations, and the open round
  pub heard_by_lem : (i set : ℕ) → (hears (v.copies i) set v.n ≡ true) ↔ ((g : ℕ) × HeardBy v i set g)
  unfolding hears
  heard_by_lem i set = (
    λ e. let f = heard_finds (v.copies i) set v.n e in
        (f.g, (f.newest_generation, (promise.holds_read_lem (v.copies i f.g).config set).0 (rw f.generation at e))),
    λ h. rw (by_generation_lem (v.copies i) set v.n h.0 h.1.0) ((promise.holds_read_lem (v.copies i h.0).config set).1 h.1.1),
  )

  pub heard_exactly : (heard v ≡ true) ↔ HeardRound v
  heard_exactly = heard_by_lem v.round.item v.round.polled

  pub found_in : HeardRound v → Found v
  found_in h = found (heard_exactly.1 h)

  -- the read place that is shown
  module _ (i set : ℕ) where
    abbrev config : List ℕ
    config = (by_generation (v.copies i) set v.n).config

    abbrev place : Option ℕ
    place = first_read config set

    pub place_shown : PlaceShown v i set (place_figure (heard_place (v.copies i) set v.n))
    unfolding hears
    place_shown =
        record {
          place = λ k. (
            λ e. let at-k = (promise.figure_at place k).0 e in
                let f = heard_finds (v.copies i) set v.n ((promise.a_place place).1 (k, at-k)) in
                (f.g, f.newest_generation, rw (config, f.generation) at ((promise.first_read_lem config set k).0 at-k)),
            λ h. (promise.figure_at place k).1
                (rw (config, by_generation_lem (v.copies i) set v.n h.0 h.1) ((promise.first_read_lem (v.copies i h.0).config set k).1 h.2)),
          );
          heard = (λ l. (heard_by_lem i set).0 ((promise.figure_place place).0 l), λ h. (promise.figure_place place).1 ((heard_by_lem i set).1 h));
          unheard = (
            λ e g h. clash ((heard_by_lem i set).1 (g, h)) ((promise.figure_none place).0 e),
            λ n. (promise.figure_none place).1 (fails _ (λ e. let h = (heard_by_lem i set).0 e in n h.0 h.1)),
          );
        }

  -- a test by what a heard round has found: it has found one thing
  module _ (h : HeardRound v) (b : Bool) (C : Found v → Type 0) (e : (f : Found v) → (b ≡ true) ↔ C f) where
    pub of_every : (b ≡ true) ↔ ((f : Found v) → C f)
    of_every = (λ p f. (e f).0 p, λ c. let f = found_in h in (e f).1 (c f))

    pub of_none : (b ≡ false) ↔ ((f : Found v) → C f → ⊥)
    of_none = (λ p f. (negated b (e f)).0 p, λ c. let f = found_in h in (negated b (e f)).1 (c f))

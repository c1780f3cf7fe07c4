-- Whether a round is heard, by the configuration that it has found, and that the items of a sound table lie in it.
use mathlib.Core.Path.{◌≡◌, refl, sym, ap, ◌∙◌}
use mathlib.Core.Bool.{Bool, true}
use mathlib.Core.List.{List}
use Rattle.std.specs.Prelude.{Option}
use Prim.Native.Nat.{ℕ, ◌+◌, ◌≤◌, ◌<◌}
use native.Mathlib.Omega.{arith}
use lib.ListN.{length}
use Rattle.layout.specs.Layout.{copy_size, address}
use Rattle.layout.specs.Fields.{stations, items, round_of, copy_from, copies_of}
use Rattle.layout.specs.Soundness.{sound}
use Rattle.quorum.specs.Configurations.{first_read, holds_read}
use Rattle.layout.specs.Newest.{by_generation, heard_place, hears}
use Rattle.layout.specs.View.{view, own, read_place, heard}
use Rattle.layout.specs.Walk.{Walked, walk}
use Rattle.table.specs.ItemCopies.{InTable}
use Rattle.newest.specs.declared.Newest.{Newest}
use Rattle.layout.proofs.OneWalk.{generation_found}
use Rattle.table.proofs.ItemCopies.{copy_fits}
use Rattle.rounds.specs.Heard.{HasFound, own_walk, OwnFound}
use Rattle.layout.proofs.Fields.{address-table}
use Rattle.layout.proofs.Soundness.{sound_facts}

-- ---- what was tested is what was found
module _ (t : List ℕ) (n item set : ℕ) {newest : Newest} (e : HasFound t n item set newest) {config : List ℕ}
    (c : config ≡ (copies_of t n item newest.by_generation).config) where
  pub config_is : config ≡ (by_generation (copies_of t n item) set n).config
  config_is = c ∙ ap (λ x. x.config) (sym (generation_found (copies_of t n item) set n e))

  pub place_there : {place : Option ℕ} → place ≡ first_read config set → place ≡ heard_place (copies_of t n item) set n
  place_there p = p ∙ ap (λ x. first_read x set) config_is

  pub hears_there : {test : Bool} → test ≡ holds_read config set → test ≡ hears (copies_of t n item) set n
  unfolding hears
  hears_there p = p ∙ ap (λ x. holds_read x set) config_is

-- ---- for callers: a sound table's copies lie in it
pub items_in_table : (t : List ℕ) → sound t ≡ true → (item : ℕ) → item < items t → InTable t (stations t) item
unfolding view
items_in_table t e item l =
    let f = sound_facts t e in
    (f.state.small, omega (arith, f.state.few_items), rw f.size (address-table (stations t) (items t) item l))

-- the same by the stations that were read
pub copies_in_table : (t : List ℕ) → sound t ≡ true → {n i : ℕ} → n ≡ stations t → i < items t → InTable t n i
copies_in_table t e a l = rw a (items_in_table t e _ l)

-- ---- the open round of a sound table, by the bytes, the stations, the item and the polled set that were read
-- the need of the walk
pub own_copies : (t : List ℕ) → sound t ≡ true → {n i : ℕ} → n ≡ stations t → i ≡ (round_of t).item → InTable t n i
unfolding view
own_copies t e a b = rw (a, b) (items_in_table t e (round_of t).item (sound_facts t e).state.item)

module _ (t : List ℕ) {u : List ℕ} {n i p : ℕ} (same : u ≡ t) (a : n ≡ stations t) (b : i ≡ (round_of t).item) (c : p ≡ (round_of t).polled) where
  pub own_walked : {o : Option Walked} → o ≡ walk (copies_of u n i) p n → o ≡ own_walk t
  unfolding view
  own_walked e = rw (same, a, b, c) at e

  pub own_found : {newest : Newest} → OwnFound t newest → HasFound u n i p newest
  unfolding view
  own_found e = rw (same, a, b, c) e

  pub own_heard : {r : Bool} → r ≡ hears (copies_of u n i) p n → r ≡ heard (view t)
  unfolding view
  own_heard e = rw (same, a, b, c) at e

  pub own_place : {place : Option ℕ} → place ≡ heard_place (copies_of u n i) p n → place ≡ read_place (view t)
  unfolding view
  own_place e = rw (same, a, b, c) at e

-- the copy at a station: it is there, and one of the round's
module _ (t : List ℕ) (e : sound t ≡ true) {s : ℕ} (l : s < stations t) {a : ℕ} (q : a ≡ address (stations t) (round_of t).item s) where
  pub own_fits : a + copy_size ≤ length t
  own_fits = copy_fits (own_copies t e refl refl) l q

  pub own_copy : own (view t) s ≡ copy_from t a
  unfolding view
  own_copy = ap (copy_from t) (sym q)

-- A valid configuration of bytes whose sides have the sets that stay, rising, and no others, is its own standard form.
use mathlib.Core.Path.{◌≡◌, refl, sym, ap, ◌∙◌}
use mathlib.Core.Bool.{true}
use mathlib.Core.List.{List, [], ◌∷◌, ◌++◌}
use Prim.Native.Nat.{ℕ, zero, suc, ◌+◌, ◌*◌, ◌≤◌, ◌<◌}
use native.Mathlib.Nat.{not-suc-le-zero}
use native.Mathlib.Numerals.{add-one}
use native.Mathlib.Omega.{arith}
use lib.Dec.{ltb}
use lib.ListN.{length, get_or, drop, length-append, get_or-append, get_or-eq_default}
use lib.Seq.{get_or-append_seam, drop-drop, take-add, take_all}
use borrow.Author.Tests.{ltb-true, ltb-false, eq-eqb}
use Rattle.basics.specs.Bytes.{part, number, AreBytes}
use Rattle.basics.specs.Listing.{Listing}
use Rattle.basics.proofs.Tests.{clash, either, below_suc}
use Rattle.basics.proofs.Listing.{same_numbers}
use Rattle.basics.proofs.Parts.{number_bytes}
use Rattle.quorum.specs.Sets.{used}
use Rattle.quorum.specs.Configurations.{config_size, set_at, read_set, write_set, valid}
use Rattle.quorum.specs.Promise.{Side}
use Rattle.quorum.proofs.Promise.{promise}
use Rattle.form.specs.Sides.{places, side_bytes, config_bytes}
use Rattle.form.specs.Form.{form_sets, standard_form}
use Rattle.form.proofs.Places.{places_same}
use Rattle.form.proofs.Smallest.{stays-used, stays_place}
use Rattle.form.proofs.Sides.{Filled}
use Rattle.form.proofs.Laws.{Staying, form_listing, form_filled, read_place_lem, write_place}

-- ---- the first places of a side as a list
first_sets : (ℕ → ℕ) → ℕ → List ℕ
first_sets side zero = []
first_sets side (suc k) = first_sets side k ++ (side k ∷ [])

first-length : (side : ℕ → ℕ) (k : ℕ) → length (first_sets side k) ≡ k
unfolding first_sets
first-length side zero = refl
first-length side (suc k) = length-append (first_sets side k) (side k ∷ []) ∙ add-one (length (first_sets side k)) ∙ ap suc (first-length side k)

first-set : (side : ℕ → ℕ) (k j : ℕ) → j < k → get_or (first_sets side k) j 0 ≡ side j
unfolding first_sets
first-set side zero j l = absurd (not-suc-le-zero l)
first-set side (suc k) j l =
    below_suc (λ (i : ℕ). get_or (first_sets side k ++ (side k ∷ [])) i 0 ≡ side i) k
    (λ i m. get_or-append (first_sets side k) (side k ∷ []) 0 i (rw (first-length side k) m) ∙ first-set side k i m)
    (rw (first-length side k) at (get_or-append_seam (first_sets side k) (side k) [] 0)) j l

-- ---- one side
-- the first sets, as many as the count says, stay and rise, and no place behind them is used
pub record Formed (side : ℕ → ℕ) (count : ℕ) : Type 0 where
  pub room : count ≤ 8
  pub only : (k : ℕ) → k < count → Staying side (side k)
  pub rises : (j k : ℕ) → j < k → k < count → side j < side k
  pub behind : (k : ℕ) → count ≤ k → k < 8 → side k ≡ 0

module _ (n : ℕ) (side : ℕ → ℕ) (count : ℕ) (few : n ≤ 16) (s : Side n side) (formed : Formed side count) where
  long : length (first_sets side count) ≡ count
  long = first-length side count

  -- every set that stays is among them, since it is used
  at_first : (x : ℕ) → Staying side x → (k : ℕ) → k < 8 → side k ≡ x → k < count
  at_first x e k l q =
      either (ltb k count) (ltb-true k count)
      (λ f. let some = (promise.used_member 0).0 (ap used (sym (formed.behind k (ltb-false k count f) l) ∙ q) ∙ stays-used side x e) in
      clash some.1 (promise.member_empty some.0))

  first_listing : Listing (Staying side) (first_sets side count)
  first_listing =
      record {
        only = λ k l. let h = rw long at l in rw (first-set side count k h) (formed.only k h);
        every = λ x e. let at = stays_place side x e in let h = at_first x e at.0 at.1 at.2 in
            (at.0, rw long h, first-set side count at.0 h ∙ at.2);
        rises = λ j k m l. let h = rw long at l in rw (first-set side count j (omega arith), first-set side count k h) (formed.rises j k m h);
      }

  -- so the form has them at the same places
  own_place : (k : ℕ) → k < 8 → get_or (form_sets n side) k 0 ≡ side k
  own_place k l =
      same_numbers (Staying side) (form_sets n side) (first_sets side count) (form_listing n side few s) first_listing k
      ∙ either (ltb k count) (λ e. first-set side count k (ltb-true k count e))
      (λ e. let past = ltb-false k count e in
      get_or-eq_default (first_sets side count) 0 (omega (arith, long)) ∙ sym (formed.behind k past l))

-- ---- the bytes
part_more : (t : List ℕ) (at k more : ℕ) → part t at k ++ part t (at + k) more ≡ part t at (k + more)
part_more t at k more = rw (← drop-drop k at t) (sym (take-add k more (drop at t)))

-- places written by the numbers that stand in them
own-places : (t : List ℕ) (at k : ℕ) → AreBytes t → at + 2 * k ≤ length t → places (λ i. number t (at + 2 * i) 2) k ≡ part t at (2 * k)
unfolding places
own-places t at zero b h = refl
own-places t at (suc k) b h =
    let next : 2 * k + 2 ≡ 2 * suc k = omega arith in
    rw (own-places t at k b (omega arith), number_bytes t (at + 2 * k) 2 b (omega arith), ← next) (part_more t at (2 * k) 2)

module _ (n : ℕ) (c : List ℕ) (v : valid n c ≡ true) (b : AreBytes c) where
  long_config : length c ≡ config_size
  long_config = promise.valid_length n c v

  set_at_lem : (place : ℕ) → set_at c place ≡ number c (2 * place) 2
  unfolding set_at
  set_at_lem place = rw (eq-eqb (length c) config_size long_config)

  read_at : (k : ℕ) → read_set c k ≡ number c (0 + 2 * k) 2
  unfolding read_set
  read_at k = let same : 0 + 2 * k ≡ 2 * k = omega arith in rw same (set_at_lem k)

  write_at : (k : ℕ) → write_set c k ≡ number c (16 + 2 * k) 2
  unfolding write_set
  write_at k = let same : 16 + 2 * k ≡ 2 * (8 + k) = omega arith in rw same (set_at_lem (8 + k))

  -- both sides
  pub own_config : (r w : ℕ) → Formed (read_set c) r → Formed (write_set c) w → standard_form n c ≡ c
  unfolding standard_form config_bytes side_bytes
  own_config r w reads writes =
      let facts = (promise.valid_exactly n c).0 v in
      let few = facts.small in
      rw (
        places_same (λ k. get_or (form_sets n (read_set c)) k 0) (λ k. number c (0 + 2 * k) 2) 8
            (λ k l. own_place n (read_set c) r few facts.reads reads k l ∙ read_at k),
        places_same (λ k. get_or (form_sets n (write_set c)) k 0) (λ k. number c (16 + 2 * k) 2) 8
            (λ k l. own_place n (write_set c) w few facts.writes writes k l ∙ write_at k),
        own-places c 0 8 b (omega (arith, long_config)),
        own-places c 16 8 b (omega (arith, long_config)),
      ) (part_more c 0 16 16 ∙ take_all 32 c (omega (arith, long_config)))

-- ---- and back: the sides of one that is its own form have the sets of the form
module _ (n : ℕ) (c : List ℕ) (v : valid n c ≡ true) (own : standard_form n c ≡ c) where
  pub reads_filled : Filled (Staying (read_set c)) (form_sets n (read_set c)) (read_set c)
  reads_filled =
      let facts = (promise.valid_exactly n c).0 v in
      rw own at (form_filled n (read_set c) facts.small facts.reads (read_set (standard_form n c)) (read_place_lem n c v))

  pub writes-filled : Filled (Staying (write_set c)) (form_sets n (write_set c)) (write_set c)
  writes-filled =
      let facts = (promise.valid_exactly n c).0 v in
      rw own at (form_filled n (write_set c) facts.small facts.writes (write_set (standard_form n c)) (write_place n c v))

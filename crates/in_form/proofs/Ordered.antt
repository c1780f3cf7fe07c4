-- A valid side whose sets rise, none within a later one, has the sets that stay, and no others; and a side that has these is so ordered.
use mathlib.Core.Path.{◌≡◌, refl, sym, ap, ◌∙◌}
use mathlib.Core.Bool.{Bool, true, false, not, ◌&&◌, ◌||◌, false≢true}
use mathlib.Core.List.{List, [], ◌∷◌}
use mathlib.Core.Logic.{◌↔◌}
use Prim.Native.Nat.{ℕ, zero, suc, ◌+◌, ◌-◌, ◌≤◌, ◌<◌}
use native.Mathlib.Nat.{not-suc-le-zero}
use native.Mathlib.Numerals.{add-one}
use native.Mathlib.Omega.{arith}
use lib.Dec.{ltb, eqb}
use lib.Bits.{bit_and}
use lib.ListN.{length, take, get_or, get_or-eq_default}
use Rattle.std.specs.List.{list_any, list_all}
use Rattle.std.proofs.lemmas.List.Folds.{list_all_more}
use Rattle.basics.specs.Tests.{all_below}
use Rattle.sets.specs.Inner.{eight}
use Rattle.sets.proofs.Sides.{at_place}
use borrow.Author.Count.{below_more}
use borrow.Author.Tests.{ltb-true, ltb-false, eqb-true, eqb-false, ne_eqb, not-true, not-false}
use Rattle.basics.specs.Bytes.{AreBytes}
use Rattle.basics.proofs.Tests.{clash, either, fails, and_left, and_right, and_both, any_below_lem, below-any, below_suc, all-below, below_all}
use Rattle.quorum.specs.Sets.{used, holds}
use Rattle.quorum.specs.Configurations.{read_set, write_set, holds_place, valid}
use Rattle.quorum.specs.Promise.{Side, Valid}
use Rattle.quorum.proofs.Promise.{promise}
use Rattle.form.specs.Form.{contains_another, standard_form}
use Rattle.form.proofs.Sides.{Filled}
use Rattle.form.proofs.Smallest.{stays-used, stays_alone, alone_stays}
use Rattle.form.proofs.Own.{Formed, own_config, reads_filled, writes-filled}
use Rattle.form.proofs.Laws.{Staying, form_any}
use Rattle.in_form.specs.InForm.{none_within, Apart, Follows, InForm}

-- ---- the answers of a test
pub yes : {A : Type 0} → A → (true ≡ true) ↔ A
yes a = (λ _. a, λ _. refl)

pub no : {A : Type 0} → (A → ⊥) → (false ≡ true) ↔ A
no h = (λ e. absurd (false≢true e), λ a. absurd (h a))

-- ---- the loops
-- a test holds of none exactly if the contrary holds of each
neither : (a b d : Bool) → not b ≡ d → not (a || b) ≡ (not a && d)
neither true b d e = refl
neither false b d e = e

pub none_of : (p : ℕ → Bool) (xs : List ℕ) → not (list_any p xs) ≡ list_all (λ x. not (p x)) xs
none_of p [] = refl
none_of p (x ∷ xs) = neither (p x) _ _ (none_of p xs)

-- the first sets of a list, each
pub none_first : (sets : List ℕ) (set k : ℕ) → k ≤ length sets → none_within (take k sets) set ≡ all_below (λ j. not (holds set (get_or sets j 0))) k
unfolding all_below holds
none_first sets set zero l = refl
none_first sets set (suc k) l =
    rw (add-one k) at (list_all_more (λ other. not (eqb (bit_and set other) other)) sets k 0 (omega arith)) ∙ rw (none_first sets set k (omega arith))

-- those of a side, loaded
module _ (side : ℕ → ℕ) (set k : ℕ) (l : k ≤ 8) {sets : List ℕ} (loaded : sets ≡ eight side) {b : Bool} (e : b ≡ none_within (take k sets) set) where
  tested : b ≡ all_below (λ j. not (holds set (get_or (eight side) j 0))) k
  tested = e ∙ rw loaded (none_first (eight side) set k l)

  pub is_apart : b ≡ true → Apart side k set
  is_apart t j m = rw (at_place side j (omega arith)) at (not-true _ (all-below _ k (sym tested ∙ t) j m))

  pub apart_is : Apart side k set → b ≡ true
  apart_is apart = tested ∙ below_all _ k (λ j m. rw (at_place side j (omega arith)) (ap not (apart j m)))

-- the first sets of a side, as many as the count says, follow one another
abbrev pub Orderly : (ℕ → ℕ) → ℕ → Type 0
Orderly side count = (k : ℕ) → 1 ≤ k → k < count → Follows side k

pub orderly_start : (side : ℕ → ℕ) → Orderly side 1
orderly_start side k l m = absurd (omega arith)

module _ (side : ℕ → ℕ) (k : ℕ) (before : Orderly side k) where
  -- one set more
  pub orderly_more : {last set : ℕ} → last ≡ side (k - 1) → set ≡ side k → last < set → Apart side k set → Orderly side (k + 1)
  orderly_more low here above apart i m l =
      below_more (λ (j : ℕ). 1 ≤ j → Follows side j) k (λ j h p. before j p h)
      (λ p. record { above = rw (← low, ← here) above; apart = rw (← here) apart }) i l m

  -- it is the last one then
  pub next_last : {set : ℕ} → set ≡ side k → set ≡ side (k + 1 - 1)
  next_last here = let same : k + 1 - 1 ≡ k = omega arith in rw same here

  -- an unused place, and the end of the places
  pub ends_here : {set : ℕ} → 1 ≤ k → k < 8 → set ≡ side k → set ≡ 0 → InForm side
  ends_here l m here e = record { count = k; some = l; room = omega arith; each = before; end = λ _. sym here ∙ e }

  pub ends_last : 1 ≤ k → k ≤ 8 → 8 ≤ k → InForm side
  ends_last l m n = record { count = k; some = l; room = m; each = before; end = λ q. absurd (omega arith) }

  -- a used place behind those: in a side in form its set follows, too
  module _ {set : ℕ} (l : 1 ≤ k) (m : k < 8) (here : set ≡ side k) (some : set ≡ 0 → ⊥) (f : InForm side) where
    follows : Follows side k
    follows =
        either (ltb k f.count)
        (λ e. f.each k l (ltb-true k f.count e))
        (λ e. let past = ltb-false k f.count e in
        let nothing = f.end (omega arith) in
        either (eqb f.count k)
        (λ d. absurd (some (here ∙ ap side (sym (eqb-true f.count k d)) ∙ nothing)))
        (λ d. let other : f.count ≡ k → ⊥ = eqb-false f.count k d in
        absurd (omega (arith, nothing, (before f.count f.some (omega arith)).above))))

    pub above_last : {last : ℕ} → last ≡ side (k - 1) → set ≤ last → ⊥
    above_last low below = omega (arith, low, here, follows.above)

    pub apart_here : Apart side k set
    apart_here = rw here follows.apart

-- ---- a valid side that is so ordered
unused : (a : ℕ) → used a ≡ false → a ≡ 0
unfolding used
unused a e = eqb-true a 0 (not-false _ e)

nothing : used 0 ≡ false
unfolding used
nothing = refl

module _ (n : ℕ) (side : ℕ → ℕ) (s : Side n side) (f : InForm side) where
  rises : (j k : ℕ) → j < k → k < f.count → side j < side k
  rises j zero l m = absurd (not-suc-le-zero l)
  rises j (suc k) l m =
      let back : suc k - 1 ≡ k = omega arith in
      let next = rw back at (f.each (suc k) (omega arith) m).above in
      below_suc (λ (i : ℕ). side i < side (suc k)) k (λ i q. let before = rises i k q (omega arith) in omega arith) next j l

  is_used : (k : ℕ) → k < f.count → used (side k) ≡ true
  unfolding used
  is_used zero l = promise.first_used n side s
  is_used (suc k) l = rw (ne_eqb (side (suc k)) 0 (λ e. omega (arith, (f.each (suc k) (omega arith) l).above)))

  -- an unused place ends the side
  behind : (k : ℕ) → f.count ≤ k → k < 8 → side k ≡ 0
  behind zero l m = absurd (omega (arith, f.some))
  behind (suc k) l m =
      either (eqb f.count (suc k))
      (λ e. let same = eqb-true f.count (suc k) e in rw same at (f.end (omega arith)))
      (λ e. let other : f.count ≡ suc k → ⊥ = eqb-false f.count (suc k) e in
      unused (side (suc k)) (fails _ (λ u. clash (s.packed k (omega arith) u) (rw (behind k (omega arith) (omega arith)) nothing))))

  -- none before it lies within it, the first set too
  apart : (k : ℕ) → k < f.count → Apart side k (side k)
  apart zero l j m = absurd (not-suc-le-zero m)
  apart (suc k) l j m = (f.each (suc k) (omega arith) l).apart j m

  -- so no other lies within it: one behind it is greater
  alone : (k : ℕ) → k < f.count → contains_another side (side k) ≡ false
  unfolding contains_another holds_place
  alone k l =
      fails _ (λ e. let other = any_below_lem _ 8 e in
      let j = other.0 in
      let place = and_left _ _ other.2 in
      let differs = eqb-false (side j) (side k) (not-true _ (and_right (used (side j) && holds (side k) (side j)) _ other.2)) in
      let here : used (side j) ≡ true = and_left _ _ place in
      let holding = and_right (used (side j)) _ place in
      let low = promise.subset_le (side j) (side k) ((promise.holds_members (side k) (side j)).0 holding) in
      either (ltb j k)
      (λ q. clash holding (apart k l j (ltb-true j k q)))
      (λ q. either (ltb j f.count)
      (λ p. let inside = ltb-true j f.count p in
      either (eqb j k) (λ d. differs (ap side (eqb-true j k d)))
      (λ d. let other : j ≡ k → ⊥ = eqb-false j k d in let past = ltb-false j k q in
      omega (arith, rises k j (omega arith) inside)))
      (λ p. clash here (ap used (behind j (ltb-false j f.count p) other.1) ∙ nothing))))

  pub formed : Formed side f.count
  formed =
      record {
        room = f.room;
        only = λ k l. let room = f.room in alone_stays side k (omega arith) (is_used k l) (alone k l);
        rises = rises;
        behind = behind;
      }

-- ---- and back: a side that has the sets of its form
module _ (n : ℕ) (side : ℕ → ℕ) (l : List ℕ) (s : Side n side) (filled : Filled (Staying side) l side) where
  some_set : 1 ≤ length l
  some_set =
      either (ltb 0 (length l)) (ltb-true 0 (length l))
      (λ e. let none = filled.place 0 (omega arith) ∙ get_or-eq_default l 0 (ltb-false 0 (length l) e) in
      clash (promise.first_used n side s) (ap used none ∙ nothing))

  listed : (k : ℕ) → k < length l → side k ≡ get_or l k 0
  listed k h = let room = filled.room in filled.place k (omega arith)

  -- a set that stays contains none of those before it, which are smaller
  listed-apart : (k : ℕ) → k < length l → Apart side k (side k)
  unfolding contains_another holds_place
  listed-apart k h j m =
      let room = filled.room in
      let inside : j < length l = omega arith in
      let less = filled.listed.rises j k m h in
      let stay : Staying side (side j) = rw (listed j inside) (filled.listed.only j inside) in
      let last : Staying side (side k) = rw (listed k h) (filled.listed.only k h) in
      fails _ (λ e. clash (below-any (λ i. (used (side i) && holds (side k) (side i)) && not (eqb (side i) (side k))) 8 j (omega arith)
      (and_both _ _ (and_both _ _ (stays-used side (side j) stay) e)
      (ap not (ne_eqb (side j) (side k) (λ q. omega (arith, listed j inside, listed k h, less))))))
      (stays_alone side (side k) last))

  pub filled_form : InForm side
  filled_form =
      record {
        count = length l;
        some = some_set;
        room = filled.room;
        each = λ k p h. let before : k - 1 < length l = omega arith in
            record { above = rw (listed (k - 1) before, listed k h) (filled.listed.rises (k - 1) k (omega arith) h); apart = listed-apart k h };
        end = λ h. filled.place (length l) h ∙ get_or-eq_default l 0 (omega arith);
      }

-- ---- both sides
-- what a slice of bytes tells of each byte, for all
each_byte_lem : (l : List ℕ) → ((i : ℕ) → get_or l i 0 < 256) → AreBytes l
each_byte_lem [] h = tt
each_byte_lem (x ∷ l) h = (h 0, each_byte_lem l (λ i. h (suc i)))

module _ (n : ℕ) (c : List ℕ) (v : valid n c ≡ true) where
  abbrev facts : Valid n c
  facts = (promise.valid_exactly n c).0 v

  pub in_form : ((i : ℕ) → get_or c i 0 < 256) → InForm (read_set c) → InForm (write_set c) → standard_form 16 c ≡ c
  in_form b reads writes =
      sym (form_any n c v)
      ∙ own_config n c v (each_byte_lem c b) _ _ (formed n (read_set c) facts.reads reads)
      (formed n (write_set c) facts.writes writes)

  pub reads_in_form : standard_form 16 c ≡ c → InForm (read_set c)
  reads_in_form own =
      filled_form n (read_set c) _ facts.reads (reads_filled n c v (form_any n c v ∙ own))

  pub writes_in_form : standard_form 16 c ≡ c → InForm (write_set c)
  writes_in_form own =
      filled_form n (write_set c) _ facts.writes (writes-filled n c v (form_any n c v ∙ own))

-- What the code's tests of soundness come to: bytes that are zero, the configurations in a row, and the list of tests in parts.
use mathlib.Core.Path.{◌≡◌, refl, sym, ap, ◌∙◌}
use mathlib.Core.Bool.{Bool, true, false, not, ◌&&◌, and-true, and_assoc, and_comm}
use mathlib.Core.List.{List, [], ◌∷◌}
use Prim.Native.Nat.{ℕ, zero, suc, ◌+◌, ◌-◌, ◌*◌, ◌≤◌, ◌<◌}
use native.Mathlib.Omega.{arith}
use native.Mathlib.Nat.{add_assoc, add-zero, add-suc, mul_comm, suc-mul, zero-mul, mul-le-mul, le_of_suc-le-suc}
use lib.ListN.{length, get_or, take, drop, length-take}
use lib.Dec.{ltb, leb, eqb}
use borrow.Author.Tests.{eq-eqb, eqb-true}
use Rattle.basics.specs.Tests.{all, all_below}
use Rattle.basics.specs.Bytes.{little_endian, number}
use Rattle.std.specs.Prelude.{fold}
use Rattle.std.specs.Simd.{first_chunks}
use lib.Seq.{drop-drop, take_all}
use Rattle.quorum.specs.Sets.{shares, within, unite}
use Rattle.quorum.specs.Configurations.{valid}
use Rattle.validity.specs.Rows.{valid_at, valid_to}
use Rattle.basics.proofs.Tests.{same_test, and_left, and_right, and_both, all_true, all_same}
use Rattle.basics.proofs.Bytes.{number_none, number-suc, number_one}
use Rattle.std.specs.Prelude.{Option, Some, None}
use Rattle.std.specs.Option.{option_eq}
use Rattle.layout.specs.declared.Kind.{Kind as CodeKind}
use Rattle.layout.specs.declared.Kind.TheVariants.{Read, Write, Change}
use Rattle.table.specs.Kinds.{as_kind}
use Rattle.quorum.proofs.Promise.{promise}
use Rattle.layout.proofs.Sizes.{sized, product_le}
use Rattle.layout.specs.Layout.{kind_at, item_at, spare_at, target_at, copy_config_at, copy_size, address, table_length}
use Rattle.layout.specs.Fields.{Kind, none, read, write, change, kind_of, stations, items, off_set, round_of, copy_from}
use Rattle.layout.specs.Soundness.{is_zero, round_sound, copies_valid, soundness, sound}
use Rattle.soundness.specs.Scan.{size_sound, head_sound, round_blank, target_sound, configs_from, rest_sound}

-- ---- two tests, and the numbers below a sum
and_same : {a b c d : Bool} → a ≡ b → c ≡ d → (a && c) ≡ (b && d)
and_same p q = cc

all-add : (p : ℕ → Bool) (a b : ℕ) → all_below p (a + b) ≡ (all_below p a && all_below (λ j. p (a + j)) b)
unfolding all_below
all-add p a zero = rw (add-zero a) (sym (and-true _))
all-add p a (suc b) = rw (add-suc a b, all-add p a b, and_assoc)

-- ---- bytes that are zero
zero_sum : (a b : ℕ) → eqb (a + 256 * b) 0 ≡ (eqb a 0 && eqb b 0)
zero_sum a b =
    same_test (eqb (a + 256 * b) 0) (eqb a 0 && eqb b 0)
    (λ e. let h = eqb-true (a + 256 * b) 0 e in and_both (eqb a 0) (eqb b 0) (eq-eqb a 0 (omega arith)) (eq-eqb b 0 (omega arith)))
    (λ e. let h = eqb-true a 0 (and_left (eqb a 0) (eqb b 0) e) in let q = eqb-true b 0 (and_right (eqb a 0) (eqb b 0) e) in
    eq-eqb (a + 256 * b) 0 (omega arith))

first-zero : (t : List ℕ) (at k : ℕ) → is_zero t at (suc k) ≡ (eqb (get_or t at 0) 0 && is_zero t (suc at) k)
first-zero t at k = ap (λ x. eqb x 0) (number-suc t at k) ∙ zero_sum (get_or t at 0) (number t (suc at) k)

last-zero : (t : List ℕ) (at k : ℕ) → is_zero t at (suc k) ≡ (is_zero t at k && eqb (get_or t (at + k) 0) 0)
last-zero t at zero = rw (first-zero t at 0, number_none t at, add-zero at) (and-true _)
last-zero t at (suc k) =
    let e : at + suc k ≡ suc at + k = omega arith in
    rw (first-zero t at (suc k), last-zero t (suc at) k, first-zero t at k, e, and_assoc)

-- byte by byte
pub bytes_zero : (t : List ℕ) (at width : ℕ) → all_below (λ k. eqb (get_or t (at + k) 0) 0) width ≡ is_zero t at width
unfolding all_below
bytes_zero t at zero = rw (number_none t at)
bytes_zero t at (suc k) = rw (bytes_zero t at k, last-zero t at k)

-- bytes one after the other
zero-add : (t : List ℕ) (at a b : ℕ) → is_zero t at (a + b) ≡ (is_zero t at a && is_zero t (at + a) b)
zero-add t at a b =
    sym (bytes_zero t at (a + b)) ∙ all-add (λ j. eqb (get_or t (at + j) 0) 0) a b
    ∙ and_same (bytes_zero t at a)
    (all_same _ _ b (λ j _. ap (λ i. eqb (get_or t i 0) 0) (sym (add_assoc at a j))) ∙ bytes_zero t (at + a) b)

-- word by word
one_word : (l : List ℕ) → is_zero (take 8 l) 0 8 ≡ eqb (little_endian (take 8 l)) 0
one_word l = ap (λ x. eqb (little_endian x) 0) (take_all 8 (take 8 l) (simp length-take (omega arith)))

pub words_zero : (t : List ℕ) (at k : ℕ) (ok : Bool)
    → fold (λ all word. all && is_zero word 0 8) ok (first_chunks 8 k (drop at t)) ≡ (ok && is_zero t at (8 * k))
words_zero t at zero ok = rw (number_none t at) (sym (and-true ok))
words_zero t at (suc k) ok =
    let e : 8 * suc k ≡ 8 + 8 * k = omega arith in
    rw (e, zero-add t at 8 (8 * k), drop-drop 8 at t, one_word (drop at t)) (words_zero t (at + 8) k (ok && is_zero t at 8) ∙ and_assoc ok _ _)

-- the first word of a round's part, where its first byte, the kind, is zero
pub kind_word : (t : List ℕ) → number t kind_at 1 ≡ 0 → is_zero t kind_at (8 * 1) ≡ is_zero t item_at 7
kind_word t e = rw (first-zero t kind_at 7, ← number_one t kind_at, e)

-- ---- tests
-- the numbers below a product
all-pairs : (p : ℕ → Bool) (n m : ℕ) → all_below (λ i. all_below (λ s. p (i * n + s)) n) m ≡ all_below p (m * n)
unfolding all_below
all-pairs p n zero = rw (zero-mul n)
all-pairs p n (suc m) = rw (all-pairs p n m, suc-mul m n, all-add p (m * n) n)

-- the length and the four tests of n and m, joined one after the other as the code joins them
pub size_joined : (b p q r s : Bool) → (b && p && q && r && s) ≡ all (b ∷ (p && q && r && s) ∷ [])
unfolding all
size_joined true p q r s = sym (and-true (p && q && r && s))
size_joined false p q r s = refl

all_split : (k : ℕ) (l : List Bool) → all l ≡ (all (take k l) && all (drop k l))
unfolding all
all_split zero l = refl
all_split (suc k) [] = refl
all_split (suc k) (b ∷ l) = ap (λ r. b && r) (all_split k l) ∙ sym (and_assoc b (all (take k l)) (all (drop k l)))

-- ---- the configurations in a row
-- those of the copies, by item and station
copies_in_row : (t : List ℕ) → configs_from t 1 ≡ copies_valid t
unfolding copies_valid valid_to copy_from address
copies_in_row t =
    let n = stations t in
    let m = items t in
    let e : n * m + 1 - 1 ≡ m * n = omega (arith, mul_comm n m) in
    rw (e, ← all-pairs (λ k. valid_at n t (target_at + copy_size * 1 + copy_size * k)) n m)
    (all_same _ _ m (λ i _. all_same _ _ n (λ s _. ap (valid_at n t) (place i s))))
  where
    place : (i s : ℕ) → target_at + copy_size * 1 + copy_size * (i * stations t + s) ≡ address (stations t) i s + copy_config_at
    place i s = omega arith

-- the target, and those of the copies
target_in_row : (t : List ℕ) → configs_from t 0 ≡ (copies_valid t && valid (stations t) (round_of t).target)
unfolding valid_to all_below
target_in_row t =
    let n = stations t in
    let c = n * items t in
    let row : ℕ → Bool = λ k. valid_at n t (target_at + copy_size * 0 + copy_size * k) in
    let copies : ℕ → Bool = λ k. valid_at n t (target_at + copy_size * 1 + copy_size * k) in
    let e : c + 1 - 0 ≡ 1 + c = omega arith in
    let f : c ≡ c + 1 - 1 = omega arith in
    ap (all_below row) e ∙ all-add row 1 c ∙ and_comm (all_below row 1) (all_below (λ k. row (1 + k)) c)
    ∙ and_same (all_same _ copies c (λ k _. ap (valid_at n t) (next k)) ∙ ap (all_below copies) f ∙ copies_in_row t) refl
  where
    next : (k : ℕ) → target_at + copy_size * 0 + copy_size * (1 + k) ≡ target_at + copy_size * 1 + copy_size * k
    next k = omega arith

-- ---- soundness in the parts that the code tests
abbrev pub kind : List ℕ → Kind
kind t = (round_of t).kind

round_parts : (t : List ℕ) (k : Kind) → round_sound t k ≡ (round_blank t k && target_sound t k)
unfolding round_sound round_blank target_sound
round_parts t none = sym (and-true _)
round_parts t read = sym (and-true _)
round_parts t write = sym (and-true _)
round_parts t change = refl

-- the tests in the order of the list, and in that of the code
regrouped : (a b o p d c x y r t z k : Bool) → (a && (b && (o && (p && (d && (c && (x && (y && ((r && t) && (z && (k && true)))))))))))
    ≡ ((((((a && b) && (((o && p) && d) && c)) && x) && y) && z) && (r && (k && t)))
regrouped false b o p d c x y r t z k = refl
regrouped true false o p d c x y r t z k = refl
regrouped true true false p d c x y r t z k = refl
regrouped true true true false d c x y r t z k = refl
regrouped true true true true false c x y r t z k = refl
regrouped true true true true true false x y r t z k = refl
regrouped true true true true true true false y r t z k = refl
regrouped true true true true true true true false r t z k = refl
regrouped true true true true true true true true false t false k = refl
regrouped true true true true true true true true true false false k = refl
regrouped true true true true true true true true true true false k = refl
regrouped true true true true true true true true false t true k = refl
regrouped true true true true true true true true true false true false = refl
regrouped true true true true true true true true true false true true = refl
regrouped true true true true true true true true true true true false = refl
regrouped true true true true true true true true true true true true = refl

head_parts : (t : List ℕ) → all (drop 2 (soundness t)) ≡ (head_sound t && (round_blank t (kind t) && (copies_valid t && target_sound t (kind t))))
unfolding soundness all head_sound
head_parts t =
    let n = stations t in
    let o = off_set t in
    let p = (round_of t).polled in
    let d = (round_of t).data_puts in
    let w = promise.within_unite n in
    let c = (round_of t).config_puts in
    rw (w (unite (unite o p) d) c, w (unite o p) d, w o p, round_parts t (kind t))
    (regrouped (leb (number t kind_at 1) 3) (ltb (round_of t).item (items t)) (within n o) (within n p) (within n d) (within n c) (not (shares d o))
    (not (shares c o)) (round_blank t (kind t)) (target_sound t (kind t)) (is_zero t spare_at 4) (copies_valid t))

pub sound_parts : (t : List ℕ)
    → sound t ≡ (size_sound t && (head_sound t && (round_blank t (kind t) && (copies_valid t && target_sound t (kind t)))))
unfolding sound size_sound
sound_parts t = all_split 2 (soundness t) ∙ ap (λ b. size_sound t && b) (head_parts t)

pub record Size (t : List ℕ) : Type 0 where
  pub long : length t ≡ table_length (stations t) (items t)
  pub some_stations : 1 ≤ stations t
  pub few_stations : stations t ≤ 16
  pub some_copies : 1 ≤ stations t * items t
  pub few_copies : stations t * items t ≤ 512

pub size_facts : (t : List ℕ) → size_sound t ≡ true → Size t
unfolding size_sound soundness
size_facts t e =
    let h = all_true (take 2 (soundness t)) e in
    let sizes = (sized (stations t) (items t)).0 h.1.0 in
    record {
      long = eqb-true _ _ h.0;
      some_stations = sizes.0;
      few_stations = sizes.1;
      some_copies = mul-le-mul sizes.0 sizes.2;
      few_copies = product_le _ _ sizes.1 sizes.3;
    }

-- before n and m are known to be in range: the product of two bytes
pub bytes_product : (t : List ℕ) → get_or t 0 0 < 256 → get_or t 1 0 < 256 → stations t * items t ≤ 65025
bytes_product t h g = rw (number_one t 0, number_one t 1) (mul-le-mul (le_of_suc-le-suc h) (le_of_suc-le-suc g))

-- ---- kinds of rounds
-- where there is no round, the byte is zero
pub no_kind : (k : ℕ) → kind_of k ≡ none → k ≡ 0
no_kind zero e = refl
no_kind (suc zero) e = absurd (cc)
no_kind (suc (suc zero)) e = absurd (cc)
no_kind (suc (suc (suc k))) e = absurd (cc)

-- the code's test for a change, by a test of two kinds
module _ (same : CodeKind → CodeKind → Bool) where
  pub is_change : (k : Option CodeKind) → same Read Change ≡ false → same Write Change ≡ false → option_eq same k (Some Change) ≡ true
      → as_kind k ≡ change
  is_change None r w e = absurd (cc)
  is_change (Some Read) r w e = absurd (cc)
  is_change (Some Write) r w e = absurd (cc)
  is_change (Some Change) r w e = refl

  pub is_no_change : (k : Option CodeKind) → same Change Change ≡ true → option_eq same k (Some Change) ≡ false → as_kind k ≡ change → ⊥
  is_no_change None c e q = absurd (cc)
  is_no_change (Some Read) c e q = absurd (cc)
  is_no_change (Some Write) c e q = absurd (cc)
  is_no_change (Some Change) c e q = absurd (cc)

-- one of the kinds that is no change has no target to be tested
no_target_lem : (t : List ℕ) (k : Kind) → (k ≡ change → ⊥) → target_sound t k ≡ true
unfolding target_sound
no_target_lem t none ne = refl
no_target_lem t read ne = refl
no_target_lem t write ne = refl
no_target_lem t change ne = absurd (ne refl)

-- ---- past the tests of length and head: what is left, for a change and for any other kind
pub sound_change : (t : List ℕ) → size_sound t ≡ true → head_sound t ≡ true → kind t ≡ change → rest_sound t 0 ≡ sound t
unfolding target_sound
sound_change t s h e = rw (sound_parts t, s, h, target_in_row t, e)

pub sound_other : (t : List ℕ) → size_sound t ≡ true → head_sound t ≡ true → (kind t ≡ change → ⊥) → rest_sound t 1 ≡ sound t
sound_other t s h ne = rw (sound_parts t, s, h, copies_in_row t, no_target_lem t (kind t) ne, and-true (copies_valid t))

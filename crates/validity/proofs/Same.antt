-- Configurations with the same bytes are valid alike, and configurations a stride apart.
use mathlib.Core.Path.{◌≡◌, refl, sym, ap, ◌∙◌}
use mathlib.Core.Bool.{Bool, true, false}
use mathlib.Core.List.{List}
use Prim.Native.Nat.{ℕ, zero, suc, ◌+◌, ◌-◌, ◌*◌, ◌≤◌, ◌<◌}
use native.Mathlib.Omega.{arith}
use native.Mathlib.Numerals.{add-one}
use native.Mathlib.Nat.{mul-suc, mul-zero, mul-add}
use lib.ListN.{length, get_or, drop}
use lib.Seq.{take_all, ext_get_or, get_or-take, get_or-drop}
use lib.Dec.{eqb, ltb}
use lib.Pointwise.{pointwise}
use Rattle.std.specs.Cmp.Lexicographic.{same_text}
use Rattle.std.proofs.lemmas.Cmp.{nat_list_eq_equiv}
use borrow.Author.Tests.{eqb-true, eq-eqb, ltb-true, ltb-false}
use Rattle.basics.specs.Tests.{all_below}
use Rattle.basics.specs.Bytes.{part}
use Rattle.quorum.specs.Configurations.{valid, config_size}
use Rattle.validity.specs.Rows.{valid_at, valid_to, same_again, same_lane, same_block}
use Rattle.basics.proofs.Parts.{part_length}
use Rattle.basics.proofs.Tests.{clash, by_cases, same_test, and_both, all-below, below_all, either}

-- parts with the same bytes
pub same_part : (t : List ℕ) (a b w : ℕ) → a + w ≤ length t → b + w ≤ length t
    → ((k : ℕ) → k < w → get_or t (a + k) 0 ≡ get_or t (b + k) 0) → part t a w ≡ part t b w
same_part t a b w h g e =
    ext_get_or 0 (part t a w) (part t b w) (part_length t a w h ∙ sym (part_length t b w g))
    (λ i l. let q : i < w = rw (part_length t a w h) at l in
    rw (get_or-take w (drop a t) i 0 q, get_or-take w (drop b t) i 0 q, get_or-drop a t i 0, get_or-drop b t i 0) (e i q))

-- the byte at a place of a part
part_at : (t : List ℕ) (a w i : ℕ) → i < w → get_or (part t a w) i 0 ≡ get_or t (a + i) 0
part_at t a w i l = get_or-take w (drop a t) i 0 l ∙ get_or-drop a t i 0

-- configurations compared as lists
pub parts_compared : (t : List ℕ) (at stride : ℕ) → at + stride + config_size ≤ length t
    → pointwise eqb (part t (at + stride) config_size) (part t at config_size) ≡ same_again t at stride
unfolding same_again
parts_compared t at stride h =
    let next = part t (at + stride) config_size in
    let one = part t at config_size in
    let same : ℕ → Bool = λ i. eqb (get_or t (at + stride + i) 0) (get_or t (at + i) 0) in
    same_test (pointwise eqb next one) (all_below same config_size)
    (λ e. let p : next ≡ one = same_text next one (sym e) in
    below_all same config_size (λ i l. eq-eqb _ _ (
    sym (part_at t (at + stride) config_size i l) ∙ ap (λ x. get_or x i 0) p ∙ part_at t at config_size i l)))
    (λ e. rw (same_part t (at + stride) at config_size h (omega arith) (λ k l. eqb-true _ _ (all-below same config_size e k l)))
    (nat_list_eq_equiv.refl one))

-- a configuration with the bytes of a valid one is valid
pub again_valid : (n : ℕ) (t : List ℕ) (at stride : ℕ) → at + stride + config_size ≤ length t
    → same_again t at stride ≡ true → valid_at n t at ≡ true → valid_at n t (at + stride) ≡ true
unfolding same_again
again_valid n t at stride h e v =
    let g : at + config_size ≤ length t = omega arith in
    rw (same_part t (at + stride) at config_size h g (λ k l. eqb-true _ _ (all-below _ config_size e k l))) v

-- so are eight, a stride apart, with the bytes of a valid one
pub block_valid : (n : ℕ) (t : List ℕ) (at stride : ℕ) → at + config_size ≤ length t → ((j : ℕ) → j < 8 → at + stride + stride * j + config_size ≤ length t)
    → same_block t at stride ≡ true → valid_at n t at ≡ true → (j : ℕ) → j < 8 → valid_at n t (at + stride + stride * j) ≡ true
unfolding same_block same_lane
block_valid n t at stride h room e v j l = rw (same_part t (at + stride + stride * j) at config_size (room j l) h byte) v
  where
    byte : (k : ℕ) → k < config_size → get_or t (at + stride + stride * j + k) 0 ≡ get_or t (at + k) 0
    byte k m =
        let q : at + stride + stride * j + k ≡ at + k + stride + stride * j = omega arith in
        let lane = all-below (λ k. same_lane t (at + k) stride) config_size e k m in
        rw q (eqb-true _ _ (all-below (λ j. eqb (get_or t (at + k + stride + stride * j) 0) (get_or t (at + k) 0)) 8 lane j l))

-- ---- configurations a stride apart
module _ (n : ℕ) (t : List ℕ) (at stride : ℕ) where
  -- the place of one is a stride after that of the one before it
  pub stride_next : (k : ℕ) → (k ≡ 0 → ⊥) → at + stride * (k - 1) + stride ≡ at + stride * k
  stride_next zero ne = absurd (ne refl)
  stride_next (suc k) ne =
      let z : suc k - 1 ≡ k = omega arith in
      rw z (omega (arith, mul-suc stride k))

  pub one_before : (k : ℕ) → (k ≡ 0 → ⊥) → valid_to n t at stride k ≡ true → valid_at n t (at + stride * (k - 1)) ≡ true
  unfolding valid_to
  one_before k ne v = all-below _ k v (k - 1) (omega arith)

  pub one_more : (k : ℕ) → valid_to n t at stride k ≡ true → valid_at n t (at + stride * k) ≡ true → valid_to n t at stride (k + 1) ≡ true
  unfolding valid_to all_below
  one_more k v e = rw (add-one k) (and_both (valid_to n t at stride k) _ v e)

  pub one_fails : (to k : ℕ) → k < to → valid_at n t (at + stride * k) ≡ false → false ≡ valid_to n t at stride to
  unfolding valid_to
  one_fails to k l e =
      by_cases (λ (b : Bool). false ≡ b) (valid_to n t at stride to) (λ v. clash (all-below _ to v k l) e) (λ _. refl)

  -- one more that is the same as the one before it
  pub next_same : (k : ℕ) → (k ≡ 0 → ⊥) → at + stride * k + config_size ≤ length t
      → same_again t (at + stride * (k - 1)) stride ≡ true → valid_to n t at stride k ≡ true → valid_to n t at stride (k + 1) ≡ true
  next_same k ne room e v =
      let f : at + stride * (k - 1) + stride ≡ at + stride * k = stride_next k ne in
      one_more k v (rw f at (again_valid n t (at + stride * (k - 1)) stride (omega arith) e (one_before k ne v)))

  -- the place of one that is some strides on
  pub stride_on : (k j : ℕ) → (k ≡ 0 → ⊥) → at + stride * (k - 1) + stride + stride * j ≡ at + stride * (k + j)
  stride_on k j ne = rw (mul-add stride k j) (omega (arith, stride_next k ne))

  -- eight more that are the same as the one before them
  pub eight_more : (k : ℕ) → (k ≡ 0 → ⊥) → ((i : ℕ) → i < k + 8 → at + stride * i + config_size ≤ length t)
      → same_block t (at + stride * (k - 1)) stride ≡ true → valid_to n t at stride k ≡ true → valid_to n t at stride (k + 8) ≡ true
  unfolding valid_to
  eight_more k ne room e v = below_all _ (k + 8) (λ i l.
      either (ltb i k) (λ below. all-below _ k v i (ltb-true _ _ below))
      (λ above. later i l (ltb-false _ _ above)))
    where
      later : (i : ℕ) → i < k + 8 → k ≤ i → valid_at n t (at + stride * i) ≡ true
      later i l g =
          let j = i - k in
          let f : k + j ≡ i = omega arith in
          rw (← f, ← stride_on k j ne)
          (block_valid n t (at + stride * (k - 1)) stride (room (k - 1) (omega arith))
          (λ j m. rw (stride_on k j ne) (room (k + j) (omega arith))) e (one_before k ne v) j (omega arith))

  pub none_yet : valid_to n t at stride 0 ≡ true
  unfolding valid_to all_below
  none_yet = refl

-- a list of 32 bytes is one configuration
pub one_only : (n : ℕ) (c : List ℕ) (stride : ℕ) → length c ≡ config_size → valid_to n c 0 stride 1 ≡ valid n c
unfolding valid_to all_below
one_only n c stride l = rw (mul-zero stride) (ap (valid n) (take_all config_size c (omega arith)))

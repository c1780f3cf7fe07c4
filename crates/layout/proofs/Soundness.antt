-- A sound table, as facts: those of the state that it is viewed as, and those of the bytes that the state does not show.
use mathlib.Core.Path.{◌≡◌, ap, ◌∙◌}
use mathlib.Core.Bool.{Bool, true, not, ◌&&◌}
use mathlib.Core.List.{List}
use mathlib.Core.Logic.{◌↔◌}
use Prim.Native.Nat.{ℕ, zero, suc, ◌+◌, ◌*◌, ◌≤◌}
use native.Mathlib.Omega.{arith}
use native.Mathlib.Nat.{add-zero, zero-add}
use lib.ListN.{length, get_or}
use lib.Dec.{eqb}
use borrow.Author.Tests.{leb-true, le-leb, ltb-true, lt-ltb, eqb-true, eq-eqb, not-true}
use Rattle.basics.specs.Bytes.{number}
use Rattle.quorum.specs.Configurations.{config_size}
use Rattle.basics.proofs.Bytes.{number_none, number-suc}
use Rattle.basics.proofs.Tests.{◌also◌, and_left, and_right, and_both, all_true, true-all, all-below, below_all}
use Rattle.layout.proofs.Fields.{table_head}
use Rattle.layout.proofs.Sizes.{sized}
use Rattle.layout.specs.Layout.{head_size, item_at, polled_at, data_puts_at, config_puts_at, value_at, target_at}
use Rattle.layout.specs.Fields.{Kind, none, read, write, change, stations, items, round_of}
use Rattle.layout.specs.Soundness.{round_sound, copies_valid, soundness, sound}
use Rattle.layout.specs.View.{view}
pub use Rattle.layout.specs.SoundFacts.{RoundFacts, StateSound, Sound}
use Rattle.layout.specs.SoundFacts.{SoundExactly}

-- ---- zero bytes
-- a number is zero where both of its parts are
zero_parts : (t : List ℕ) (a j k : ℕ) → (number t a (j + k) ≡ 0) ↔ ((number t a j ≡ 0) × (number t (a + j) k ≡ 0))
zero_parts t a zero k = (λ e. (number_none t a, rw (add-zero a) (rw (zero-add k) at e)), λ h. rw (zero-add k) (rw (add-zero a) at h.1))
zero_parts t a (suc j) k =
    let ih = zero_parts t (suc a) j k in
    let p : a + suc j ≡ suc a + j = omega arith in
    let q : suc j + k ≡ suc (j + k) = omega arith in (
      λ e. let f : get_or t a 0 + 256 * number t (suc a) (j + k) ≡ 0 = rw (q, number-suc) at e in
          let g = ih.0 (omega arith) in
          (number-suc t a j ∙ (let z = g.0 in omega arith), rw p g.1),
      λ h. let f : get_or t a 0 + 256 * number t (suc a) j ≡ 0 = rw number-suc at h.0 in
          let g = ih.1 (omega arith, rw p at h.1) in
          rw (q, number-suc) (omega arith),
    )

-- bytes 5 to 11, and bytes 16 to 55, by their fields
sets_zero : (t : List ℕ) → (number t item_at 7 ≡ 0)
    ↔ ((number t item_at 1 ≡ 0) × (number t polled_at 2 ≡ 0) × (number t data_puts_at 2 ≡ 0) × (number t config_puts_at 2 ≡ 0))
sets_zero t =
    let p = zero_parts t item_at 1 6 in
    let q = zero_parts t polled_at 2 4 in
    let r = zero_parts t data_puts_at 2 2 in (
      λ e. let x = p.0 e in let y = q.0 x.1 in let z = r.0 y.1 in (x.0, y.0, z.0, z.1),
      λ h. p.1 (h.0, q.1 (h.1, r.1 (h.2, h.3))),
    )

value_zero : (t : List ℕ) → (number t value_at 40 ≡ 0) ↔ ((number t value_at 8 ≡ 0) × (number t target_at config_size ≡ 0))
value_zero t = zero_parts t value_at 8 config_size

-- ---- the tests of a round, and their facts
module _ (t : List ℕ) where
  abbrev zero_at : ℕ → ℕ → Bool
  zero_at a k = eqb (number t a k) 0

  round_facts : (k : Kind) → round_sound t k ≡ true → RoundFacts (stations t) (round_of t) k
  unfolding round_sound
  round_facts none e =
      let s = (sets_zero t).0 (eqb-true _ 0 (and_left (zero_at item_at 7) (zero_at value_at 40) e)) in
      let v = (value_zero t).0 (eqb-true _ 0 (and_right (zero_at item_at 7) (zero_at value_at 40) e)) in
      (s.0, s.1, s.2, s.3, v.0, v.1)
  round_facts read e =
      let p = and_left (zero_at data_puts_at 2 && zero_at config_puts_at 2) (zero_at value_at 40) e in
      let v = (value_zero t).0 (eqb-true _ 0 (and_right (zero_at data_puts_at 2 && zero_at config_puts_at 2) (zero_at value_at 40) e)) in
      let d = eqb-true _ 0 (and_left (zero_at data_puts_at 2) (zero_at config_puts_at 2) p) in
      let c = eqb-true _ 0 (and_right (zero_at data_puts_at 2) (zero_at config_puts_at 2) p) in
      (d, c, v.0, v.1)
  round_facts write e =
      let c = eqb-true _ 0 (and_left (zero_at config_puts_at 2) (zero_at target_at config_size) e) in
      (c, eqb-true _ 0 (and_right (zero_at config_puts_at 2) (zero_at target_at config_size) e))
  round_facts change e = (eqb-true _ 0 (and_left (zero_at value_at 8) _ e), and_right (zero_at value_at 8) _ e)

  facts_round : (k : Kind) → RoundFacts (stations t) (round_of t) k → round_sound t k ≡ true
  unfolding round_sound
  facts_round none h =
      and_both (zero_at item_at 7) (zero_at value_at 40) (eq-eqb _ 0 ((sets_zero t).1 (h.0, h.1, h.2, h.3))) (eq-eqb _ 0 ((value_zero t).1 (h.4, h.5)))
  facts_round read h =
      let p = and_both (zero_at data_puts_at 2) (zero_at config_puts_at 2) (eq-eqb _ 0 h.0) (eq-eqb _ 0 h.1) in
      and_both (zero_at data_puts_at 2 && zero_at config_puts_at 2) (zero_at value_at 40) p (eq-eqb _ 0 ((value_zero t).1 (h.2, h.3)))
  facts_round write h = and_both (zero_at config_puts_at 2) (zero_at target_at config_size) (eq-eqb _ 0 h.0) (eq-eqb _ 0 h.1)
  facts_round change h = and_both (zero_at value_at 8) _ (eq-eqb _ 0 h.0) h.1

  -- ---- the tests of the table, and their facts
  pub sound_facts : sound t ≡ true → Sound t
  unfolding sound soundness copies_valid view
  sound_facts e =
      let a = all_true (soundness t) e in
      let sizes = (sized (stations t) (items t)).0 a.1.0 in
      let b = a.1.1.1.1 in
      let c = b.1.1.1.1 in
      record {
        size = eqb-true _ _ a.0;
        kind = leb-true _ _ a.1.1.0;
        spare = eqb-true _ _ c.1.1.1.0;
        state = record {
          positive = sizes.0;
          small = sizes.1;
          some_item = sizes.2;
          few_items = sizes.3;
          item = ltb-true _ _ a.1.1.1.0;
          off = b.0;
          polled = b.1.0;
          data_puts = b.1.1.0;
          config_puts = b.1.1.1.0;
          data_on = not-true _ c.0;
          config_on = not-true _ c.1.0;
          round = round_facts (round_of t).kind c.1.1.0;
          configs = λ i s h k. all-below _ (stations t) (all-below _ (items t) c.1.1.1.1.0 i h) s k;
        };
      }

  pub facts_sound : Sound t → sound t ≡ true
  unfolding sound soundness copies_valid view
  facts_sound f =
      let v = f.state in
      let sizes = (sized (stations t) (items t)).1 (v.positive, v.small, v.some_item, v.few_items) in
      true-all (soundness t) (eq-eqb _ _ f.size also sizes also le-leb _ _ f.kind also lt-ltb _ _ v.item
      also v.off also v.polled also v.data_puts also v.config_puts also ap not v.data_on also ap not v.config_on
      also facts_round (round_of t).kind v.round also eq-eqb _ _ f.spare
      also below_all _ (items t) (λ i h. below_all _ (stations t) (λ s k. v.configs i s h k)) also tt)

-- the same by the view's test, of the table and of its state
pub sound-table : (t : List ℕ) → (view t).is_sound ≡ true → Sound t
unfolding view
sound-table t e = sound_facts t e

pub is_sound_lem : (t : List ℕ) → (view t).is_sound ≡ true → StateSound (view t)
is_sound_lem t e = (sound-table t e).state

-- a sound table has a head
pub sound_head : (t : List ℕ) → sound t ≡ true → head_size ≤ length t
sound_head t e = rw (sound_facts t e).size (table_head (stations t) (items t))

-- the statement of specs/SoundFacts.antt
pub sound_exactly : SoundExactly
sound_exactly = record { exactly = λ t. (sound_facts t, facts_sound t) }

-- A walk over the stations of a set, said once over what it carries and what a station does to it: the stations below a bound that are in the set, in rising
-- number. A loop takes the lowest station of those left; `Left` is its invariant.
use mathlib.Core.Path.{◌≡◌, refl, sym, ◌∙◌}
use mathlib.Core.Bool.{Bool, true, false, cond, and-true, and-false, or-true, or-false}
use Prim.Native.Nat.{ℕ, zero, suc, ◌≤◌, ◌<◌}
use native.Mathlib.Nat.{not-suc-le-zero}
use native.Mathlib.Omega.{arith}
use lib.Dec.{eqb}
use borrow.Author.Tests.{eqb-true, eqb-false, eq-eqb, ne_eqb}
use Rattle.basics.proofs.Tests.{clash, by_cases, either, fails}
use Rattle.quorum.specs.Sets.{member, used, join, remove, lowest}
use Rattle.quorum.proofs.Promise.{promise}

-- ---- the lowest station of a set, and the set without it
-- a set that is not 0 has a station
not_empty : (a : ℕ) → (a ≡ 0 → ⊥) → used a ≡ true
not_empty a h =
    by_cases (λ (b : Bool). used a ≡ b → b ≡ true) (used a) (λ _ _. refl)
    (λ _ e. absurd (h (promise.same_members a 0 (λ i m. clash ((promise.used_member a).1 (i, m)) e) (λ i m. clash m (promise.member_empty i))))) refl

module _ (set : ℕ) (small : set < 65536) (h : set ≡ 0 → ⊥) where
  pub lowest_in : member set (lowest set) ≡ true
  lowest_in = promise.lowest_member set small (not_empty set h)

  pub left_less : {left : ℕ} → left ≡ remove set (lowest set) → left < set
  left_less r = rw r (promise.remove_less set (lowest set) lowest_in)

pub others : (set s i : ℕ) → (i ≡ s → ⊥) → member (remove set s) i ≡ member set i
others set s i h = promise.member_remove set i s ∙ rw (ne_eqb i s h, and-true)

pub taken_out : (set s : ℕ) → member (remove set s) s ≡ false
taken_out set s = promise.member_remove set s s ∙ rw (eq-eqb s s refl, and-false)

module _ {A : Type 0} (f : ℕ → A → A) where
  -- what is carried past the stations below a bound that are in the set
  unfoldable pub along : A → ℕ → ℕ → A
  along a set zero = a
  along a set (suc k) = cond (member set k) (f k (along a set k)) (along a set k)

  -- a set with no station below the bound changes nothing
  pub along_none : (a : A) (set n : ℕ) → ((i : ℕ) → i < n → member set i ≡ false) → along a set n ≡ a
  unfolding along
  along_none a set zero h = refl
  along_none a set (suc k) h = rw (h k (omega arith)) (along_none a set k (λ i l. h i (omega arith)))

  -- the lowest station of a set may be taken first
  module _ (a : A) (set s : ℕ) (m : member set s ≡ true) (low : (i : ℕ) → i < s → member set i ≡ false) where
    along_lowest : (n : ℕ) → s < n → along a set n ≡ along (f s a) (remove set s) n
    unfolding along
    along_lowest zero l = absurd (not-suc-le-zero l)
    along_lowest (suc k) l =
        either (eqb k s)
        (λ e. rw (eqb-true k s e, m, along_none a set s low, taken_out set s)
        (sym (along_none (f s a) (remove set s) s (λ i l. others set s i (λ z. omega arith) ∙ low i l))))
        (λ e. let h : k ≡ s → ⊥ = eqb-false k s e in rw (along_lowest k (omega arith), others set s k h))

  -- a station that joins above those of the set comes last
  module _ (a : A) (set s : ℕ) (small : s < 16) (above : (i : ℕ) → member set i ≡ true → i < s) where
    beyond : (i : ℕ) → s ≤ i → member set i ≡ false
    beyond i l = fails (member set i) (λ m. let x = above i m in absurd (omega arith))

    joined_self : member (join set s) s ≡ true
    joined_self = promise.member_join set s s small ∙ rw (eq-eqb s s refl, or-true)

    joined_other : (i : ℕ) → (i ≡ s → ⊥) → member (join set s) i ≡ member set i
    joined_other i h = promise.member_join set i s small ∙ rw (ne_eqb i s h, or-false)

    same_below : (n : ℕ) → n ≤ s → along a (join set s) n ≡ along a set n
    unfolding along
    same_below zero l = refl
    same_below (suc k) l = rw (same_below k (omega arith), joined_other k (λ z. omega arith))

    pub along_joined : (n : ℕ) → s < n → along a (join set s) n ≡ f s (along a set n)
    unfolding along
    along_joined zero l = absurd (not-suc-le-zero l)
    along_joined (suc k) l =
        either (eqb k s)
        (λ e. rw (eqb-true k s e, joined_self, same_below s (omega arith), beyond s (omega arith)))
        (λ e. let h : k ≡ s → ⊥ = eqb-false k s e in rw (along_joined k (omega arith), joined_other k h, beyond k (omega arith)))

-- ---- at a turn of the loop: what is carried and the stations that are left come to the whole
pub record Left {A : Type 0} (f : ℕ → A → A) (n : ℕ) (whole a : A) (rest : ℕ) : Type 0 where
  pub comes_to : along f a rest n ≡ whole
  pub small : rest < 65536

-- at its start, of each turn, and at its end, where no station is left or the lowest is past the bound
pub left_start : {A : Type 0} (f : ℕ → A → A) (a : A) (set n : ℕ) → set < 65536 → Left f n (along f a set n) a set
left_start f a set n l = record { comes_to = refl; small = l }

module _ {A : Type 0} {f : ℕ → A → A} {n rest : ℕ} {whole a : A} (w : Left f n whole a rest) where
  ends : ((i : ℕ) → i < n → member rest i ≡ false) → a ≡ whole
  ends h = sym (along_none f a rest n h) ∙ w.comes_to

  pub left_done : rest ≡ 0 → a ≡ whole
  left_done z = ends (λ i l. rw z (promise.member_empty i))

  pub left_past : {s : ℕ} → s ≡ lowest rest → n ≤ s → a ≡ whole
  left_past q g = ends (λ i l. promise.below_lowest rest i (omega arith))

  module _ {left : ℕ} (h : rest ≡ 0 → ⊥) (r : left ≡ remove rest (lowest rest)) where
    pub left_falls : left < rest
    left_falls = left_less rest w.small h r

    pub left_turn : {s : ℕ} → s ≡ lowest rest → s < n → {next : A} → next ≡ f s a → Left f n whole next left
    left_turn q l p =
        record {
          comes_to = rw (r, p, q)
              (sym (along_lowest f a rest (lowest rest) (lowest_in rest w.small h) (promise.below_lowest rest) n (omega arith)) ∙ w.comes_to);
          small = omega (arith, left_falls, w.small);
        }

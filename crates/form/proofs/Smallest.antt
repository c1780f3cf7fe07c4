-- The sets of a side that stay are its smallest sets: those within which no other station set holds one.
use mathlib.Core.Path.{◌≡◌, refl, sym, ◌∙◌}
use mathlib.Core.Bool.{true, false, not, ◌&&◌}
use mathlib.Core.Logic.{◌↔◌}
use Prim.Native.Nat.{ℕ, zero, suc, ◌<◌}
use native.Mathlib.Nat.{not-suc-le-zero}
use native.Mathlib.Omega.{arith}
use lib.Dec.{eqb}
use borrow.Author.Tests.{eqb-true, eqb-false, eq-eqb, not-true}
use Rattle.basics.specs.Tests.{Some}
use Rattle.basics.proofs.Tests.{clash, either, fails, and_left, and_right, and_both, any_below_lem, below-any}
use Rattle.quorum.specs.Sets.{used}
use Rattle.quorum.specs.Configurations.{holds_place}
use Rattle.quorum.specs.Promise.{◌⊆◌, LiesIn, QuorumIn}
use Rattle.quorum.proofs.Promise.{promise}
use Rattle.form.specs.Form.{is_set_of, contains_another, stays}

-- no other station set within this one holds a set of the side
pub record SmallestIn (side : ℕ → ℕ) (set : ℕ) : Type 0 where
  pub enough : QuorumIn side set
  pub least : (b : ℕ) → b ⊆ set → QuorumIn side b → b ≡ set

module _ (side : ℕ → ℕ) where
  lies_held : (set k : ℕ) → (holds_place side set k ≡ true) ↔ LiesIn side set k
  unfolding holds_place
  lies_held set k = (
    λ e. (and_left _ _ e, (promise.holds_members set (side k)).0 (and_right (used (side k)) _ e)),
    λ l. and_both _ _ l.0 ((promise.holds_members set (side k)).1 l.1),
  )

  -- a used place holds its own set
  own : (k : ℕ) → k < 8 → used (side k) ≡ true → QuorumIn side (side k)
  own k l u = (k, l, (u, λ i m. m))

  -- a set that contains another of the side, and one that does not
  another : (set : ℕ) → contains_another side set ≡ true → Some 8 (λ k. LiesIn side set k × (side k ≡ set → ⊥))
  unfolding contains_another
  another set e =
      let s = any_below_lem _ 8 e in
      let both = s.2 in
      (s.0, s.1, ((lies_held set s.0).0 (and_left _ _ both), eqb-false _ _ (not-true _ (and_right (holds_place side set s.0) _ both))))

  no_other : (set : ℕ) → contains_another side set ≡ false → (k : ℕ) → k < 8 → LiesIn side set k → side k ≡ set
  unfolding contains_another
  no_other set e k l lies =
      either (eqb (side k) set) (eqb-true _ _)
      (λ d. clash (below-any (λ j. holds_place side set j && not (eqb (side j) set)) 8 k l (and_both _ _ ((lies_held set k).1 lies) (rw d))) e)

  -- ---- the sets that stay
  pub stays-used : (set : ℕ) → stays side set ≡ true → used set ≡ true
  unfolding stays is_set_of
  stays-used set e = and_left _ _ (and_left _ _ e)

  pub stays_place : (set : ℕ) → stays side set ≡ true → Some 8 (λ k. side k ≡ set)
  unfolding stays is_set_of
  stays_place set e = let s = any_below_lem _ 8 (and_right (used set) _ (and_left _ _ e)) in (s.0, s.1, eqb-true _ _ s.2)

  pub stays_alone : (set : ℕ) → stays side set ≡ true → contains_another side set ≡ false
  unfolding stays
  stays_alone set e = not-true _ (and_right (is_set_of side set) _ e)

  pub alone_stays : (k : ℕ) → k < 8 → used (side k) ≡ true → contains_another side (side k) ≡ false → stays side (side k) ≡ true
  unfolding stays is_set_of
  alone_stays k l u e = and_both _ _ (and_both _ _ u (below-any (λ j. eqb (side j) (side k)) 8 k l (eq-eqb (side k) (side k) refl))) (rw e)

  pub stays-smallest : (set : ℕ) → (stays side set ≡ true) ↔ SmallestIn side set
  stays-smallest set = (there, back)
    where
      there : stays side set ≡ true → SmallestIn side set
      there e =
          let at = stays_place set e in
          record {
            enough = (at.0, at.1, (rw at.2 (stays-used set e), λ i m. rw at.2 at m));
            least = λ b lies q.
                let same = no_other set (stays_alone set e) q.0 q.1 (q.2.0, λ i m. lies i (q.2.1 i m)) in
                promise.same_members b set lies (λ i m. q.2.1 i (rw (← same) at m));
          }

      back : SmallestIn side set → stays side set ≡ true
      back s =
          let q = s.enough in
          let same = s.least (side q.0) q.2.1 (own q.0 q.1 q.2.0) in
          rw same at (alone_stays q.0 q.1 q.2.0 (fails _ (λ e.
          let other = another (side q.0) e in
          other.2.1 (s.least (side other.0) (λ i m. q.2.1 i (other.2.0.1 i m)) (own other.0 other.1 other.2.0.0) ∙ sym same))))

  -- a station set that holds a set of the side holds one that stays: while it contains another, go on to that, whose number is smaller
  go_on : (bound k : ℕ) → k < 8 → used (side k) ≡ true → side k < bound → (x : ℕ) × (stays side x ≡ true) × (x ⊆ side k)
  go_on zero k l u h = absurd (not-suc-le-zero h)
  go_on (suc bound) k l u h =
      either (contains_another side (side k))
      (λ e. let other = another (side k) e in
      let j = other.0 in
      let lies = other.2.0 in
      let differ : side j ≡ side k → ⊥ = other.2.1 in
      let r = go_on bound j other.1 lies.0 (omega (arith, promise.subset_le (side j) (side k) lies.1)) in
      (r.0, r.1, λ i m. lies.1 i (r.2 i m)))
      (λ e. (side k, alone_stays k l u e, λ i m. m))

  pub holds-stays : (set : ℕ) → QuorumIn side set → (x : ℕ) × (stays side x ≡ true) × (x ⊆ set)
  holds-stays set q =
      let r = go_on (suc (side q.0)) q.0 q.1 q.2.0 (omega arith) in (r.0, r.1, λ i m. q.2.1 i (r.2 i m))

-- where the same sets within a set hold one of either side, it stays on both or on neither
pub stays_there : (s t : ℕ → ℕ) (x : ℕ) → ((b : ℕ) → b ⊆ x → QuorumIn s b ↔ QuorumIn t b) → stays s x ≡ true → stays t x ≡ true
stays_there s t x same e =
    let smallest = (stays-smallest s x).0 e in
    (stays-smallest t x).1 (record {
      enough = (same x (λ i m. m)).0 smallest.enough;
      least = λ b lies q. smallest.least b lies ((same b lies).1 q);
    })

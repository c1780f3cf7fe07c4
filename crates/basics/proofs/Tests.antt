-- Laws of the tests that are made of tests: what a test that passes, or fails, says of its parts, and back.
use mathlib.Core.Path.{◌≡◌, refl, sym, ap, ◌∙◌}
use mathlib.Core.Bool.{Bool, true, false, not, ◌&&◌, ◌||◌, true≢false, false≢true}
use mathlib.Core.List.{List, [], ◌∷◌}
use Prim.Native.Nat.{ℕ, zero, suc, ◌+◌, ◌≤◌, ◌<◌}
use native.Mathlib.Nat.{not-suc-le-zero, le_antisymm}
use native.Mathlib.Numerals.{add-one}
use native.Mathlib.Omega.{arith}
use lib.Dec.{eqb}
use borrow.Author.Tests.{eqb-true, eqb-false}
use Rattle.basics.specs.Tests.{all, all_below, any_below, Some}

infixr 40 ◌also◌
-- a fact before the facts that follow it
pub ◌also◌ : {A B : Type 0} → A → B → A × B
a also b = (a, b)

-- ---- one or two tests
pub clash : {A : Type 0} {b : Bool} → b ≡ true → b ≡ false → A
clash p q = absurd (true≢false (sym p ∙ q))

-- a test by its two outcomes, each with its equation
pub by_cases : (P : Bool → Type 0) (b : Bool) → (b ≡ true → P true) → (b ≡ false → P false) → P b
by_cases P true t f = t refl
by_cases P false t f = f refl

pub either : {A : Type 0} (b : Bool) → (b ≡ true → A) → (b ≡ false → A) → A
either {A} b f g = by_cases (λ (x : Bool). A) b f g

-- a test that cannot pass fails
pub fails : (b : Bool) → (b ≡ true → ⊥) → b ≡ false
fails b h = by_cases (λ (t : Bool). t ≡ false) b (λ e. absurd (h e)) (λ _. refl)

-- two tests are one where each passes if the other does
pub same_test : (a b : Bool) → (a ≡ true → b ≡ true) → (b ≡ true → a ≡ true) → a ≡ b
same_test true b f g = sym (f refl)
same_test false true f g = g refl
same_test false false f g = refl

pub and_left : (a b : Bool) → (a && b) ≡ true → a ≡ true
and_left true b e = refl
and_left false b e = e

pub and_right : (a b : Bool) → (a && b) ≡ true → b ≡ true
and_right true b e = e
and_right false b e = absurd (false≢true e)

pub and_both : (a b : Bool) → a ≡ true → b ≡ true → (a && b) ≡ true
and_both a b p q = cc

pub or_left : (a b : Bool) → a ≡ true → (a || b) ≡ true
or_left a b e = cc

pub or_right : (a b : Bool) → b ≡ true → (a || b) ≡ true
or_right true b e = refl
or_right false b e = e

pub or_cases : {A : Type 0} (a b : Bool) → (a || b) ≡ true → (a ≡ true → A) → (b ≡ true → A) → A
or_cases true b e f g = f refl
or_cases false b e f g = g e

pub or_false_left : (a b : Bool) → (a || b) ≡ false → a ≡ false
or_false_left true b e = e
or_false_left false b e = refl

pub or_false_right : (a b : Bool) → (a || b) ≡ false → b ≡ false
or_false_right true b e = absurd (true≢false e)
or_false_right false b e = e

-- `not a || b` is the test that a implies b
pub implies : (a b : Bool) → (not a || b) ≡ true → a ≡ true → b ≡ true
implies true b e h = e
implies false b e h = absurd (false≢true h)

pub implied : (a b : Bool) → (a ≡ true → b ≡ true) → (not a || b) ≡ true
implied true b f = f refl
implied false b f = refl

-- ---- a list of tests
abbrev pub AllTrue : List Bool → Type 0
AllTrue [] = Unit {0}
AllTrue (b ∷ l) = (b ≡ true) × AllTrue l

pub all_true : (l : List Bool) → all l ≡ true → AllTrue l
unfolding all
all_true [] e = tt
all_true (b ∷ l) e = (and_left b (all l) e, all_true l (and_right b (all l) e))

pub true-all : (l : List Bool) → AllTrue l → all l ≡ true
unfolding all
true-all [] h = refl
true-all (b ∷ l) h = and_both b (all l) h.0 (true-all l h.1)

-- ---- the numbers below a bound
-- what holds of the numbers below k and of k holds of those below `suc k`
pub below_suc : (P : ℕ → Type 0) (k : ℕ) → ((i : ℕ) → i < k → P i) → P k → (i : ℕ) → i < suc k → P i
below_suc P k h last i l = go (eqb i k) refl
  where
    go : (b : Bool) → eqb i k ≡ b → P i
    go true e = rw (eqb-true i k e) last
    go false e = let q : i ≡ k → ⊥ = eqb-false i k e in h i (omega arith)

module _ (p : ℕ → Bool) where
  pub all-below : (n : ℕ) → all_below p n ≡ true → (i : ℕ) → i < n → p i ≡ true
  unfolding all_below
  all-below zero e = λ i l. absurd (not-suc-le-zero l)
  all-below (suc k) e =
      below_suc (λ (i : ℕ). p i ≡ true) k (all-below k (and_left (all_below p k) (p k) e)) (and_right (all_below p k) (p k) e)

  pub below_all : (n : ℕ) → ((i : ℕ) → i < n → p i ≡ true) → all_below p n ≡ true
  unfolding all_below
  below_all zero h = refl
  below_all (suc k) h = and_both (all_below p k) (p k) (below_all k (λ i l. h i (omega arith))) (h k (omega arith))

  pub any_below_lem : (n : ℕ) → any_below p n ≡ true → Some n (λ i. p i ≡ true)
  unfolding any_below
  any_below_lem zero e = absurd (false≢true e)
  any_below_lem (suc k) e =
      or_cases (any_below p k) (p k) e
      (λ h. let r = any_below_lem k h in let l : r.0 < k = r.1 in (r.0, omega arith, r.2)) (λ h. (k, omega arith, h))

  pub below-any : (n i : ℕ) → i < n → p i ≡ true → any_below p n ≡ true
  unfolding any_below
  below-any zero i l e = absurd (not-suc-le-zero l)
  below-any (suc k) i l e =
      either (eqb i k)
      (λ q. or_right (any_below p k) (p k) (ap p (sym (eqb-true i k q)) ∙ e))
      (λ q. let h : i ≡ k → ⊥ = eqb-false i k q in or_left (any_below p k) (p k) (below-any k i (omega arith) e))

  -- ---- what a loop that counts up and joins its tests by `&` or `|` asks: at its start, at each turn, at its end
  pub all_start : all_below p 0 ≡ true
  unfolding all_below
  all_start = refl

  pub all_turn : (i : ℕ) {a b : Bool} → a ≡ all_below p i → b ≡ p i → (a && b) ≡ all_below p (i + 1)
  unfolding all_below
  all_turn i e f = rw (add-one, e, f)

  pub all_end : (n i : ℕ) {a : Bool} → i ≤ n → n ≤ i → a ≡ all_below p i → a ≡ all_below p n
  all_end n i l m e = e ∙ ap (all_below p) (le_antisymm l m)

  pub any-start : any_below p 0 ≡ false
  unfolding any_below
  any-start = refl

  pub any_turn : (i : ℕ) {a b : Bool} → a ≡ any_below p i → b ≡ p i → (a || b) ≡ any_below p (i + 1)
  unfolding any_below
  any_turn i e f = rw (add-one, e, f)

  pub any_end : (n i : ℕ) {a : Bool} → i ≤ n → n ≤ i → a ≡ any_below p i → a ≡ any_below p n
  any_end n i l m e = e ∙ ap (any_below p) (le_antisymm l m)

-- equal tests below a bound
pub all_same : (p q : ℕ → Bool) (n : ℕ) → ((i : ℕ) → i < n → p i ≡ q i) → all_below p n ≡ all_below q n
unfolding all_below
all_same p q zero e = refl
all_same p q (suc k) e = rw (all_same p q k (λ i l. e i (omega arith)), e k (omega arith))

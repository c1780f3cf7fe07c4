-- Station sets by their members.
use mathlib.Core.Path.{◌≡◌, refl, sym, ap, ◌∙◌}
use mathlib.Core.Bool.{Bool, true, false, not, ◌&&◌, ◌||◌}
use Prim.Native.Nat.{ℕ, zero, suc, ◌+◌, ◌-◌, ◌*◌, ◌/◌, ◌%◌, ◌^◌, ◌≤◌, ◌<◌, min, max}
use mathlib.Core.Logic.{◌↔◌}
use native.Mathlib.Nat.{not-suc-le-zero, div-one, zero-div, min-eq_left}
use native.Mathlib.Numerals.{one-add}
use native.Mathlib.Omega.{arith}
use lib.Dec.{ltb, eqb, leb-suc-suc, eqb-suc-suc, eqb-zero-suc, eqb-suc-zero}
use lib.Arith.{bin_ind, digits_div, digits_mod, lt_of_le-ne}
use lib.Pow.{shr-shr, pow_pos, pow-lt}
use lib.Bits.{bit_and, bit_or, and_step, or_step, and_le_l, or_lt, and_self, and_zero_r}
use lib.Count.{count_trailing_zeros, under}
use borrow.Author.Tests.{ltb-true, lt-ltb, le-ltb, eqb-true, eqb-false, eq-eqb, ne_eqb, not-true}
use Rattle.quorum.specs.Sets.{member, used, holds, shares, within, join, unite, minus, remove, lowest, full}
use Rattle.basics.proofs.Tests.{same_test, and_left, and_right, and_both, or_left, or_right, or_cases, by_cases, clash, either}

-- ---- station 0, and the stations above it
pub member-zero : (a : ℕ) → member a 0 ≡ eqb (a % 2) 1
unfolding member
member-zero a = rw div-one

pub member-suc : (a i : ℕ) → member a (suc i) ≡ member (a / 2) i
unfolding member
member-suc a i = rw (← one-add i, ← shr-shr a 1 i)

pub member_empty : (i : ℕ) → member 0 i ≡ false
unfolding member
member_empty i = rw zero-div

-- ---- sets that are made digit by digit
-- a digit is 0 or 1
digit : (P : ℕ → Type 0) (d : ℕ) → d < 2 → P 0 → P 1 → P d
digit P zero l p q = p
digit P (suc zero) l p q = q
digit P (suc (suc d)) l p q = absurd (omega arith)

-- what an operation does to each digit, by f on numbers and by g on tests
record Digitwise (op f : ℕ → ℕ → ℕ) (g : Bool → Bool → Bool) : Type 0 where
  step : (a b : ℕ) → op a b ≡ op (a / 2) (b / 2) * 2 + f (a % 2) (b % 2)
  table : (x y : ℕ) → x < 2 → y < 2 → (f x y < 2) × (eqb (f x y) 1 ≡ g (eqb x 1) (eqb y 1))

-- the members of the result, by those of the two sets
member_op : (op f : ℕ → ℕ → ℕ) (g : Bool → Bool → Bool) → Digitwise op f g → (i a b : ℕ) → member (op a b) i ≡ g (member a i) (member b i)
member_op op f g d zero a b =
    let t = d.table (a % 2) (b % 2) (omega arith) (omega arith) in
    rw (member-zero (op a b), member-zero a, member-zero b, d.step a b, digits_mod (op (a / 2) (b / 2)) t.0) t.1
member_op op f g d (suc i) a b =
    let t = d.table (a % 2) (b % 2) (omega arith) (omega arith) in
    rw (member-suc (op a b), member-suc a, member-suc b, d.step a b, digits_div (op (a / 2) (b / 2)) t.0) (member_op op f g d i (a / 2) (b / 2))

and_digits : Digitwise bit_and min ◌&&◌
and_digits =
    record {
      step = and_step;
      table = λ x y p q. (
        omega arith,
        digit (λ (x : ℕ). eqb (min x y) 1 ≡ (eqb x 1 && eqb y 1)) x p
            (digit (λ (y : ℕ). eqb (min 0 y) 1 ≡ (eqb 0 1 && eqb y 1)) y q refl refl)
            (digit (λ (y : ℕ). eqb (min 1 y) 1 ≡ (eqb 1 1 && eqb y 1)) y q refl refl),
      );
    }

or_digits : Digitwise bit_or max ◌||◌
or_digits =
    record {
      step = or_step;
      table = λ x y p q. (
        omega arith,
        digit (λ (x : ℕ). eqb (max x y) 1 ≡ (eqb x 1 || eqb y 1)) x p
            (digit (λ (y : ℕ). eqb (max 0 y) 1 ≡ (eqb 0 1 || eqb y 1)) y q refl refl)
            (digit (λ (y : ℕ). eqb (max 1 y) 1 ≡ (eqb 1 1 || eqb y 1)) y q refl refl),
      );
    }

minus_digits : Digitwise minus (λ x y. x - min x y) (λ x y. x && not y)
unfolding minus
minus_digits =
    record {
      step = λ a b. omega (arith, and_step a b, and_le_l (a / 2) (b / 2));
      table = λ x y p q. (
        omega arith,
        digit (λ (x : ℕ). eqb (x - min x y) 1 ≡ (eqb x 1 && not (eqb y 1))) x p
            (digit (λ (y : ℕ). eqb (0 - min 0 y) 1 ≡ (eqb 0 1 && not (eqb y 1))) y q refl refl)
            (digit (λ (y : ℕ). eqb (1 - min 1 y) 1 ≡ (eqb 1 1 && not (eqb y 1))) y q refl refl),
      );
    }

pub member-and : (i a b : ℕ) → member (bit_and a b) i ≡ (member a i && member b i)
member-and = member_op bit_and min ◌&&◌ and_digits

pub member-or : (i a b : ℕ) → member (bit_or a b) i ≡ (member a i || member b i)
member-or = member_op bit_or max ◌||◌ or_digits

pub member_minus : (i a b : ℕ) → member (minus a b) i ≡ (member a i && not (member b i))
member_minus = member_op minus (λ x y. x - min x y) (λ x y. x && not y) minus_digits

-- the set of one station
pub member_one : (i k : ℕ) → member (2 ^ k) i ≡ eqb i k
member_one zero zero = rw member-zero
member_one zero (suc k) = rw (member-zero, eqb-zero-suc k) (ne_eqb (2 ^ suc k % 2) 1 (λ e. omega arith))
member_one (suc i) zero = rw (member-suc, eqb-suc-zero i) (member_empty i)
member_one (suc i) (suc k) = let h : 2 ^ suc k / 2 ≡ 2 ^ k = omega arith in rw (member-suc, h, eqb-suc-suc i k) (member_one i k)

pub member_remove : (i k a : ℕ) → member (remove a k) i ≡ (member a i && not (eqb i k))
unfolding remove
member_remove i k a = rw (member_minus i a (2 ^ k), member_one i k)

-- ---- the lowest station
-- what follows from either lowest digit
by_digit : (a : ℕ) (P : ℕ → Type 0) → (a % 2 ≡ 0 → P 0) → (a % 2 ≡ 1 → P 1) → P (a % 2)
by_digit a P p q = digit (λ (d : ℕ). a % 2 ≡ d → P d) (a % 2) (omega arith) p q refl

-- the lowest of k digits that is set: its station is in the set, none below it is, and `a & (a - 1)` is the set without it
first_digit : (k a : ℕ) → a < 2 ^ k → (a ≡ 0 → ⊥) → member a (count_trailing_zeros k a) ≡ true
unfolding count_trailing_zeros
first_digit zero a l h = absurd (h (omega arith))
first_digit (suc k) a l h =
    by_digit a (λ (d : ℕ). member a (under d (count_trailing_zeros k (a / 2))) ≡ true)
    (λ e. member-suc a (count_trailing_zeros k (a / 2)) ∙ first_digit k (a / 2) (omega arith) (λ z. h (omega arith)))
    (λ e. member-zero a ∙ eq-eqb (a % 2) 1 e)

below-first : (k a i : ℕ) → i < count_trailing_zeros k a → member a i ≡ false
unfolding count_trailing_zeros
below-first zero a i l = absurd (not-suc-le-zero l)
below-first (suc k) a zero l =
    by_digit a (λ (d : ℕ). 0 < under d (count_trailing_zeros k (a / 2)) → member a 0 ≡ false)
    (λ e l. rw (member-zero a, e)) (λ e l. absurd (not-suc-le-zero l)) l
below-first (suc k) a (suc i) l =
    by_digit a (λ (d : ℕ). suc i < under d (count_trailing_zeros k (a / 2)) → member a (suc i) ≡ false)
    (λ e l. member-suc a i ∙ below-first k (a / 2) i (omega arith)) (λ e l. absurd (not-suc-le-zero l)) l

and_even : (a b : ℕ) → a % 2 ≡ 0 → bit_and a b ≡ bit_and (a / 2) (b / 2) * 2
and_even a b e = omega (arith, and_step a b)

without_even : (a t : ℕ) → (a ≡ 0 → ⊥) → a % 2 ≡ 0 → bit_and (a / 2) (a / 2 - 1) ≡ minus (a / 2) (2 ^ t) → bit_and a (a - 1) ≡ minus a (2 ^ suc t)
unfolding minus
without_even a t h e ih =
    let up : (a - 1) / 2 ≡ a / 2 - 1 = omega arith in
    let down : 2 ^ suc t / 2 ≡ 2 ^ t = omega arith in
    omega (arith, rw up at (and_even a (a - 1) e), rw down at (and_even a (2 ^ suc t) e))

without_odd : (a : ℕ) → a % 2 ≡ 1 → bit_and a (a - 1) ≡ minus a 1
unfolding minus
without_odd a e =
    let same : (a - 1) / 2 ≡ a / 2 = omega arith in
    omega (arith, rw (same, and_self) at (and_step a (a - 1)), rw and_zero_r at (and_step a 1))

without_first : (k a : ℕ) → a < 2 ^ k → (a ≡ 0 → ⊥) → bit_and a (a - 1) ≡ minus a (2 ^ count_trailing_zeros k a)
unfolding count_trailing_zeros
without_first zero a l h = absurd (h (omega arith))
without_first (suc k) a l h =
    by_digit a (λ (d : ℕ). bit_and a (a - 1) ≡ minus a (2 ^ under d (count_trailing_zeros k (a / 2))))
    (λ e. without_even a (count_trailing_zeros k (a / 2)) h e (without_first k (a / 2) (omega arith) (λ z. h (omega arith)))) (without_odd a)

pub lowest_member : (a : ℕ) → a < 65536 → used a ≡ true → member a (lowest a) ≡ true
unfolding lowest used
lowest_member a l e = first_digit 16 a l (eqb-false _ _ (not-true _ e))

pub below_lowest : (a i : ℕ) → i < lowest a → member a i ≡ false
unfolding lowest
below_lowest a i l = below-first 16 a i l

pub without_lowest : (a : ℕ) → a < 65536 → (a ≡ 0 → ⊥) → bit_and a (a - 1) ≡ remove a (lowest a)
unfolding lowest remove
without_lowest a l h = without_first 16 a l h

-- without one of its stations a set is a smaller number
pub remove_less : (a i : ℕ) → member a i ≡ true → remove a i < a
unfolding remove minus
remove_less a i m =
    let gone : member (remove a i) i ≡ false = member_remove i i a ∙ rw (m, eq-eqb i i refl) in
    lt_of_le-ne (omega arith) (λ e. clash (ap (λ x. member x i) e ∙ m) gone)

-- ---- from the members to the set
-- a set that has no member is empty
has_member : (a : ℕ) → (a ≡ 0 → ⊥) → (i : ℕ) × (member a i ≡ true)
has_member = bin_ind (λ (a : ℕ). (a ≡ 0 → ⊥) → (i : ℕ) × (member a i ≡ true)) (λ h. absurd (h refl)) step
  where
    step : (a : ℕ) → ((a / 2 ≡ 0 → ⊥) → (i : ℕ) × (member (a / 2) i ≡ true)) → (a ≡ 0 → ⊥) → (i : ℕ) × (member a i ≡ true)
    step a ih h =
        either (eqb (a % 2) 1)
        (λ e. (0, member-zero a ∙ e))
        (λ e. let q : a % 2 ≡ 1 → ⊥ = eqb-false _ _ e in let r = ih (λ z. h (omega arith)) in (suc r.0, member-suc a r.0 ∙ r.1))

same_digit : (x y : ℕ) → x < 2 → y < 2 → eqb x 1 ≡ eqb y 1 → x ≡ y
same_digit x y p q e =
    either (eqb y 1) (λ h. eqb-true x 1 (e ∙ h) ∙ sym (eqb-true y 1 h))
    (λ h. let f : x ≡ 1 → ⊥ = eqb-false x 1 (e ∙ h) in let g : y ≡ 1 → ⊥ = eqb-false y 1 h in omega arith)

-- sets with the same members are equal
pub same_members : (a b : ℕ) → ((i : ℕ) → member a i ≡ member b i) → a ≡ b
same_members = bin_ind (λ (a : ℕ). (b : ℕ) → ((i : ℕ) → member a i ≡ member b i) → a ≡ b) none step
  where
    none : (b : ℕ) → ((i : ℕ) → member 0 i ≡ member b i) → 0 ≡ b
    none b h =
        either (eqb b 0) (λ e. sym (eqb-true _ _ e))
        (λ e. let r = has_member b (eqb-false _ _ e) in clash r.1 (sym (h r.0) ∙ member_empty r.0))

    step : (a : ℕ) → ((b : ℕ) → ((i : ℕ) → member (a / 2) i ≡ member b i) → a / 2 ≡ b) → (b : ℕ) → ((i : ℕ) → member a i ≡ member b i) → a ≡ b
    step a ih b h =
        let half : a / 2 ≡ b / 2 = ih (b / 2) (λ i. sym (member-suc a i) ∙ h (suc i) ∙ member-suc b i) in
        let low : eqb (a % 2) 1 ≡ eqb (b % 2) 1 = sym (member-zero a) ∙ h 0 ∙ member-zero b in
        let d : a % 2 ≡ b % 2 = same_digit (a % 2) (b % 2) (omega arith) (omega arith) low in
        omega arith

-- a set below 2 ^ n has members below n only
pub within_member : (i n a : ℕ) → a < 2 ^ n → member a i ≡ true → i < n
within_member zero zero a l e = let h : a ≡ 0 = omega arith in clash e (rw h (member_empty 0))
within_member zero (suc n) a l e = omega arith
within_member (suc i) zero a l e = let h : a ≡ 0 = omega arith in clash e (rw h (member_empty (suc i)))
within_member (suc i) (suc n) a l e =
    let h : a / 2 < 2 ^ n = omega arith in let r = within_member i n (a / 2) h (sym (member-suc a i) ∙ e) in omega arith

-- and one that has no others is below 2 ^ n
pub member_within : (n a : ℕ) → ((i : ℕ) → member a i ≡ true → i < n) → a < 2 ^ n
member_within zero a h =
    either (eqb a 0) (λ e. let z = eqb-true a 0 e in omega arith)
    (λ e. let m = has_member a (eqb-false a 0 e) in absurd (not-suc-le-zero (h m.0 m.1)))
member_within (suc n) a h =
    let r = member_within n (a / 2) (λ i e. let l = h (suc i) (member-suc a i ∙ e) in omega arith) in omega arith

-- ---- the tests on sets, by members
pub within_members : (n a : ℕ) → (within n a ≡ true) ↔ ((i : ℕ) → member a i ≡ true → i < n)
unfolding within
within_members n a = (λ w i. within_member i n a (ltb-true a (2 ^ n) w), λ h. lt-ltb a (2 ^ n) (member_within n a h))

pub holds-member : (a b : ℕ) → holds a b ≡ true → (i : ℕ) → member b i ≡ true → member a i ≡ true
unfolding holds
holds-member a b e i h = and_left (member a i) (member b i) (sym (member-and i a b) ∙ ap (λ x. member x i) (eqb-true _ _ e) ∙ h)

pub member-holds : (a b : ℕ) → ((i : ℕ) → member b i ≡ true → member a i ≡ true) → holds a b ≡ true
unfolding holds
member-holds a b h =
    eq-eqb _ _ (same_members _ _ (λ i. member-and i a b ∙ same_test _ _ (and_right (member a i) (member b i)) (λ e. and_both _ _ (h i e) e)))

pub subset_le : (a b : ℕ) → ((i : ℕ) → member a i ≡ true → member b i ≡ true) → a ≤ b
unfolding holds
subset_le a b h = let same : bit_and b a ≡ a = eqb-true _ _ (member-holds b a h) in omega (arith, and_le_l b a)

shares_member : (a b : ℕ) → shares a b ≡ true → (i : ℕ) × (member a i ≡ true) × (member b i ≡ true)
unfolding shares
shares_member a b e =
    let r = has_member (bit_and a b) (eqb-false _ _ (not-true _ e)) in
    let h : (member a r.0 && member b r.0) ≡ true = sym (member-and r.0 a b) ∙ r.1 in
    (r.0, and_left _ _ h, and_right (member a r.0) _ h)

member-shares : (a b i : ℕ) → member a i ≡ true → member b i ≡ true → shares a b ≡ true
unfolding shares
member-shares a b i p q =
    by_cases (λ (t : Bool). eqb (bit_and a b) 0 ≡ t → not t ≡ true) (eqb (bit_and a b) 0)
    (λ _ e. clash (member-and i a b ∙ and_both _ _ p q) (ap (λ x. member x i) (eqb-true _ _ e) ∙ member_empty i)) (λ _ _. refl) refl

pub shares_members : (a b : ℕ) → (shares a b ≡ true) ↔ ((i : ℕ) × (member a i ≡ true) × (member b i ≡ true))
shares_members a b = (shares_member a b, λ s. member-shares a b s.0 s.1 s.2)

pub used_member : (a : ℕ) → (used a ≡ true) ↔ ((i : ℕ) × (member a i ≡ true))
unfolding used
used_member a = (
  λ e. has_member a (eqb-false _ _ (not-true _ e)),
  λ m. ap not (ne_eqb a 0 (λ e. clash m.1 (ap (λ x. member x m.0) e ∙ member_empty m.0))),
)

pub member_join : (a i k : ℕ) → k < 16 → member (join a k) i ≡ (member a i || eqb i k)
unfolding join
member_join a i k l = rw (lt-ltb _ _ l, member-or i a (2 ^ k), member_one i k)

pub member_full : (n i : ℕ) → n ≤ 16 → member (full n) i ≡ ltb i n
unfolding full
member_full n i l = rw (min-eq_left l) (go n i)
  where
    go : (n i : ℕ) → member (2 ^ n - 1) i ≡ ltb i n
    go zero i = rw (le-ltb i 0 (omega arith)) (member_empty i)
    go (suc n) zero = rw (member-zero (2 ^ suc n - 1), lt-ltb 0 (suc n) (omega arith)) (eq-eqb ((2 ^ suc n - 1) % 2) 1 (omega (arith, pow_pos n)))
    go (suc n) (suc i) =
        let h : (2 ^ suc n - 1) / 2 ≡ 2 ^ n - 1 = omega (arith, pow_pos n) in
        rw (member-suc (2 ^ suc n - 1), h, leb-suc-suc (suc i) n) (go n i)

-- ---- the stations below n
pub within_join : (n a k : ℕ) → n ≤ 16 → within n a ≡ true → k < n → within n (join a k) ≡ true
unfolding within join
within_join n a k l e h =
    let q : k < 16 = omega arith in rw (lt-ltb _ _ q) (lt-ltb _ _ (or_lt n a (2 ^ k) (ltb-true _ _ e) (pow-lt h)))

pub within_unite : (n a b : ℕ) → within n (unite a b) ≡ (within n a && within n b)
unfolding unite
within_unite n a b =
    same_test _ _
    (λ e. and_both _ _ ((within_members n a).1 (λ i m. (within_members n (bit_or a b)).0 e i (member-or i a b ∙ or_left _ _ m)))
    ((within_members n b).1 (λ i m. (within_members n (bit_or a b)).0 e i (member-or i a b ∙ or_right (member a i) _ m))))
    (λ e. (within_members n (bit_or a b)).1 (λ i m. or_cases (member a i) (member b i) (sym (member-or i a b) ∙ m)
    ((within_members n a).0 (and_left _ _ e) i) ((within_members n b).0 (and_right (within n a) _ e) i)))

pub within_minus : (n a b : ℕ) → within n a ≡ true → within n (minus a b) ≡ true
unfolding within minus
within_minus n a b e = lt-ltb (a - bit_and a b) (2 ^ n) (omega (arith, ltb-true a (2 ^ n) e))

-- Sets of 16 bits, as the code has them.
use mathlib.Core.Path.{◌≡◌, refl, sym, ◌∙◌}
use mathlib.Core.Bool.{Bool, true, false, not}
use mathlib.Core.Logic.{◌↔◌}
use Prim.Native.Nat.{ℕ, ◌-◌, ◌*◌, ◌/◌, ◌%◌, ◌^◌, ◌≤◌, ◌<◌}
use native.Mathlib.Nat.{min-eq_left, min-eq_right, one-mul, mod-eq_of_lt, le_of_lt, div-lt_iff_lt-mul}
use native.Mathlib.Omega.{arith}
use lib.Dec.{eqb}
use lib.Pow.{pow_pos, pow-lt, pow_mono}
use borrow.Author.Tests.{ltb-true, lt-ltb, eqb-true, eq-eqb, ne_eqb}
use Rattle.basics.proofs.Tests.{same_test, by_cases, and_left}
use Rattle.quorum.specs.Sets.{member, within, remove, full}
use Rattle.quorum.proofs.Promise.{promise}

pub one_shl : (k w : ℕ) → k < w → (1 * 2 ^ k) % 2 ^ w ≡ 2 ^ k
one_shl k w l = rw one-mul (mod-eq_of_lt (pow-lt l))

pub all-within : (a n : ℕ) → a < 2 ^ 16 → 16 ≤ n → true ≡ within n a
unfolding within
all-within a n l h = let p : 2 ^ 16 ≤ 2 ^ n = pow_mono h in sym (lt-ltb a (2 ^ n) (omega arith))

-- a station 16 or above is in no set, so that nothing changes without it
members_below : (a i : ℕ) → a < 2 ^ 16 → member a i ≡ true → i < 16
members_below a i l m = promise.within_member 16 a i (sym (all-within a 16 l (omega arith))) m

pub no_member : (a i : ℕ) → a < 2 ^ 16 → 16 ≤ i → false ≡ member a i
no_member a i l h = by_cases (λ (b : Bool). false ≡ b) (member a i) (λ e. let k = members_below a i l e in absurd (omega arith)) (λ _. refl)

pub remove_none : (a k : ℕ) → a < 2 ^ 16 → 16 ≤ k → a ≡ remove a k
remove_none a k l h =
    promise.same_members a (remove a k)
    (λ i m. let below = members_below a i l m in promise.member_remove a i k ∙ rw (m, ne_eqb i k (λ e. absurd (omega arith))))
    (λ i m. and_left (member a i) (not (eqb i k)) (sym (promise.member_remove a i k) ∙ m))

-- no digit is left above the n lowest exactly if the set is within n
pub shifted_within : (a n : ℕ) → eqb (a / 2 ^ n) 0 ≡ within n a
unfolding within
shifted_within a n =
    let below : (a / 2 ^ n < 1) ↔ (a < 2 ^ n) = rw one-mul at (div-lt_iff_lt-mul {x = a} {y = 1} (pow_pos n)) in
    same_test _ _ (λ e. let z = eqb-true (a / 2 ^ n) 0 e in lt-ltb a (2 ^ n) (below.0 (omega arith)))
    (λ e. let q = below.1 (ltb-true a (2 ^ n) e) in eq-eqb (a / 2 ^ n) 0 (omega arith))

pub full_small : (n : ℕ) → n < 16 → 2 ^ n - 1 ≡ full n
unfolding full
full_small n l = rw (min-eq_left (le_of_lt l))

pub full-all : (n : ℕ) → 16 ≤ n → 65535 ≡ full n
unfolding full
full-all n l = rw (min-eq_right l)

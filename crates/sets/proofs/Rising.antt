-- The stations of a set in rising number: the lowest comes first, and then those of the set without it.
use mathlib.Core.Path.{◌≡◌, refl, ap, ◌∙◌}
use mathlib.Core.Bool.{Bool, true, false, not, ◌&&◌}
use mathlib.Core.List.{[], ◌∷◌}
use Prim.Native.Nat.{ℕ, zero, suc, ◌<◌}
use native.Mathlib.Nat.{not-suc-le-zero}
use native.Mathlib.Omega.{arith}
use lib.Dec.{eqb}
use borrow.Author.Tests.{eqb-true, eqb-false, eq-eqb, ne_eqb}
use Rattle.basics.specs.Listing.{passing}
use Rattle.basics.proofs.Tests.{either}
use Rattle.quorum.specs.Sets.{rising, member, used, remove, lowest}
use Rattle.quorum.proofs.Promise.{promise}

and_true : (b : Bool) → (b && true) ≡ b
and_true true = refl
and_true false = refl

-- where no number passes, none is listed
pub none_listed : (test : ℕ → Bool) (n : ℕ) → ((i : ℕ) → i < n → test i ≡ false) → passing test n ≡ []
unfolding passing
none_listed test zero h = refl
none_listed test (suc n) h = rw (none_listed test n (λ i l. h i (omega arith)), h n (omega arith))

module _ (set s : ℕ) (m : member set s ≡ true) (low : (i : ℕ) → i < s → member set i ≡ false) where
  others : (i : ℕ) → (i ≡ s → ⊥) → member (remove set s) i ≡ member set i
  others i h = promise.member_remove set i s ∙ rw (ne_eqb i s h) (and_true (member set i))

  taken_out : member (remove set s) s ≡ false
  taken_out = promise.member_remove set s s ∙ rw (m, eq-eqb s s refl)

  pub lowest-first : (n : ℕ) → s < n → passing (member set) n ≡ s ∷ passing (member (remove set s)) n
  unfolding passing
  lowest-first zero l = absurd (not-suc-le-zero l)
  lowest-first (suc n) l =
      either (eqb n s)
      (λ e. rw (
        eqb-true n s e,
        m,
        none_listed (member set) s low,
        taken_out,
        none_listed (member (remove set s)) s (λ i l. others i (λ z. omega arith) ∙ low i l),
      ))
      (λ e. let h : n ≡ s → ⊥ = eqb-false n s e in rw (lowest-first n (omega arith), others n h))

pub rising_empty : rising 0 ≡ []
rising_empty = none_listed (member 0) 16 (λ i _. promise.member_empty i)

pub rising_first : (set : ℕ) → set < 65536 → (set ≡ 0 → ⊥) → rising set ≡ lowest set ∷ rising (remove set (lowest set))
unfolding used
rising_first set small h =
    let m = promise.lowest_member set small (ap not (ne_eqb set 0 h)) in
    lowest-first set (lowest set) m (promise.below_lowest set) 16 (promise.within_member 16 set (lowest set) (promise.small_within set small) m)

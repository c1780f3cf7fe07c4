-- A side that has the sets of a list in its places: its used places are the list.
use mathlib.Core.Path.{◌≡◌, ◌∙◌}
use mathlib.Core.Bool.{true}
use mathlib.Core.List.{List}
use mathlib.Core.Logic.{◌↔◌}
use Prim.Native.Nat.{ℕ, suc, ◌≤◌, ◌<◌}
use native.Mathlib.Omega.{arith}
use lib.Dec.{ltb}
use lib.ListN.{length, get_or, get_or-eq_default}
use borrow.Author.Tests.{ltb-true, ltb-false}
use Rattle.basics.specs.Listing.{Listing}
use Rattle.basics.proofs.Tests.{clash, either}
use Rattle.quorum.specs.Sets.{member, used}
use Rattle.quorum.proofs.Promise.{promise}
use Rattle.form.specs.Sides.{SideLists}

pub same_lists : (P Q : ℕ → Type 0) (side : ℕ → ℕ) → ((x : ℕ) → P x ↔ Q x) → SideLists P side → SideLists Q side
same_lists P Q side same r =
    record { every = λ set q. r.every set ((same set).1 q); only = λ k l u. (same (side k)).0 (r.only k l u); rises = r.rises }

-- only the places of the list are used
used_place : (l : List ℕ) (k : ℕ) → used (get_or l k 0) ≡ true → k < length l
used_place l k u =
    either (ltb k (length l)) (ltb-true k (length l))
    (λ e. let some = (promise.used_member 0).0 (rw (get_or-eq_default l 0 (ltb-false k (length l) e)) at u) in
    clash some.1 (promise.member_empty some.0))

-- what stands at a place of a list of sets of n stations, at most 16, fits two bytes
pub two_bytes : (n : ℕ) (P : ℕ → Type 0) (l : List ℕ) → n ≤ 16 → Listing P l → ((x : ℕ) → P x → (i : ℕ) → member x i ≡ true → i < n)
    → (k : ℕ) → get_or l k 0 < 65536
two_bytes n P l few listed ranged k =
    promise.within_16 n (get_or l k 0) few (promise.member_within n (get_or l k 0)
    (λ i m. ranged (get_or l k 0) (listed.only k (used_place l k ((promise.used_member (get_or l k 0)).1 (i, m)))) i m))

-- the list has room, and each place has the set of the list
pub record Filled (P : ℕ → Type 0) (l : List ℕ) (side : ℕ → ℕ) : Type 0 where
  pub listed : Listing P l
  pub room : length l ≤ 8
  pub place : (k : ℕ) → k < 8 → side k ≡ get_or l k 0

module _ {P : ℕ → Type 0} {l : List ℕ} {side : ℕ → ℕ} (filled : Filled P l side) where
  used-below : (k : ℕ) → k < 8 → used (side k) ≡ true → k < length l
  used-below k h u = used_place l k (rw (filled.place k h) at u)

  at_place : (k : ℕ) → k < 8 → k < length l → P (side k)
  at_place k h m = rw (filled.place k h) (filled.listed.only k m)

  pub lists : SideLists P side
  lists =
      record {
        every = λ set s. let at = filled.listed.every set s in
            let h = at.1 in let room = filled.room in let m : at.0 < 8 = omega arith in (at.0, m, filled.place at.0 m ∙ at.2);
        only = λ k h u. at_place k h (used-below k h u);
        rises = λ j k m h u. let i : j < 8 = omega arith in rw (filled.place j i, filled.place k h) (filled.listed.rises j k m (used-below k h u));
      }

  -- used places come first, where no listed set is empty
  pub packed : ((x : ℕ) → P x → used x ≡ true) → (k : ℕ) → k < 7 → used (side (suc k)) ≡ true → used (side k) ≡ true
  packed uses k h u = let next = used-below (suc k) (omega arith) u in uses (side k) (at_place k (omega arith) (omega arith))

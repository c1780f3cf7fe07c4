-- The sizes that a table can have, and the length that a lay needs.
use mathlib.Core.Path.{◌≡◌, refl}
use mathlib.Core.Bool.{true, ◌&&◌}
use mathlib.Core.Logic.{◌↔◌}
use Prim.Native.Nat.{ℕ, ◌*◌, ◌≤◌}
use native.Mathlib.Omega.{arith}
use native.Mathlib.Nat.{mul-le-mul}
use lib.Dec.{leb}
use borrow.Author.Tests.{le-leb, leb-true}
use Rattle.basics.proofs.Tests.{clash, fails, and_left, and_right, and_both, either}
use Rattle.quorum.specs.Sets.{listed_stations}
use Rattle.quorum.proofs.Promise.{promise}
use Rattle.layout.specs.Layout.{table_length, largest, listed, lay_length}

-- n and m are listed
abbrev pub Sized : ℕ → ℕ → Type 0
Sized n m = (1 ≤ n) × (n ≤ 16) × (1 ≤ m) × (m ≤ 32)

pub sized : (n m : ℕ) → (listed n m ≡ true) ↔ Sized n m
sized n m = (
  λ h. let three = and_left _ (leb m 32) h in
      let two = and_left _ (leb 1 m) three in (
        (stations.0 two).0,
        (stations.0 two).1,
        leb-true 1 m (and_right (listed_stations n) _ three),
        leb-true m 32 (and_right (listed_stations n && leb 1 m) _ h),
      ),
  λ h. and_both _ _ (and_both _ _ (stations.1 (h.0, h.1)) (le-leb 1 m h.2)) (le-leb m 32 h.3),
)
  where
    stations : (listed_stations n ≡ true) ↔ ((1 ≤ n) × (n ≤ 16))
    stations = promise.listed_stations_lem n

-- the length that a lay needs: none, or that of the table
pub lay_length_out : (n m : ℕ) → (Sized n m → ⊥) → lay_length n m ≡ 0
unfolding lay_length
lay_length_out n m h = rw (fails (listed n m) (λ e. h ((sized n m).0 e)))

pub lay_length_in : (n m : ℕ) → Sized n m → lay_length n m ≡ table_length n m
unfolding lay_length
lay_length_in n m s = rw ((sized n m).1 s)

-- sized or not
by_size : {A : Type 0} (n m : ℕ) → (Sized n m → A) → ((Sized n m → ⊥) → A) → A
by_size {A} n m f g =
    either (listed n m) (λ e. f ((sized n m).0 e)) (λ e. g (λ s. clash ((sized n m).1 s) e))

pub product_le : (n m : ℕ) → n ≤ 16 → m ≤ 32 → n * m ≤ 512
product_le n m a b = mul-le-mul a b

-- the largest table is that of 16 stations and 32 items, and no lay needs more
pub largest_is : table_length 16 32 ≡ largest
unfolding table_length
largest_is = refl

pub lay_length_le : (n m : ℕ) → lay_length n m ≤ largest
unfolding table_length
lay_length_le n m =
    by_size n m (λ s. rw (lay_length_in n m s) (omega (arith, product_le n m s.1 s.3))) (λ h. rw (lay_length_out n m h) (omega arith))

-- a lay that needs nothing is of no size that there is, and one that needs some is
pub needs_nothing : (n m : ℕ) → lay_length n m ≡ 0 → Sized n m → ⊥
unfolding table_length
needs_nothing n m z s = let l = lay_length_in n m s in omega arith

pub needs_some : (n m : ℕ) → (lay_length n m ≡ 0 → ⊥) → Sized n m
needs_some n m z = by_size n m (λ s. s) (λ h. absurd (z (lay_length_out n m h)))

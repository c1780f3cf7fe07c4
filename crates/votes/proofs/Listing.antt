-- The smallest sets are listed, and when they are more than eight.
use mathlib.Core.Path.{◌≡◌}
use mathlib.Core.Bool.{true}
use mathlib.Core.List.{List}
use mathlib.Core.Logic.{◌↔◌}
use Prim.Native.Nat.{ℕ, ◌^◌, ◌≤◌, ◌<◌}
use native.Mathlib.Omega.{arith}
use lib.ListN.{length, get_or}
use borrow.Author.Tests.{ltb-true, ltb-false, lt-ltb}
use Rattle.basics.specs.Listing.{Listing}
use Rattle.basics.proofs.Tests.{fails}
use Rattle.basics.proofs.Listing.{same_listing, listing, at_or_behind}
use Rattle.votes.specs.Votes.{smallest, smallest_sets, too_many}
use Rattle.votes.specs.Claims.{Smallest, MoreThanEight}
use Rattle.votes.proofs.Laws.{in_range_lem, smallest_exactly}

pub smallest_listing : (votes : List ℕ) (threshold : ℕ) → Listing (Smallest votes threshold) (smallest_sets votes threshold)
unfolding smallest_sets
smallest_listing votes threshold =
    let n = length votes in
    same_listing _ _ _ (λ x. (
      λ p. (smallest_exactly votes threshold x p.0).0 p.1,
      λ s. let l = (in_range_lem n x).1 s.in_range in (l, (smallest_exactly votes threshold x l).1 s),
    )) (listing (smallest votes threshold) (2 ^ n))

pub more_than_eight : (votes : List ℕ) (threshold : ℕ) → (too_many votes threshold ≡ true) ↔ MoreThanEight votes threshold
unfolding too_many
more_than_eight votes threshold = (
  λ e. let long = ltb-true 8 (length sets) e in
      (λ k. get_or sets k 0, λ k h. listed.only k (omega arith), λ j k m h. listed.rises j k m (omega arith)),
  λ more. let last = listed.every (more.0 8) (more.1 8 (omega arith)) in
      let i : last.0 < length sets = last.1 in
      lt-ltb 8 (length sets) (omega (arith, at_or_behind _ sets listed 9 more.0 more.1 more.2 8 last.0 (omega arith) i last.2)),
)
  where
    sets : List ℕ
    sets = smallest_sets votes threshold

    listed : Listing (Smallest votes threshold) sets
    listed = smallest_listing votes threshold

pub at_most_eight : (votes : List ℕ) (threshold : ℕ) → (MoreThanEight votes threshold → ⊥) → length (smallest_sets votes threshold) ≤ 8
unfolding too_many
at_most_eight votes threshold h = ltb-false 8 _ (fails (too_many votes threshold) (λ e. h ((more_than_eight votes threshold).0 e)))

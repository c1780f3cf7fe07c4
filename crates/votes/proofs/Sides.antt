-- One side of the configuration, read or write: its places have the smallest sets that reach the threshold.
use mathlib.Core.Path.{◌≡◌}
use mathlib.Core.Bool.{true}
use mathlib.Core.List.{List}
use mathlib.Core.Logic.{◌↔◌}
use Prim.Native.Nat.{ℕ, ◌≤◌, ◌<◌}
use native.Mathlib.Omega.{arith}
use lib.ListN.{length, get_or}
use Rattle.basics.specs.Tests.{Some}
use Rattle.quorum.specs.Sets.{used, full}
use Rattle.quorum.specs.Promise.{LiesIn, Side}
use Rattle.quorum.proofs.Promise.{promise}
use Rattle.form.specs.Sides.{SideLists}
use Rattle.form.proofs.Sides.{Filled, two_bytes, lists, packed}
use Rattle.votes.specs.Votes.{total, smallest_sets}
use Rattle.votes.specs.Claims.{Reaches, Smallest, MoreThanEight}
use Rattle.votes.proofs.Laws.{votes_grow, sets_share, votes_full, holds-smallest}
use Rattle.votes.proofs.Listing.{smallest_listing, at_most_eight}

-- a side with the smallest sets in its places, of votes that reach the threshold
pub record Listed (votes : List ℕ) (threshold : ℕ) (side : ℕ → ℕ) : Type 0 where
  pub few : length votes ≤ 16
  pub positive : 1 ≤ threshold
  pub reached : threshold ≤ total votes
  pub filled : Filled (Smallest votes threshold) (smallest_sets votes threshold) side

-- one that gives back what is written into its places, where there is room
pub fill : (votes : List ℕ) (threshold : ℕ) (side : ℕ → ℕ) → length votes ≤ 16 → 1 ≤ threshold → threshold ≤ total votes
    → (MoreThanEight votes threshold → ⊥)
    → ((k : ℕ) → k < 8 → get_or (smallest_sets votes threshold) k 0 < 65536 → side k ≡ get_or (smallest_sets votes threshold) k 0)
    → Listed votes threshold side
fill votes threshold side few positive reached no_more back =
    let listed = smallest_listing votes threshold in
    record {
      few = few;
      positive = positive;
      reached = reached;
      filled =
          record {
            listed = listed;
            room = at_most_eight votes threshold no_more;
            place = λ k l. back k l (two_bytes (length votes) _ _ few listed (λ x s. s.in_range) k);
          };
    }

module _ {votes : List ℕ} {threshold : ℕ} {side : ℕ → ℕ} (listed : Listed votes threshold side) where
  pub lists_smallest : SideLists (Smallest votes threshold) side
  lists_smallest = lists listed.filled

  -- a set that reaches the threshold has a station: it shares one with all stations
  reaching_used : (set : ℕ) → Reaches votes threshold set → used set ≡ true
  reaching_used set r =
      let all : Reaches votes (total votes) (full (length votes)) = rw (votes_full votes listed.few) (omega arith) in
      let s = sets_share votes threshold (total votes) set (full (length votes)) (omega (arith, listed.positive)) r all in
      (promise.used_member set).1 (s.0, s.2.0)

  -- a set that reaches the threshold holds the set of a used place
  held : (set : ℕ) → Reaches votes threshold set → Some 8 (LiesIn side set)
  held set r =
      let h = holds-smallest votes threshold set listed.few r in
      let at = lists_smallest.every h.0 h.1 in
      (at.0, at.1, rw at.2 (reaching_used h.0 h.1.enough, h.2))

  pub holds_exactly : (set : ℕ) → Some 8 (LiesIn side set) ↔ Reaches votes threshold set
  holds_exactly set = (
    λ s. let enough = (lists_smallest.only s.0 s.1 s.2.0).enough in omega (arith, votes_grow votes (side s.0) set s.2.1),
    held set,
  )

  pub is_side : Side (length votes) side
  is_side =
      record {
        packed = packed listed.filled (λ x s. reaching_used x s.enough);
        some = let h = held (full (length votes)) (rw (votes_full votes listed.few) listed.reached) in (h.0, h.1, h.2.0);
        in_range = λ k l i m. (lists_smallest.only k l ((promise.used_member (side k)).1 (i, m))).in_range i m;
      }

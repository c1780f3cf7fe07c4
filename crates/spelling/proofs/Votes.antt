-- The configuration that votes give is its own form: each side lists the smallest sets that reach its threshold, and these are the sets that stay.
use mathlib.Core.Path.{◌≡◌, sym, ◌∙◌}
use mathlib.Core.List.{List}
use mathlib.Core.Logic.Iff
use mathlib.Core.Logic.{◌↔◌}
use Prim.Native.Nat.{ℕ, ◌≤◌}
use lib.ListN.{length, get_or}
use borrow.Author.Tests.{eq-eqb}
use Rattle.basics.proofs.Listing.{same_listing, same_numbers}
use Rattle.quorum.specs.Configurations.{read_set, write_set}
use Rattle.quorum.specs.Promise.{QuorumIn, Side}
use Rattle.quorum.proofs.Promise.{promise}
use Rattle.form.specs.Sides.{config_bytes, SideLists}
use Rattle.form.specs.Form.{form_sets, standard_form}
use Rattle.form.proofs.Smallest.{stays-used, stays_place, stays-smallest}
use Rattle.form.proofs.Laws.{Staying, form_listing, config_same}
use Rattle.votes.specs.Votes.{smallest_sets, votes_reply, votes_number, configuration_of, votes_output}
use Rattle.votes.specs.Claims.{Reaches, Smallest}
use Rattle.votes.proofs.Laws.{no_less}
use Rattle.votes.proofs.Listing.{smallest_listing}
use Rattle.votes.proofs.Claims.{claims}

-- ---- one side, with the smallest sets in its places, that holds one within a set exactly if the set reaches the threshold
module _ (votes : List ℕ) (threshold : ℕ) (side : ℕ → ℕ) (lists : SideLists (Smallest votes threshold) side)
    (reach : (set : ℕ) → QuorumIn side set ↔ Reaches votes threshold set) where
  smallest-stays : (x : ℕ) → Smallest votes threshold x ↔ Staying side x
  smallest-stays x = (
    λ s. (stays-smallest side x).1 (record {
      enough = (reach x).1 s.enough;
      least = λ b lies q. no_less votes threshold x b s lies ((reach b).0 q);
    }),
    λ e. let at = stays_place side x e in rw at.2 at (lists.only at.0 at.1 (rw at.2 (stays-used side x e))),
  )

  side-own : length votes ≤ 16 → Side (length votes) side → (k : ℕ) → get_or (form_sets (length votes) side) k 0 ≡ get_or (smallest_sets votes threshold) k 0
  side-own few s =
      same_numbers (Staying side) _ _ (form_listing (length votes) side few s) (same_listing _ _ _ smallest-stays (smallest_listing votes threshold))

-- ---- both
written : (votes : List ℕ) (read write : ℕ) (out : List ℕ) → votes_number votes read write out ≡ 0
    → votes_output votes read write out ≡ config_bytes (smallest_sets votes read) (smallest_sets votes write)
unfolding configuration_of votes_output
written votes read write out e = rw (eq-eqb (votes_number votes read write out) 0 e)

pub votes_own_form : (votes : List ℕ) (read write : ℕ) (out : List ℕ) → (votes_reply votes read write out).number ≡ 0
    → standard_form (length votes) (votes_output votes read write out) ≡ votes_output votes read write out
unfolding standard_form
votes_own_form votes read write out e =
    let config = votes_output votes read write out in
    let c = claims.done votes read write out e in
    let v = (promise.valid_exactly (length votes) config).0 c.is_valid in
    let reads : (set : ℕ) → QuorumIn (read_set config) set ↔ Reaches votes read set =
    λ set. Iff.trans (Iff.symm (promise.holds_read_lem config set)) (c.read_exactly set) in
    let writes : (set : ℕ) → QuorumIn (write_set config) set ↔ Reaches votes write set =
    λ set. Iff.trans (Iff.symm (promise.holds_write_lem config set)) (c.write_exactly set) in
    config_same _ _ _ _
    (side-own votes read (read_set config) c.reads reads v.small v.reads)
    (side-own votes write (write_set config) c.writes writes v.small v.writes)
    ∙ sym (written votes read write out e)

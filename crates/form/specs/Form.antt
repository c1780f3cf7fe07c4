-- The standard form of a configuration (document 02, 2026-06): "drop a set that contains another of its side, keep one of equals, rise as numbers."
use Rattle.std.specs.Prelude.{◌≡◌, Bool, true, not, ◌&&◌, List, ℕ, ◌^◌, eqb}
use Rattle.basics.specs.Tests.{any_below}
use Rattle.basics.specs.Listing.{passing}
use Rattle.quorum.specs.Sets.{used}
use Rattle.quorum.specs.Configurations.{read_set, write_set, holds_place}
use Rattle.quorum.specs.Promise.{◌⊆◌}
use Rattle.form.specs.Sides.{config_bytes}

-- the set is one of a side's: it is used, and stands at a place
unfoldable pub is_set_of : (ℕ → ℕ) → ℕ → Bool
is_set_of side set = used set && any_below (λ k. eqb (side k) set) 8

-- "contains another of its side": it holds every station of a used set that is not the same set. (Of equals one is kept in `form_sets`.)
unfoldable pub contains_another : (ℕ → ℕ) → ℕ → Bool
contains_another side set = any_below (λ k. holds_place side set k && not (eqb (side k) set)) 8

-- "drop a set that contains another of its side"
unfoldable pub stays : (ℕ → ℕ) → ℕ → Bool
stays side set = is_set_of side set && not (contains_another side set)

-- "keep one of equals, rise as numbers": the sets that stay, of n stations, each once and rising
unfoldable pub form_sets : ℕ → (ℕ → ℕ) → List ℕ
form_sets n side = passing (stays side) (2 ^ n)

-- the standard form of a configuration of n stations: both sides so. It is asked of a valid one, and where a table is respelled of a target of zeros too
-- (Spellings.antt of `spelling`).
unfoldable pub standard_form : ℕ → List ℕ → List ℕ
standard_form n c = config_bytes (form_sets n (read_set c)) (form_sets n (write_set c))

-- a smallest one of the sets that pass: no other set within it passes
pub record SmallestOf (passes : ℕ → Bool) (set : ℕ) : Type 0 where
  pub enough : passes set ≡ true
  pub least : (b : ℕ) → b ⊆ set → passes b ≡ true → b ≡ set

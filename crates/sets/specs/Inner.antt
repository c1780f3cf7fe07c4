-- What inner functions of the code are held to: the sets of a side as a list, and whether they are held.
-- Not for the crates above: a reader needs `first_read` and the like, to which the public functions are proved equal.
use Rattle.std.specs.Prelude.{Bool, ◌&&◌, List, [], ◌∷◌, ℕ, Option, is_some}
use Rattle.std.specs.List.{position}
use Rattle.quorum.specs.Sets.{used, holds}

-- the sets of a side
abbrev pub eight : (ℕ → ℕ) → List ℕ
eight side = side 0 ∷ side 1 ∷ side 2 ∷ side 3 ∷ side 4 ∷ side 5 ∷ side 6 ∷ side 7 ∷ []

-- another set is used, and held by the set; the first of others that is; and whether one is
abbrev pub is_held : ℕ → ℕ → Bool
is_held other set = used other && holds set other

abbrev pub first_held : List ℕ → ℕ → Option ℕ
first_held others set = position (λ other. is_held other set) others

abbrev pub any_held : List ℕ → ℕ → Bool
any_held others set = is_some (first_held others set)

-- Worked examples, computed: the definitions run on small numbers.
use mathlib.Core.Path.{◌≡◌, refl}
use mathlib.Core.Bool.{Bool, true, false}
use mathlib.Core.List.{List, [], ◌∷◌, ◌++◌}
use Prim.Native.Nat.{ℕ}
use lib.ListN.{replicate}
use Rattle.std.specs.Prelude.{None, Some}
use Rattle.basics.specs.Tests.{all, all_below, any_below}
use Rattle.basics.specs.Bytes.{little_endian}
use Rattle.quorum.specs.Sets.{used, holds, shares, within}
use Rattle.quorum.specs.Configurations.{set_at, read_set, write_set, used_first, some_used, all_within, shares_all, all_share, validity, valid}
use Rattle.quorum.specs.Configurations.{holds_place, first_place, first_read, first_write, place_figure, holds_read, holds_write}

-- three sets of stations below 8 on a side
abbrev side : ℕ → ℕ → ℕ → List ℕ
side a b c = a ∷ 0 ∷ b ∷ 0 ∷ c ∷ 0 ∷ replicate 10 0

-- source 000, section 3: any two of three; read one, write all
abbrev majority : List ℕ
majority = side 3 5 6 ++ side 3 5 6

abbrev read_one : List ℕ
read_one = side 1 2 4 ++ side 7 0 0

checks : List Bool
checks =
    valid 3 majority ∷ valid 3 read_one ∷ valid 2 majority ∷ valid 17 majority
    ∷ valid 3 (side 1 0 0 ++ side 2 0 0) ∷ valid 3 (side 1 0 2 ++ side 3 0 0) ∷ valid 3 (side 0 0 0 ++ side 3 0 0)
    ∷ valid 3 (majority ++ 0 ∷ []) ∷ holds_read read_one 2 ∷ holds_write read_one 3 ∷ []

checked : checks ≡ true ∷ true ∷ false ∷ false ∷ false ∷ false ∷ false ∷ false ∷ true ∷ false ∷ []
unfolding checks all all_below any_below little_endian used holds shares within set_at read_set write_set used_first some_used all_within
    shares_all all_share validity valid holds_place first_place first_read first_write
checked = refl

places : first_read majority 7 ∷ first_read majority 6 ∷ first_write read_one 3 ∷ [] ≡ Some 0 ∷ Some 2 ∷ None ∷ []
unfolding little_endian used holds set_at read_set write_set holds_place first_place first_read first_write
places = refl

figures : place_figure (first_read majority 7) ∷ place_figure (first_read majority 6) ∷ place_figure (first_write read_one 3) ∷ [] ≡ 1 ∷ 3 ∷ 0 ∷ []
unfolding place_figure little_endian used holds set_at read_set write_set holds_place first_place first_read first_write
figures = refl

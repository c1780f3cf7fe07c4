-- Worked examples, computed: the form of a sheet, and the writer's numbers.
use mathlib.Core.Path.{◌≡◌, refl}
use mathlib.Core.List.{List, [], ◌∷◌, ◌++◌}
use Prim.Native.Nat.{ℕ}
use lib.ListN.{replicate}
use Rattle.basics.specs.Tests.{all, all_below, any_below}
use Rattle.basics.specs.Bytes.{little_endian, bytes_of}
use Rattle.basics.specs.Listing.{passing}
use Rattle.quorum.specs.Sets.{member, used, holds, shares, within}
use Rattle.quorum.specs.Configurations.{set_at, read_set, write_set, used_first, some_used, all_within, shares_all, all_share, validity, valid, holds_place}
use Rattle.form.specs.Sides.{places, side_bytes, config_bytes}
use Rattle.form.specs.Form.{is_set_of, contains_another, stays, form_sets, standard_form}
use Rattle.rules.specs.Rules.{first}
use Rattle.spelling.specs.Writer.{form_refusals, form_number, form_output}

-- a side of three sets, and one of a single set of 16 bits
abbrev side : ℕ → ℕ → ℕ → List ℕ
side a b c = a ∷ 0 ∷ b ∷ 0 ∷ c ∷ 0 ∷ replicate 10 0

abbrev blank : ℕ → List ℕ
blank k = replicate k 170

-- equals, sets that contain others, falling order; a set of station 8 behind one of stations 0 to 3
forms : form_output 3 (side 6 7 3 ++ side 7 2 2) (blank 32) ∷ form_output 9 ((0 ∷ 1 ∷ 15 ∷ 0 ∷ replicate 12 0) ++ (1 ∷ 1 ∷ replicate 14 0)) (blank 32) ∷ []
    ≡ (side 3 6 0 ++ side 2 0 0) ∷ ((15 ∷ 0 ∷ 0 ∷ 1 ∷ replicate 12 0) ++ (1 ∷ 1 ∷ replicate 14 0)) ∷ []
unfolding all all_below any_below little_endian bytes_of passing member used holds shares within
    set_at read_set write_set used_first some_used all_within shares_all all_share validity valid holds_place
    places side_bytes config_bytes is_set_of contains_another stays form_sets standard_form first form_refusals form_number form_output
forms = refl

-- the numbers: a false n or output first, then a configuration that is not valid, of another length or with a set that would be dropped
numbers : form_number 0 (side 1 0 0 ++ side 1 0 0) (blank 32) ∷ form_number 17 (side 1 0 0 ++ side 1 0 0) (blank 32)
    ∷ form_number 3 (side 1 0 0 ++ side 1 0 0) (blank 31) ∷ form_number 0 [] (blank 32) ∷ form_number 3 [] (blank 32)
    ∷ form_number 2 (side 1 5 0 ++ side 1 0 0) (blank 32) ∷ form_number 3 (side 1 5 0 ++ side 1 0 0) (blank 32) ∷ []
    ≡ 2 ∷ 2 ∷ 2 ∷ 2 ∷ 3 ∷ 3 ∷ 0 ∷ []
unfolding all all_below any_below little_endian member used holds shares within
    set_at read_set write_set used_first some_used all_within shares_all all_share validity valid holds_place first form_refusals form_number
numbers = refl

refusal : form_output 2 (side 1 5 0 ++ side 1 0 0) (blank 32) ≡ blank 32
unfolding all all_below any_below little_endian member used holds shares within
    set_at read_set write_set used_first some_used all_within shares_all all_share validity valid holds_place first form_refusals form_number form_output
refusal = refl

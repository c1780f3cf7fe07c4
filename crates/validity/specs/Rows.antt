-- Configurations that stand a stride apart, and how the code tests them. Not for the crates above but soundness: a reader needs `valid`, to which `is_valid` is
-- proved equal. The bytes named here lie within the list.
use Rattle.std.specs.Prelude.{◌≡◌, Bool, true, List, ℕ, ◌+◌, ◌*◌, get_or, eqb}
use Rattle.basics.specs.Tests.{all_below}
use Rattle.basics.specs.Bytes.{part}
use Rattle.quorum.specs.Configurations.{config_size, valid}

-- the bytes at a place of a list are a valid configuration
abbrev pub valid_at : ℕ → List ℕ → ℕ → Bool
valid_at n bytes at = valid n (part bytes at config_size)

-- so are the bytes at that place, a stride further on, and so on: as many times as the count says
unfoldable pub valid_to : ℕ → List ℕ → ℕ → ℕ → ℕ → Bool
valid_to n bytes at stride count = all_below (λ k. valid_at n bytes (at + stride * k)) count

-- the 32 bytes a stride further on are those at the place
unfoldable pub same_again : List ℕ → ℕ → ℕ → Bool
same_again bytes at stride = all_below (λ i. eqb (get_or bytes (at + stride + i) 0) (get_or bytes (at + i) 0)) config_size

-- the byte one stride further on, two, and so on to eight is that at the place
unfoldable pub same_lane : List ℕ → ℕ → ℕ → Bool
same_lane bytes at stride = all_below (λ j. eqb (get_or bytes (at + stride + stride * j) 0) (get_or bytes at 0)) 8

-- each of the next eight times 32 bytes, a stride apart, are those at the place
unfoldable pub same_block : List ℕ → ℕ → ℕ → Bool
same_block bytes at stride = all_below (λ i. same_lane bytes (at + i) stride) config_size

-- if the first `few` configurations are valid, so are the first `more`, for any number of stations
abbrev pub StillValid : List ℕ → ℕ → ℕ → ℕ → ℕ → Type 0
StillValid bytes at stride few more = (n : ℕ) → valid_to n bytes at stride few ≡ true → valid_to n bytes at stride more ≡ true

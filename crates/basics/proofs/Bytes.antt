-- Numbers in bytes: one byte after the other, and by halves.
use mathlib.Core.Path.{◌≡◌, refl}
use mathlib.Core.List.{List, [], ◌∷◌}
use Prim.Native.Nat.{ℕ, zero, suc, ◌+◌, ◌*◌, ◌^◌}
use native.Mathlib.Omega.{arith}
use native.Mathlib.Nat.{zero-add, add-zero, suc-add, pow-succ', mul_assoc}
use native.Mathlib.Numerals.{add-one}
use lib.ListN.{get_or}
use lib.Seq.{take-nil, drop-nil}
use Rattle.basics.specs.Bytes.{little_endian, number}

pub number_none : (t : List ℕ) (at : ℕ) → number t at 0 ≡ 0
unfolding little_endian
number_none t at = refl

-- a number is its first byte and, 256 times, the number in the bytes after it; past the end every byte counts as 0
pub number-suc : (t : List ℕ) (at k : ℕ) → number t at (suc k) ≡ get_or t at 0 + 256 * number t (suc at) k
unfolding little_endian
number-suc [] at k = rw (drop-nil at, take-nil k)
number-suc (b ∷ t) zero k = refl
number-suc (b ∷ t) (suc at) k = number-suc t at k

-- a number of two bytes
pub number_two : (t : List ℕ) (at : ℕ) → number t at 2 ≡ get_or t at 0 + 256 * get_or t (at + 1) 0
number_two t at = rw (number-suc t at 1, number-suc t (suc at) 0, number_none, add-one) (omega arith)

-- a number of one byte
pub number_one : (t : List ℕ) (at : ℕ) → number t at 1 ≡ get_or t at 0
number_one t at = rw (number-suc t at 0, number_none t (suc at)) (omega arith)

-- a number of j + k bytes is that of the first j and, 256 ^ j times, that of the k after them
pub number_split : (t : List ℕ) (at j k : ℕ) → number t at (j + k) ≡ number t at j + 256 ^ j * number t (at + j) k
number_split t at zero k = rw (zero-add k, number_none t at, add-zero at) (omega arith)
number_split t at (suc j) k =
    let e : at + suc j ≡ suc at + j = omega arith in
    let m = mul_assoc 256 (256 ^ j) (number t (suc at + j) k) in
    rw (suc-add j k, number-suc t at (j + k), number-suc t at j, number_split t (suc at) j k, e, pow-succ' 256 j, m) (omega arith)

-- The library's numbers in bytes, `from_le_bytes` and `to_le_bytes`, as the definitions have them.
use mathlib.Core.Path.{◌≡◌, refl, sym, ap, ◌∙◌}
use mathlib.Core.List.{List}
use Prim.Native.Nat.{ℕ, zero, suc, ◌/◌, ◌%◌, ◌^◌}
use native.Mathlib.Omega.{arith}
use native.Mathlib.Nat.{le_of_eq, div-div-eq-div-mul, zero-add, mul_comm, pow-succ'}
use native.Mathlib.Numerals.{add-one}
use lib.ListN.{length, get_or}
use lib.Seq.{take_all}
use Rattle.std.specs.Int.{byte_worth, byte_at, bytes_low_first, sum_through}
use Rattle.basics.specs.Bytes.{number, little_endian, bytes_of}
use Rattle.basics.proofs.Bytes.{number_one, number_split}

-- what is read, byte by byte
sum_read : (bytes : List ℕ) (k : ℕ) → sum_through (λ i. byte_worth i (get_or bytes i 0)) k ≡ number bytes 0 (suc k)
sum_read bytes zero = sym (number_one bytes 0)
sum_read bytes (suc k) =
    rw (sum_read bytes k, ← add-one (suc k), number_split bytes 0 (suc k) 1, zero-add (suc k), number_one bytes (suc k))
    (omega (arith, mul_comm (256 ^ suc k) (get_or bytes (suc k) 0)))

pub number_read : (bytes : List ℕ) (k : ℕ) → length bytes ≡ suc k → sum_through (λ i. byte_worth i (get_or bytes i 0)) k ≡ little_endian bytes
number_read bytes k long = sum_read bytes k ∙ ap little_endian (take_all (suc k) bytes (le_of_eq long))

-- what is written, byte by byte
byte_written : (i x : ℕ) → byte_at i x ≡ (x / 256 ^ i) % 256
byte_written zero x = omega arith
byte_written (suc i) x = refl

bytes_written : (i k x : ℕ) → bytes_low_first i k x ≡ bytes_of k (x / 256 ^ i)
unfolding bytes_of
bytes_written i zero x = refl
bytes_written i (suc k) x =
    let e : x / 256 ^ suc i ≡ x / 256 ^ i / 256 = rw (div-div-eq-div-mul x (256 ^ i) 256, pow-succ' 256 i, mul_comm 256 (256 ^ i)) in
    rw (byte_written i x, bytes_written (suc i) k x, e)

pub number_written : (k x : ℕ) → bytes_low_first 0 k x ≡ bytes_of k x
number_written k x = let e : x / 256 ^ 0 ≡ x = omega arith in bytes_written 0 k x ∙ ap (bytes_of k) e

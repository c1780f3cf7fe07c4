-- Hexadecimal, upper-case (document 01, "Frames"): the digits are the characters `0` to `9`, bytes 48 to 57, and `A` to `F`,
-- bytes 65 to 70. Two digits are a byte.
use Rattle.std.specs.Prelude.{Bool, true, cond, ◌&&◌, ◌||◌, List, [], ◌∷◌, ℕ, ◌+◌, ◌-◌, ◌*◌, ◌/◌, ◌%◌, ltb, leb}

-- a character is an upper-case hexadecimal digit
unfoldable pub is_digit : ℕ → Bool
is_digit c = (leb 48 c && leb c 57) || (leb 65 c && leb c 70)

unfoldable pub all_digits : List ℕ → Bool
all_digits [] = true
all_digits (c ∷ rest) = is_digit c && all_digits rest

-- ---- from characters to bytes
-- the value of a digit
unfoldable pub value_of : ℕ → ℕ
value_of c = cond (leb c 57) (c - 48) (c - 55)

-- the byte of two digits; 00 if one of them is none
unfoldable pub byte_of : ℕ → ℕ → ℕ
byte_of high low = cond (is_digit high && is_digit low) (16 * value_of high + value_of low) 0

-- the bytes of characters, two each; a single character left over is dropped
unfoldable pub bytes_in : List ℕ → List ℕ
bytes_in [] = []
bytes_in (high ∷ []) = []
bytes_in (high ∷ low ∷ rest) = byte_of high low ∷ bytes_in rest

-- ---- from bytes to characters
-- the digit of a value below 16
unfoldable pub digit_of : ℕ → ℕ
digit_of value = cond (ltb value 10) (48 + value) (55 + value)

-- the two characters of each byte
unfoldable pub hex_of : List ℕ → List ℕ
hex_of [] = []
hex_of (byte ∷ rest) = digit_of (byte / 16) ∷ digit_of (byte % 16) ∷ hex_of rest

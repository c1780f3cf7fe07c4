-- Parts of a list of bytes, the numbers in them, and what is written into it: "Numbers are least significant byte first."
use Rattle.std.specs.Prelude.{List, [], ◌∷◌, ◌++◌, ℕ, zero, suc, ◌+◌, ◌*◌, ◌/◌, ◌%◌, ◌<◌, length, take, drop}

-- the bytes from a place on, as many as the width says; fewer where the list ends before
abbrev pub part : List ℕ → ℕ → ℕ → List ℕ
part t at width = take width (drop at t)

unfoldable pub little_endian : List ℕ → ℕ
little_endian [] = 0
little_endian (byte ∷ rest) = byte + 256 * little_endian rest

-- the number in the bytes from a place on
abbrev pub number : List ℕ → ℕ → ℕ → ℕ
number t at width = little_endian (part t at width)

-- the lowest bytes of a number, as many as the width says
unfoldable pub bytes_of : ℕ → ℕ → List ℕ
bytes_of zero x = []
bytes_of (suc width) x = x % 256 ∷ bytes_of width (x / 256)

-- bytes written from a place on, within the list; every other byte stays as it was
unfoldable pub over : List ℕ → ℕ → List ℕ → List ℕ
over t at bytes = take at t ++ (bytes ++ drop (at + length bytes) t)

-- what a slice of bytes can hold
abbrev pub AreBytes : List ℕ → Type 0
AreBytes [] = Unit {0}
AreBytes (byte ∷ rest) = (byte < 256) × AreBytes rest

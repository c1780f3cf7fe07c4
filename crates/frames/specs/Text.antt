-- The characters of a text, for worked examples.
use Rattle.std.specs.Prelude.{List, [], ◌∷◌, ℕ, zero, suc}
use Prim.Native.Char.{code}
use Prim.Native.String.{String, len, char_at}

unfoldable pub chars : String → ℕ → ℕ → List ℕ
chars s i zero = []
chars s i (suc n) = code (char_at s i) ∷ chars s (suc i) n

unfoldable pub text : String → List ℕ
text s = chars s 0 (len s)

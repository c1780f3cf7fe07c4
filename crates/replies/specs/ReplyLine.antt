-- Reply lines (document 01, "Frames").
use Rattle.std.specs.Prelude.{◌≡◌, List, [], ◌∷◌, ◌++◌, ℕ, ◌+◌, ◌*◌, ◌<◌}
use Rattle.basics.specs.Bytes.{number, bytes_of}
use Rattle.rules.specs.Passed.{Word}
use Rattle.rules.specs.declared.Reply.{Reply}
use Rattle.frames.specs.Hex.{hex_of}

-- "A reply is the call byte, the number, three figures of 8 bytes."
abbrev pub reply_size : ℕ
reply_size = 26

unfoldable pub reply_bytes : ℕ → Reply → List ℕ
reply_bytes call r =
    call ∷ (bytes_of 1 r.number ++ (bytes_of 8 r.first ++ (bytes_of 8 r.second ++ bytes_of 8 r.third)))

-- "A line ends with byte 0A, read or printed."
abbrev pub line_end : ℕ
line_end = 10

-- two characters a byte, and the line end
abbrev pub reply_line_size : ℕ
reply_line_size = 2 * reply_size + 1

unfoldable pub reply_line : ℕ → Reply → List ℕ
reply_line call r = hex_of (reply_bytes call r) ++ (line_end ∷ [])

-- what a reply line has room for, and what it shows
abbrev pub Showable : Reply → Type 0
Showable r = (r.number < 256) × Word r.first × Word r.second × Word r.third

abbrev pub Shows : List ℕ → ℕ → Reply → Type 0
Shows bytes call r =
    (number bytes 0 1 ≡ call) × (number bytes 1 1 ≡ r.number) × (number bytes 2 8 ≡ r.first) × (number bytes 10 8 ≡ r.second)
    × (number bytes 18 8 ≡ r.third)

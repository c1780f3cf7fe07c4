-- What the functions of the frame reader compute: of characters; and of a line a code, and the argument bytes at the front of a buffer with
-- room for those of any frame. A reader of the claims needs `call_of`, which these stand for (`frame_call` in proofs/Reading.antt).
use Rattle.std.specs.Prelude.{◌≡◌, cond, ◌&&◌, List, ℕ, ◌-◌, length, take, Option, Some, None}
use Rattle.dispatch.specs.Dispatch.{longest}
use Rattle.frames.specs.Hex.{is_digit, value_of, byte_of}
use Rattle.frames.specs.Frame.{call_byte, is_frame}

-- ---- digits, and two of them: the value of a digit, and the byte of two; none of any other character
unfoldable pub value_in : ℕ → Option ℕ
value_in c = cond (is_digit c) (Some (value_of c)) None

unfoldable pub byte_in : ℕ → ℕ → Option ℕ
byte_in high low = cond (is_digit high && is_digit low) (Some (byte_of high low)) None

-- ---- the bytes behind byte 0 in the longest frame
abbrev pub most_arguments : ℕ
most_arguments = longest - 1

-- the code of a frame; 00 of a line that is none
unfoldable pub code_in : List ℕ → ℕ
code_in line = cond (is_frame line) (call_byte line) 0

-- these bytes stand at the front of a buffer
abbrev pub Leads : List ℕ → List ℕ → Type 0
Leads bytes buffer = take (length bytes) buffer ≡ bytes

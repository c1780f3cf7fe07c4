-- Worked examples, computed: frames of document 01, and lines that are none.
use mathlib.Core.Path.{◌≡◌, refl}
use mathlib.Core.List.{List, [], ◌∷◌, ◌++◌}
use mathlib.Core.Option.{Option, none, some}
use Prim.Native.Nat.{ℕ}
use lib.ListN.{replicate}
use Rattle.basics.specs.Bytes.{little_endian}
use Rattle.rules.specs.Calls.{Call, lay, open_read, poll, put, commit, reach}
use Rattle.frames.specs.Hex.{is_digit, all_digits, value_of, byte_of, bytes_in}
use Rattle.dispatch.specs.Dispatch.{frame_length, calls_of, call_at}
use Rattle.frames.specs.Frame.{call_byte, is_frame, call_of}
use Rattle.frames.specs.Text.{chars, text}

-- "For three stations, one item, the pair sets 0003, 0005, 0006 on both sides and value 500, the lay frame is .."
lay_line : List ℕ
lay_line = text "010301F4010000000000000300050006000000000000000000000003000500060000000000000000000000"

pairs : List ℕ
pairs = 3 ∷ 0 ∷ 5 ∷ 0 ∷ 6 ∷ 0 ∷ replicate 10 0

calls : call_of lay_line ∷ call_of (text "0200") ∷ call_of (text "0503") ∷ call_of (text "07") ∷ call_of (text "060A02") ∷ call_of (text "0A1F") ∷ []
    ≡ some (lay 3 1 500 (pairs ++ pairs)) ∷ some (open_read 0) ∷ some (poll 3) ∷ some commit ∷ some (put 10 2) ∷ some (reach 31) ∷ []
unfolding text chars lay_line pairs little_endian is_digit all_digits value_of byte_of bytes_in frame_length call_byte is_frame calls_of call_at call_of
calls = refl

-- lines that are no frames, with the call byte that is shown: empty, odd, lower case, a space, a carriage return, too short, too
-- long, an unknown code, no digits
false_lines : List (List ℕ)
false_lines =
    text "" ∷ text "2" ∷ text "020" ∷ text "0a00" ∷ text "02 0" ∷ text "0200\r" ∷ text "02" ∷ text "020000" ∷ text "0B00" ∷ text "FF"
    ∷ text "zz" ∷ text " 0200" ∷ text "0g" ∷ []

each_call : List (List ℕ) → List (Option Call)
each_call [] = []
each_call (line ∷ lines) = call_of line ∷ each_call lines

each_byte : List (List ℕ) → List ℕ
each_byte [] = []
each_byte (line ∷ lines) = call_byte line ∷ each_byte lines

no_calls : each_call false_lines ≡ replicate 13 none
unfolding text chars false_lines each_call is_digit all_digits value_of byte_of bytes_in frame_length call_byte is_frame call_of
no_calls = refl

shown_bytes : each_byte false_lines ≡ 0 ∷ 0 ∷ 2 ∷ 0 ∷ 2 ∷ 2 ∷ 2 ∷ 2 ∷ 11 ∷ 255 ∷ 0 ∷ 0 ∷ 0 ∷ []
unfolding text chars false_lines each_byte is_digit value_of byte_of bytes_in call_byte
shown_bytes = refl

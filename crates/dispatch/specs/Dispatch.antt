-- Calls by code (document 01, "Frames"): the call that a code and its argument bytes stand for, its reply and the table after it.
use Rattle.std.specs.Prelude.{cond, List, [], ◌∷◌, ℕ, ◌-◌, ltb, length, get_or}
use Rattle.std.proofs.Math.Option.{Option, none, some}
use Rattle.basics.specs.Bytes.{part, number}
use Rattle.quorum.specs.Configurations.{config_size}
use Rattle.layout.specs.View.{Table}
use Rattle.rules.specs.Calls.{Call, lay, open_read, open_write, open_change, poll, put, commit, abandon, link, reach, diagnose, plan}
use Rattle.rules.specs.Reply.{reply, after}
use Rattle.rules.specs.declared.Reply.{Reply}

-- "Lengths in bytes by code, kept as a table: 43, 2, 10, 34, 2, 3, 1, 1, 3, 2." Code 00 has no frame; 0B and 0C
-- are document 02's, 2026-04 and 2026-05.
abbrev pub lengths : List ℕ
lengths = 0 ∷ 43 ∷ 2 ∷ 10 ∷ 34 ∷ 2 ∷ 3 ∷ 1 ∷ 1 ∷ 3 ∷ 2 ∷ 1 ∷ 2 ∷ []

-- the longest of them
abbrev pub longest : ℕ
longest = 43

-- the length of a code's frames; 0 if it has none
unfoldable pub frame_length : ℕ → ℕ
frame_length code = get_or lengths code 0

-- "Byte 0 is the call: 01 lay, 02 open read, 03 open write, 04 open change, 05 poll, 06 put, 07 commit, 08 abandon, 09 link,
-- 0A reach; then the arguments in the order above, one byte each, values 8 bytes, configurations 32." And "A new call 0B, no argument" and "A call 0C
-- with an item" (document 02, 2026-04 and 2026-05). By code, from 00 on, of the bytes behind byte 0.
unfoldable pub calls_of : List ℕ → List (Option Call)
calls_of arguments =
    none
    ∷ some (lay (number arguments 0 1) (number arguments 1 1) (number arguments 2 8) (part arguments 10 config_size))
    ∷ some (open_read (number arguments 0 1))
    ∷ some (open_write (number arguments 0 1) (number arguments 1 8))
    ∷ some (open_change (number arguments 0 1) (part arguments 1 config_size))
    ∷ some (poll (number arguments 0 1))
    ∷ some (put (number arguments 0 1) (number arguments 1 1))
    ∷ some commit
    ∷ some abandon
    ∷ some (link (number arguments 0 1) (number arguments 1 1))
    ∷ some (reach (number arguments 0 1))
    ∷ some diagnose
    ∷ some (plan (number arguments 0 1))
    ∷ []

-- The call of a code and argument bytes; a code that has none, or too few bytes, stand for no call. Bytes behind the arguments are not read. (A
-- line has just the bytes of its frame: `is_frame`.)
unfoldable pub call_at : ℕ → List ℕ → Option Call
call_at code arguments = cond (ltb (length arguments) (frame_length code - 1)) none (get_or (calls_of arguments) code none)

-- ---- what a call replies and leaves; "Any other line, an empty one too, gets 12"
abbrev pub false_frame : Reply
false_frame = record { number = 12; first = 0; second = 0; third = 0 }

abbrev pub reply_or : Table → Option Call → Reply
reply_or t none = false_frame
reply_or t (some c) = reply t c

abbrev pub after_or : Table → Option Call → Table
after_or t none = t
after_or t (some c) = after t c

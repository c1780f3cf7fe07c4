-- Frames (document 01, "Frames"): a line is a frame, and stands for a call, or is none.
use Rattle.std.specs.Prelude.{◌≡◌, Bool, cond, ◌&&◌, List, [], ◌∷◌, ◌++◌, ℕ, ◌*◌, ◌<◌, ltb, eqb, length, get_or, drop}
use Rattle.std.proofs.Math.Option.{Option, none}
use Rattle.basics.specs.Bytes.{AreBytes, bytes_of}
use Rattle.quorum.specs.Configurations.{config_size}
use Rattle.rules.specs.Calls.{Call, lay, open_read, open_write, open_change, poll, put, commit, abandon, link, reach, diagnose, plan}
use Rattle.rules.specs.Passed.{Word}
use Rattle.dispatch.specs.Dispatch.{frame_length, call_at}
use Rattle.frames.specs.Hex.{all_digits, bytes_in}

-- "Byte 0 is the call"; of any other line "its call byte is shown if two upper-case hexadecimal digits lead it, else 00"
unfoldable pub call_byte : List ℕ → ℕ
call_byte line = get_or (bytes_in line) 0 0

-- "upper-case hexadecimal, one frame a line": as many bytes as the table has for its call byte, and nothing else
unfoldable pub is_frame : List ℕ → Bool
is_frame line =
    ltb 0 (frame_length (call_byte line)) && eqb (length line) (2 * frame_length (call_byte line)) && all_digits line

-- the argument bytes: those behind byte 0
abbrev pub arguments_in : List ℕ → List ℕ
arguments_in line = drop 1 (bytes_in line)

-- the call of a line that is a frame
unfoldable pub call_of : List ℕ → Option Call
call_of line = cond (is_frame line) (call_at (call_byte line) (arguments_in line)) none

-- ---- and back: the bytes of a call's frame, if its arguments fit
unfoldable pub frame_of : Call → List ℕ
frame_of (lay n m value config) = 1 ∷ n ∷ m ∷ (bytes_of 8 value ++ config)
frame_of (open_read i) = 2 ∷ i ∷ []
frame_of (open_write i value) = 3 ∷ i ∷ bytes_of 8 value
frame_of (open_change i target) = 4 ∷ i ∷ target
frame_of (poll s) = 5 ∷ s ∷ []
frame_of (put s sort) = 6 ∷ s ∷ sort ∷ []
frame_of commit = 7 ∷ []
frame_of abandon = 8 ∷ []
frame_of (link s state) = 9 ∷ s ∷ state ∷ []
frame_of (reach i) = 10 ∷ i ∷ []
frame_of diagnose = 11 ∷ []
frame_of (plan i) = 12 ∷ i ∷ []

-- "one byte each, values 8 bytes, configurations 32"
abbrev pub IsByte : ℕ → Type 0
IsByte x = x < 256

abbrev pub IsConfig : List ℕ → Type 0
IsConfig config = (length config ≡ config_size) × AreBytes config

abbrev pub Framable : Call → Type 0
Framable (lay n m value config) = IsByte n × IsByte m × Word value × IsConfig config
Framable (open_read i) = IsByte i
Framable (open_write i value) = IsByte i × Word value
Framable (open_change i target) = IsByte i × IsConfig target
Framable (poll s) = IsByte s
Framable (put s sort) = IsByte s × IsByte sort
Framable commit = Unit {0}
Framable abandon = Unit {0}
Framable (link s state) = IsByte s × IsByte state
Framable (reach i) = IsByte i
Framable diagnose = Unit {0}
Framable (plan i) = IsByte i

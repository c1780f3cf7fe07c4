-- The frame of a call stands for it, and a line that stands for a call is its frame.
use mathlib.Core.Path.{◌≡◌, refl, sym, ap, subst, ◌∙◌}
use mathlib.Core.Bool.{true}
use mathlib.Core.List.{List, [], ◌∷◌, ◌++◌, append-nil}
use mathlib.Core.Option.{Option, none, some}
use Prim.Native.Nat.{ℕ, suc, ◌+◌, ◌*◌, ◌/◌, ◌%◌, ◌≤◌, ◌<◌}
use native.Mathlib.Omega.{arith}
use lib.ListN.{length, get_or, take, drop, length-drop, drop_of_length-le, take-append-drop}
use lib.Seq.{take_all, drop-cons, drop-drop}
use Rattle.basics.specs.Bytes.{part, little_endian, number, AreBytes, bytes_of}
use Rattle.quorum.specs.Configurations.{config_size}
use Rattle.basics.proofs.Bytes.{number_one}
use Rattle.basics.proofs.Tests.{◌also◌}
use Rattle.basics.proofs.Parts.{part_length, read_bytes, bytes_of_lem, bytes_append, bytes_drop, bytes_part, number_lt, number_bytes}
use Rattle.rules.specs.Calls.{Call, lay, open_read, open_write, open_change, poll, put, commit, abandon, link, reach, diagnose, plan}
use Rattle.dispatch.specs.Dispatch.{frame_length, calls_of, call_at}
use Rattle.dispatch.proofs.Entries.{Each, each_at}
use Rattle.dispatch.proofs.Codes.{enough, at_code, large}
use Rattle.frames.specs.Hex.{all_digits, bytes_in, hex_of}
use Rattle.frames.specs.Frame.{call_byte, arguments_in, call_of, frame_of, IsByte, IsConfig, Framable}
use Rattle.frames.proofs.Digits.{digit_is_digit, hex_length, read_back, shown_again, bytes_in_lem}
use Rattle.frames.proofs.FrameLines.{is_frame_lem, framed_call}
use Rattle.frames.proofs.Reading.{arguments_length, first_of}

-- ---- the frame of a call stands for it
hex_digits : (bytes : List ℕ) → AreBytes bytes → all_digits (hex_of bytes) ≡ true
unfolding all_digits hex_of
hex_digits [] h = refl
hex_digits (b ∷ rest) h =
    let l = h.0 in
    rw (digit_is_digit (b / 16) (omega arith), digit_is_digit (b % 16) (omega arith), hex_digits rest h.1)

-- the line of a code and as many argument bytes as its frames have
call_of_bytes : (code : ℕ) (arguments : List ℕ) → AreBytes (code ∷ arguments) → length arguments + 1 ≡ frame_length code
    → call_of (hex_of (code ∷ arguments)) ≡ get_or (calls_of arguments) code none
unfolding call_of call_byte
call_of_bytes code arguments h e =
    let b = read_back (code ∷ arguments) h in
    let line = hex_of (code ∷ arguments) in
    let has : 0 < frame_length (get_or (bytes_in line) 0 0) = rw b (omega arith) in
    let long : length line ≡ 2 * frame_length (get_or (bytes_in line) 0 0) = rw b (hex_length (code ∷ arguments) ∙ omega arith) in
    rw (is_frame_lem line (record { has_call = has; its_length = long; digits = hex_digits (code ∷ arguments) h }), b)
    (enough code arguments (omega arith))

one_byte : (x : ℕ) → little_endian (x ∷ []) ≡ x
one_byte x = number_one (x ∷ []) 0

config : (c : List ℕ) → IsConfig c → take config_size c ≡ c
config c h = take_all config_size c (omega (arith, h.0))

pub has_frame : (c : Call) → Framable c → call_of (hex_of (frame_of c)) ≡ some c
unfolding frame_of calls_of frame_length bytes_of
has_frame (lay n m value c) h =
    let bytes = bytes_append (bytes_of 8 value) c (bytes_of_lem 8 value) h.3.1 in
    call_of_bytes 1 (n ∷ m ∷ (bytes_of 8 value ++ c)) (omega arith, (h.0, (h.1, bytes))) (omega (arith, h.3.0))
    ∙ rw (one_byte n, one_byte m, read_bytes 8 value h.2, config c h.3)
has_frame (open_read i) h = call_of_bytes 2 (i ∷ []) (omega arith, (h, tt)) refl ∙ rw (one_byte i)
has_frame (open_write i value) h =
    call_of_bytes 3 (i ∷ bytes_of 8 value) (omega arith, (h.0, bytes_of_lem 8 value)) refl ∙ rw (one_byte i, read_bytes 8 value h.1)
has_frame (open_change i c) h =
    call_of_bytes 4 (i ∷ c) (omega arith, (h.0, h.1.1)) (omega (arith, h.1.0)) ∙ rw (one_byte i, config c h.1)
has_frame (poll s) h = call_of_bytes 5 (s ∷ []) (omega arith, (h, tt)) refl ∙ rw (one_byte s)
has_frame (put s sort) h = call_of_bytes 6 (s ∷ sort ∷ []) (omega arith, (h.0, (h.1, tt))) refl ∙ rw (one_byte s, one_byte sort)
has_frame commit h = call_of_bytes 7 [] (omega arith, tt) refl
has_frame abandon h = call_of_bytes 8 [] (omega arith, tt) refl
has_frame (link s state) h = call_of_bytes 9 (s ∷ state ∷ []) (omega arith, (h.0, (h.1, tt))) refl ∙ rw (one_byte s, one_byte state)
has_frame (reach i) h = call_of_bytes 10 (i ∷ []) (omega arith, (h, tt)) refl ∙ rw (one_byte i)
has_frame diagnose h = call_of_bytes 11 [] (omega arith, tt) refl
has_frame (plan i) h = call_of_bytes 12 (i ∷ []) (omega arith, (h, tt)) refl ∙ rw (one_byte i)

-- ---- a line that stands for a call is its frame
abbrev FrameIs : List ℕ → ℕ → Option Call → Type 0
FrameIs arguments code none = Unit {0}
FrameIs arguments code (some c) = (frame_of c ≡ code ∷ arguments) × Framable c

module _ (arguments : List ℕ) (h : AreBytes arguments) where
  -- what stands from a place on: one byte, a value, a configuration, or nothing, and what is behind it
  byte_here : (at : ℕ) (rest : List ℕ) → at < length arguments → drop (suc at) arguments ≡ rest
      → drop at arguments ≡ number arguments at 1 ∷ rest
  byte_here at rest l e = drop-cons arguments at 0 l ∙ rw (e, number_one arguments at)

  value_here : (at : ℕ) (rest : List ℕ) → at + 8 ≤ length arguments → drop (at + 8) arguments ≡ rest
      → drop at arguments ≡ bytes_of 8 (number arguments at 8) ++ rest
  value_here at rest l e =
      rw (number_bytes arguments at 8 h l) (rw (← e, ← drop-drop 8 at arguments) (sym (take-append-drop 8 (drop at arguments))))

  config_here : (at : ℕ) → length arguments ≡ at + config_size → drop at arguments ≡ part arguments at config_size
  config_here at e = sym (take_all config_size (drop at arguments) (simp length-drop (omega arith)))

  end_here : (at : ℕ) → length arguments ≡ at → drop at arguments ≡ []
  end_here at e = drop_of_length-le arguments {i = at} (omega arith)

  byte_only : length arguments + 1 ≡ 2 → arguments ≡ number arguments 0 1 ∷ []
  byte_only e = byte_here 0 [] (omega arith) (end_here 1 (omega arith))

  two_bytes : length arguments + 1 ≡ 3 → arguments ≡ number arguments 0 1 ∷ number arguments 1 1 ∷ []
  two_bytes e = byte_here 0 _ (omega arith) (byte_here 1 [] (omega arith) (end_here 2 (omega arith)))

  value_only : (at : ℕ) → length arguments ≡ at + 8 → drop at arguments ≡ bytes_of 8 (number arguments at 8)
  value_only at e = value_here at [] (omega arith) (end_here (at + 8) e) ∙ append-nil (bytes_of 8 (number arguments at 8))

  leads : (code : ℕ) {l : List ℕ} → arguments ≡ l → code ∷ l ≡ code ∷ arguments
  leads code e = ap (λ x. code ∷ x) (sym e)

  small : (at : ℕ) → IsByte (number arguments at 1)
  small at = let l = number_lt arguments at 1 h in omega arith

  whole : (at : ℕ) → length arguments ≡ at + config_size → IsConfig (part arguments at config_size)
  whole at e = (part_length arguments at config_size (omega arith), bytes_part arguments at config_size h)

  frames_are : Each (λ code o. length arguments + 1 ≡ frame_length code → FrameIs arguments code o) (calls_of arguments)
  unfolding calls_of frame_length frame_of
  frames_are =
      (λ e. tt)
      also (λ e.
      let n = config_here 10 (omega arith) in
      let parts = byte_here 0 _ (omega arith) (byte_here 1 _ (omega arith) (value_here 2 _ (omega arith) n)) in
      (leads 1 parts, (small 0, small 1, large arguments h 2, whole 10 (omega arith))))
      also (λ e. (leads 2 (byte_only e), small 0))
      also (λ e. (leads 3 (byte_here 0 _ (omega arith) (value_only 1 (omega arith))), (small 0, large arguments h 1)))
      also (λ e. (leads 4 (byte_here 0 _ (omega arith) (config_here 1 (omega arith))), (small 0, whole 1 (omega arith))))
      also (λ e. (leads 5 (byte_only e), small 0))
      also (λ e. (leads 6 (two_bytes e), (small 0, small 1)))
      also (λ e. (leads 7 (end_here 0 (omega arith)), tt))
      also (λ e. (leads 8 (end_here 0 (omega arith)), tt))
      also (λ e. (leads 9 (two_bytes e), (small 0, small 1)))
      also (λ e. (leads 10 (byte_only e), small 0))
      also (λ e. (leads 11 (end_here 0 (omega arith)), tt))
      also (λ e. (leads 12 (byte_only e), small 0))
      also tt

frame_is : (code : ℕ) (arguments : List ℕ) → AreBytes arguments → length arguments + 1 ≡ frame_length code → (c : Call)
    → call_at code arguments ≡ some c → (frame_of c ≡ code ∷ arguments) × Framable c
frame_is code arguments h l c e =
    subst (FrameIs arguments code) (at_code code arguments c e)
    (each_at (λ code o. length arguments + 1 ≡ frame_length code → FrameIs arguments code o) (calls_of arguments) none (frames_are arguments h)
    (λ k past _. tt) code l)

pub is_its_frame : (line : List ℕ) (c : Call) → call_of line ≡ some c → (line ≡ hex_of (frame_of c)) × Framable c
is_its_frame line c e =
    let f = framed_call line c e in
    let bytes = bytes_in line in
    let n = frame_length (call_byte line) in
    let whole : bytes ≡ call_byte line ∷ arguments_in line = first_of line f.0 in
    let i = frame_is (call_byte line) (arguments_in line) (bytes_drop 1 bytes (bytes_in_lem line)) (arguments_length line f.0) c f.1 in
    (sym (ap hex_of (i.0 ∙ sym whole) ∙ shown_again line n f.0.its_length f.0.digits), i.1)

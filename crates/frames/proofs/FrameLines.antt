-- Lines that are frames: what is known of one, and its call.
use mathlib.Core.Path.{◌≡◌, refl}
use mathlib.Core.Bool.{Bool, true, false, cond, ◌&&◌}
use mathlib.Core.List.{List, [], ◌∷◌}
use mathlib.Core.Option.{none, some}
use Prim.Native.Nat.{ℕ, ◌*◌, ◌≤◌, ◌<◌}
use native.Mathlib.Omega.{arith}
use lib.Dec.{ltb, eqb}
use lib.ListN.{length, get_or}
use borrow.Author.Tests.{lt-ltb, ltb-true, eq-eqb, eqb-true}
use Rattle.basics.proofs.Tests.{by_cases, and_left, and_right, fails}
use Rattle.basics.proofs.Parts.{bytes_drop}
use Rattle.rules.specs.Calls.{Call}
use Rattle.rules.specs.Passed.{Passable}
use Rattle.frames.specs.Hex.{all_digits, byte_of, bytes_in}
use Rattle.dispatch.specs.Dispatch.{frame_length, call_at}
use Rattle.dispatch.proofs.Codes
use Rattle.frames.specs.Frame.{call_byte, arguments_in, is_frame, call_of}
use Rattle.frames.proofs.Digits.{bytes_in_lem}

-- ---- a line is a frame
pub record Framed (line : List ℕ) : Type 0 where
  pub has_call : 0 < frame_length (call_byte line)
  pub its_length : length line ≡ 2 * frame_length (call_byte line)
  pub digits : all_digits line ≡ true

pub framed : (line : List ℕ) → is_frame line ≡ true → Framed line
unfolding is_frame
framed line e =
    let n = frame_length (call_byte line) in
    let a = ltb 0 n in
    let b = eqb (length line) (2 * n) in
    let p = and_left (a && b) (all_digits line) e in
    record {
      has_call = ltb-true 0 n (and_left a b p);
      its_length = eqb-true (length line) (2 * n) (and_right a b p);
      digits = and_right (a && b) (all_digits line) e;
    }

pub is_frame_lem : (line : List ℕ) → Framed line → is_frame line ≡ true
unfolding is_frame
is_frame_lem line f = rw (lt-ltb 0 _ f.has_call, eq-eqb (length line) _ f.its_length, f.digits)

-- what breaks one of the three makes it none
pub not_frame : (line : List ℕ) → (Framed line → ⊥) → is_frame line ≡ false
not_frame line f = fails (is_frame line) (λ e. f (framed line e))

-- ---- its call byte
pub short_call : (line : List ℕ) → length line < 2 → call_byte line ≡ 0
unfolding call_byte bytes_in
short_call [] h = refl
short_call (a ∷ []) h = refl
short_call (a ∷ b ∷ rest) h = absurd (omega arith)

pub call_byte_lem : (line : List ℕ) → 2 ≤ length line → call_byte line ≡ byte_of (get_or line 0 0) (get_or line 1 0)
unfolding call_byte bytes_in
call_byte_lem [] h = absurd (omega arith)
call_byte_lem (a ∷ []) h = absurd (omega arith)
call_byte_lem (a ∷ b ∷ rest) h = refl

-- ---- its call
pub framed_call : (line : List ℕ) (c : Call) → call_of line ≡ some c → Framed line × (call_at (call_byte line) (arguments_in line) ≡ some c)
unfolding call_of
framed_call line c e =
    by_cases
    (λ (b : Bool).
    is_frame line ≡ b
    → cond b (call_at (call_byte line) (arguments_in line)) none ≡ some c
    → Framed line × (call_at (call_byte line) (arguments_in line) ≡ some c)) (is_frame line)
    (λ _ f q. (framed line f, q)) (λ _ f q. let z : ◌≡◌ {A = ℕ} 0 1 = cc in absurd (omega arith)) refl e

pub passable : (line : List ℕ) (c : Call) → call_of line ≡ some c → Passable c
passable line c e = Codes.passable (arguments_in line) (bytes_drop 1 (bytes_in line) (bytes_in_lem line)) (call_byte line) c (framed_call line c e).1

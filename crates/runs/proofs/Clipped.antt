-- A long line can be cut.
use mathlib.Core.Path.{◌≡◌, refl, ap}
use mathlib.Core.Bool.{false}
use mathlib.Core.List.{List, [], ◌∷◌}
use Prim.Native.Nat.{ℕ, ◌≤◌, ◌<◌}
use native.Mathlib.Omega.{arith}
use lib.Dec.{leb}
use lib.ListN.{length, take}
use lib.Seq.{take_all, length-take-le}
use borrow.Author.Tests.{leb-true, leb-false}
use Rattle.basics.proofs.Tests.{either}
use Rattle.frames.specs.Hex.{bytes_in}
use Rattle.frames.specs.Frame.{call_byte, is_frame, call_of}
use Rattle.runs.specs.Pieces.{enough, clip}
use Rattle.dispatch.proofs.Codes.{frame_length_le}
use Rattle.frames.proofs.FrameLines.{not_frame}

pub clip-all : (line : List ℕ) → length line ≤ enough → clip line ≡ line
unfolding clip
clip-all line h = take_all enough line h

too_long : (line : List ℕ) → enough ≤ length line → is_frame line ≡ false
too_long line h = not_frame line (λ f. let e = f.its_length in omega (arith, frame_length_le (call_byte line)))

pub call_byte_clip : (line : List ℕ) → call_byte (clip line) ≡ call_byte line
unfolding call_byte clip bytes_in
call_byte_clip [] = refl
call_byte_clip (a ∷ []) = refl
call_byte_clip (a ∷ b ∷ rest) = refl

cut_both : (line : List ℕ) → enough < length line → call_of (clip line) ≡ call_of line
unfolding call_of clip
cut_both line h =
    let l : enough ≤ length (take enough line) = rw (length-take-le enough line (omega arith)) (omega arith) in
    rw (too_long (take enough line) l, too_long line (omega arith))

pub call_clip : (line : List ℕ) → call_of (clip line) ≡ call_of line
call_clip line =
    either (leb (length line) enough)
    (λ e. ap call_of (clip-all line (leb-true (length line) enough e))) (λ e. cut_both line (leb-false (length line) enough e))

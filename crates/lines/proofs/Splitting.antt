-- Bytes that join a line so far.
use mathlib.Core.Path.{◌≡◌, sym, ap, ◌∙◌}
use mathlib.Core.List.{List, ◌++◌}
use Prim.Native.Nat.{ℕ, ◌+◌, ◌-◌, ◌≤◌}
use native.Mathlib.Omega.{arith}
use lib.ListN.{length, take}
use lib.Seq.{length-take-le, take-append-add}
use Rattle.runs.specs.Pieces.{enough, clip}

-- ---- what joins a line so far: enough of the line and the bytes
pub joined_line : (line : List ℕ) (len : ℕ) (bytes : List ℕ) (more : ℕ) → len ≤ enough → enough ≤ length line
    → take more bytes ≡ take (enough - len) bytes → take len line ++ take more bytes ≡ clip (take len line ++ bytes)
unfolding clip
joined_line line len bytes more h l same =
    let front = take len line in
    let n : length front ≡ len = length-take-le len line (omega arith) in
    let e : length front + (enough - len) ≡ enough = omega arith in
    rw same (sym (ap (λ i. take i (front ++ bytes)) (sym e) ∙ take-append-add front bytes (enough - len)))

use native.Mathlib.Omega.{arith}
use native.Mathlib.Nat.{add-sub_cancel_left}
use Rattle.std.proofs.lemmas.Grind.{common_steps}
use mathlib.Core.Path.{◌≡◌, ap, ◌∙◌}
use mathlib.Core.Bool.{true, ◌&&◌}
use mathlib.Core.List.{List}
use Prim.Native.Nat.{ℕ, ◌*◌, ◌/◌}
use lib.ListN.{length}
use lib.Seq.{take_all}
use lib.Dec.{eqb}
use Rattle.std.specs.Prelude.{fold}
use Rattle.basics.specs.Bytes.{part, little_endian}
use Rattle.basics.proofs.Parts.{part_length}
use Rattle.layout.specs.Soundness.{is_zero}
use Rattle.soundness.proofs.Scan.{words_zero}
use Rattle.soundness.proofs.blank_words.Goals as goal

pub returns : goal.returns
returns c =
    let a = c.args in
    let k = a.count in
    let s : List ℕ = part a.t.now a.at (8 * k) in
    let l : length s ≡ 8 * k = part_length a.t.now a.at (8 * k) c.requires in
    let q : 8 * k / 8 ≡ k = omega arith in
    let e : c.fold.result ≡ fold (λ all word. all && is_zero word 0 8) true c.as_chunks.result.0.now = grind (arith, common_steps) in
    let front = rw (add-sub_cancel_left, l, q) at c.as_chunks.ensures.front in
    e ∙ rw front (words_zero s 0 k true ∙ ap (λ x. eqb (little_endian x) 0) (take_all (8 * k) s (omega (arith, l))))

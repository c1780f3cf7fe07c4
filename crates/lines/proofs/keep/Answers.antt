use mathlib.Core.Path.{◌≡◌, ap, ◌∙◌}
use mathlib.Core.List.{◌++◌}
use Prim.Native.Nat.{◌+◌, ◌-◌}
use native.Mathlib.Omega.{arith}
use lib.ListN.{length, take, length-take}
use Rattle.std.proofs.lemmas.List.{take_min}
use Rattle.std.proofs.lemmas.Slice.{take-put_mid}
use Rattle.runs.specs.Pieces.{enough}
use Rattle.lines.proofs.Splitting.{joined_line}
use Rattle.lines.proofs.keep.Goals as goal

pub returns-clause-line_after : goal.returns-clause-line_after
returns-clause-line_after c =
    let a = c.args in
    let more = c.min-more.result in
    let clipped : take more a.bytes.now ≡ take (enough - a.len) a.bytes.now = rw c.min-more.ensures (take_min (enough - a.len) a.bytes.now) in
    let copied = c.copy_from_slice.ensures.after in
    let all : a.len + more ≡ a.len + length c.copy_from_slice.new.self = omega (arith, ap length copied, length-take more a.bytes.now, c.min-more.ensures) in
    take-put_mid a.len _ a.line.now _ (a.len + more) all (omega (arith, c.requires)) ∙ ap (λ l. take a.len a.line.now ++ l) copied
    ∙ joined_line a.line.now a.len a.bytes.now more c.requires.0 c.requires.1 clipped

use mathlib.Core.Path.{◌≡◌, refl, ◌∙◌}
use mathlib.Core.List.{◌++◌}
use Prim.Native.Nat.{◌≤◌}
use native.Mathlib.Omega.{arith}
use lib.ListN.{length, take, length-take}
use Rattle.runs.specs.Pieces.{enough, clip}
use Rattle.runs.proofs.Clipped.{clip-all}
use Rattle.lines.specs.Splitting.{stretch}
use Rattle.lines.proofs.Stretches.{end_forward}
use Rattle.feeding.proofs.Taking.{took_line}
use Rattle.feeding.proofs.take_line.Goals as goal

pub slice_bounds-answer_line-start : goal.slice_bounds-answer_line-start
slice_bounds-answer_line-start c =
    let a = c.args in
    omega (arith, end_forward a.piece.now a.s.at a.end c.requires.is_line_end.0, c.requires.is_line_end.1)

pub slice_bounds-answer_line-count : goal.slice_bounds-answer_line-count
slice_bounds-answer_line-count c =
    let a = c.args in
    omega (arith, end_forward a.piece.now a.s.at a.end c.requires.is_line_end.0, c.requires.is_line_end.1)

pub returns-then-s-eq0 : goal.returns-then-s-eq0
returns-then-s-eq0 c = let x = c.answer_line in
    let none = c.if-s-eq0.true in
    let a = c.args in
    let fits = c.requires.fits.0 in
    let bytes = stretch a.piece.now a.s.at a.end in
    let same : clip bytes ≡ clip (take a.s.len a.line.now ++ bytes) = rw none in
    let took =
    took_line a.piece.now a.table.now a.line.now a.out.now a.s a.end c.requires.is_line_end.0 fits bytes _ a.line.now _ _
    c.requires.is_line_end.1 c.requires.fits.1 same x.ensures.answers_line x.ensures.stays_there x.auto.table refl x.auto.out in
    record {
      takes = took;
      goes_on = omega (arith, x.ensures.stays_there, end_forward a.piece.now a.s.at a.end c.requires.is_line_end.0);
    }

pub slice_bounds-keep-start : goal.slice_bounds-keep-start
slice_bounds-keep-start c =
    let a = c.args in
    omega (arith, end_forward a.piece.now a.s.at a.end c.requires.is_line_end.0, c.requires.is_line_end.1)

pub slice_bounds-keep-count : goal.slice_bounds-keep-count
slice_bounds-keep-count c =
    let a = c.args in
    omega (arith, end_forward a.piece.now a.s.at a.end c.requires.is_line_end.0, c.requires.is_line_end.1)

pub returns : goal.returns
returns c = let x = c.answer_line-2 in
    let k = c.keep-len in
    let a = c.args in
    let fits = c.requires.fits.0 in
    let line = take k.result k.new.line in
    let short : length line ≤ enough = rw length-take (omega (arith, k.ensures.upper_bound)) in
    let took =
    took_line a.piece.now a.table.now a.line.now a.out.now a.s a.end c.requires.is_line_end.0 fits line _ _ _ _
    c.requires.is_line_end.1 c.requires.fits.1 (clip-all line short ∙ k.ensures.line_after)
    x.ensures.answers_line x.ensures.stays_there x.auto.table k.auto.line x.auto.out in
    record {
      takes = took;
      goes_on = omega (arith, x.ensures.stays_there, end_forward a.piece.now a.s.at a.end c.requires.is_line_end.0);
    }

use Prim.Native.Nat.{◌≤◌}
use native.Mathlib.Omega.{arith}
use lib.ListN.{length}
use Rattle.lines.proofs.Stretches.{rest_is, end_at, no_end}
use Rattle.feeding.proofs.Taking.{took_part}
use Rattle.feeding.proofs.step.Goals as goal

pub take_line-requires : goal.take_line-requires
take_line-requires c =
    let a = c.args in
    let within : a.s.at ≤ length a.piece.now = omega (arith, c.requires.at_in_bounds) in
    let found = rw (rest_is a.piece.now a.s.at within) at c.in-Some.ensures in
    record { fits = c.requires.fits; is_line_end = end_at a.piece.now a.s.at within found }

pub returns-in-None : goal.returns-in-None
returns-in-None c =
    let k = c.keep in
    let a = c.args in
    let within : a.s.at ≤ length a.piece.now = omega (arith, c.requires.at_in_bounds) in
    let none = rw (rest_is a.piece.now a.s.at within) at c.in-None.ensures in
    let took =
    took_part a.piece.now a.table.now a.line.now a.out.now a.s (length a.piece.now) (no_end a.piece.now a.s.at within none) c.requires.fits.0 _ k.result
    k.ensures.upper_bound k.ensures.line_after k.auto.line in
    record { takes = took; goes_on = c.requires.at_in_bounds }

use mathlib.Core.Logic.{inl, inr}
use native.Mathlib.Omega.{arith}
use Rattle.feeding.proofs.Taking.{takes_none, takes_more}
use Rattle.feeding.proofs.feed.Goals as goal

pub loop-s-init : goal.loop-s-init
loop-s-init c =
    takes_none c.args.piece.now c.args.table.now c.args.line.now c.args.out.now c.args.from c.requires

pub returns-then-out-s-lt-REPLY_LINE_SIZE : goal.returns-then-out-s-lt-REPLY_LINE_SIZE
returns-then-out-s-lt-REPLY_LINE_SIZE c = let l = c.loop-s in
    record {
      takes = l.invariant;
      ended_or_full = inr (omega (arith, c.if-out-s-lt-REPLY_LINE_SIZE.true, l.invariant.out_kept));
    }

pub step-s-requires : goal.step-s-requires
step-s-requires c = let l = c.loop-s in
    record {
      fits = (l.invariant.fits, omega (arith, c.if-out-s-lt-REPLY_LINE_SIZE.false, l.invariant.fits.out_fits));
      at_in_bounds = c.loop-s-test.true;
    }

pub loop-s-smaller : goal.loop-s-smaller
loop-s-smaller c =
    omega (arith, c.step-s.ensures.goes_on, c.loop-s-test.true)

pub loop-s-preserved : goal.loop-s-preserved
loop-s-preserved c =
    let l = c.loop-s in
    takes_more _ _ _ _ _ _ _ _ _ _ _ _ _ l.invariant c.step-s.ensures.takes

pub returns : goal.returns
returns c =
    record {
      takes = c.loop-s.invariant;
      ended_or_full = inl c.loop-s-test.false;
    }

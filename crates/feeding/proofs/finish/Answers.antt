use native.Mathlib.Omega.{arith}
use Rattle.feeding.proofs.Taking.{ends_none, ends_line}
use Rattle.feeding.proofs.finish.Goals as goal

pub returns-then-len-eq0 : goal.returns-then-len-eq0
returns-then-len-eq0 c =
    let a = c.args in
    ends_none a.table.now a.line.now a.out.now a.s c.requires.0 c.if-len-eq0.true

pub returns : goal.returns
returns c =
    let x = c.answer_line in
    let some = c.if-len-eq0.false in
    let a = c.args in
    ends_line a.table.now a.line.now a.out.now a.s _ _ _ c.requires.0 c.requires.1 (omega (arith, some)) x.ensures.answers_line
    x.auto.table x.auto.out

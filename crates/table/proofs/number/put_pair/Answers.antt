use mathlib.Core.Path.{◌≡◌, sym, ap, ◌∙◌}
use lib.ListN.{length, replicate, length-replicate, length-take, length-drop, length-set}
use native.Mathlib.Omega.{arith}
use Rattle.table.proofs.Lent.{over-part}
use Rattle.basics.proofs.Writing.{over_pair}
use Rattle.table.proofs.number.put_pair.Goals as goal

pub returns : goal.returns
returns c =
    let n = c.args.zeros in
    let long : length c.fill.new.self ≡ n = c.fill.ensures.len ∙ simp (length-take, length-drop, length-set) (omega arith) in
    let same : c.fill.new.self ≡ replicate n 0 = c.fill.ensures.after (λ y e. e) ∙ ap (λ k. replicate k 0) (sym c.fill.ensures.len ∙ long) in
    rw same (over-part _ _ n (replicate n 0) (length-replicate n 0) ∙ over_pair _ _ _ _ _ (omega arith))

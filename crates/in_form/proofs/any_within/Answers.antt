use Rattle.std.proofs.Common.{arith}
use Rattle.std.proofs.lemmas.Grind.{common_steps}
use mathlib.Core.Path.{◌≡◌, ◌∙◌}
use mathlib.Core.Bool.{false, ◌||◌}
use lib.Dec.{eqb}
use lib.Bits.{bit_and}
use Rattle.std.specs.List.{fold}
use Rattle.sets.proofs.Folds.{fold_any}
use Rattle.in_form.proofs.any_within.Goals as goal

pub returns : goal.returns
returns c =
    let a = c.args in
    let folded : c.fold.result ≡ fold (λ any other. any || eqb (bit_and a.set other) other) false a.others.now = grind (arith, common_steps) in
    folded ∙ fold_any (λ other. eqb (bit_and a.set other) other) false a.others.now

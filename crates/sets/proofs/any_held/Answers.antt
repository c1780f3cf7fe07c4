use Rattle.std.proofs.Common.{arith}
use Rattle.std.proofs.lemmas.Grind.{common_steps}
use mathlib.Core.Path.{◌≡◌, ◌∙◌}
use mathlib.Core.Bool.{Bool, false, ◌||◌}
use Prim.Native.Nat.{ℕ}
use Rattle.std.specs.List.{fold}
use Rattle.sets.specs.Inner.{is_held}
use Rattle.sets.proofs.Folds.{fold_any, any_first}
use Rattle.sets.proofs.any_held.Goals as goal

pub returns : goal.returns
returns c =
    let folded : c.fold.result ≡ fold (λ any other. any || is_held other c.args.set) false c.args.others = grind (arith, common_steps) in
    let held : ℕ → Bool = λ other. is_held other c.args.set in
    folded ∙ fold_any held false c.args.others ∙ any_first held c.args.others

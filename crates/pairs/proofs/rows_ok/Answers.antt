use Rattle.std.proofs.Common.{arith}
use Rattle.std.proofs.lemmas.Grind.{common_steps}
use mathlib.Core.Path.{◌≡◌, refl, ◌∙◌}
use mathlib.Core.Bool.{true, ◌&&◌}
use mathlib.Core.List.{reverse}
use Rattle.std.specs.List.{fold}
use Rattle.pairs.specs.Pairs.{row_ok}
use Rattle.sets.proofs.Folds.{fold_all_back}
use Rattle.pairs.proofs.rows_ok.Goals as goal

pub returns : goal.returns
returns c =
    let folded : c.fold.result ≡ fold (λ ok read. ok && row_ok c.args.writes read) true (reverse c.args.reads) = grind (arith, common_steps) in
    folded ∙ fold_all_back (λ x. refl) c.args.reads

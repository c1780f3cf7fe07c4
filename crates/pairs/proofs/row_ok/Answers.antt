use Rattle.std.proofs.Common.{arith}
use Rattle.std.proofs.lemmas.Grind.{common_steps}
use mathlib.Core.Path.{◌≡◌, refl, ◌∙◌}
use mathlib.Core.Bool.{true, ◌&&◌}
use Rattle.std.specs.List.{fold}
use Rattle.quorum.specs.Sets.{shares}
use Rattle.sets.proofs.Folds.{fold_all}
use Rattle.pairs.proofs.row_ok.Goals as goal

pub returns : goal.returns
returns c =
    let folded : c.fold.result ≡ fold (λ ok write. ok && shares c.args.read write) true c.args.writes = grind (arith, common_steps) in
    folded ∙ fold_all (λ x. refl) true c.args.writes

use mathlib.Core.Path.{◌≡◌, sym, ◌∙◌}
use mathlib.Core.Bool.{true, ◌&&◌}
use borrow.Author.Tests.{not-true, not-false}
use Rattle.pairs.specs.Pairs.{pairs_ok}
use Rattle.basics.proofs.Tests.{clash}
use Rattle.pairs.proofs.Pairs.{invalid}
use Rattle.pairs.proofs.Pairs.{inside, valid_is_paired, valid_is_inside, paired_is_valid}
use Rattle.pairs.proofs.config_ok.Goals as goal
use Rattle.pairs.proofs.config_ok.Goals.{After-four_within-4, Else-not-pairs_ok}

-- past the first test; and the four parts of the second
paired : (c : Else-not-pairs_ok) → pairs_ok c.args.config.now ≡ true
paired c = sym c.pairs_ok.ensures ∙ not-false _ c.if-not-pairs_ok.false-raw

within_all : (c : After-four_within-4) → let a = c.args in
    (c.four_within.result && c.four_within-2.result && c.four_within-3.result && c.four_within-4.result)
    ≡ inside a.n a.config.now
within_all c =
    rw (c.four_within.ensures, c.four_within-2.ensures, c.four_within-3.ensures, c.four_within-4.ensures)

pub returns-then-not-pairs_ok : goal.returns-then-not-pairs_ok
returns-then-not-pairs_ok c = invalid _ _ (λ v. clash (valid_is_paired _ _ v) (sym c.pairs_ok.ensures ∙ not-true _ c.if-not-pairs_ok.true-raw))

pub returns-then-not-four_within : goal.returns-then-not-four_within
returns-then-not-four_within c =
    let at = goal.at.returns-then-not-four_within c in
    invalid _ _ (λ v. clash (valid_is_inside _ _ v) (sym (within_all at.After-four_within-4) ∙ not-true _ c.if-not-four_within.true-raw))

pub returns : goal.returns
returns c =
    let at = goal.at.returns c in
    let inside_it = sym (within_all at.After-four_within-4) ∙ not-false _ c.if-not-four_within.false-raw in
    rw (c.share_station.ensures, c.load_set-2.ensures, c.load_set.ensures)
    (paired_is_valid c.args.n c.args.config.now c.requires.0 c.requires.1 c.told-config (paired at.Else-not-pairs_ok) inside_it)

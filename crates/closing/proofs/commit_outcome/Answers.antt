use Rattle.std.proofs.Common.{◌≡◌, true, sym, ◌∙◌, arith}
use Rattle.layout.specs.View.{view, heard}
use Rattle.std.proofs.lemmas.Grind.{common_steps}
use Rattle.layout.proofs.OneWalk.{version_carried, generation_carried}
use Rattle.closing.proofs.Answers.{commit_number, refused_commit, done_commit, unheard_refusal, heard_passed}
use Rattle.closing.proofs.RoundFound.{value_at_lem, heard_at}
use Rattle.rules.specs.Rules.{first}
use Rattle.closing.proofs.commit_outcome.Goals as goal
use Rattle.closing.proofs.commit_outcome.Goals.{In_ok-newest}

pub returns-in_err-newest : goal.returns-in_err-newest
unfolding first
returns-in_err-newest c =
    let told = refused_commit c.requires c.args.table.is_sound _ (unheard_refusal c.requires _ c.in_err-newest.ensures.value) in
    grind (arith, common_steps)

heard_round : (c : In_ok-newest) → heard (view c.args.table.bytes.now) ≡ true
unfolding first
heard_round c = heard_passed c.in_ok-newest.ensures.value

pub check_closing-requires : goal.check_closing-requires
check_closing-requires c =
    let found = c.in_ok-newest.ensures.found in
    let there = heard_round (goal.at.check_closing-requires c).In_ok-newest in
    (heard_at _ found c.args.table.is_sound c.requires c.round_copy-g.ensures there, version_carried _ _ _ found, generation_carried _ _ _ found)

pub returns-in_err-check_closing : goal.returns-in_err-check_closing
returns-in_err-check_closing c =
    let there = heard_round (goal.at.returns-in_err-check_closing c).In_ok-newest in
    let told = refused_commit c.requires c.args.table.is_sound _ (c.in_err-check_closing.ensures ∙ commit_number c.requires there) in
    grind (arith, common_steps)

pub closed-requires : goal.closed-requires
closed-requires c =
    let found = c.in_ok-newest.ensures.found in
    record {
      is_open = c.requires;
      version = version_carried _ _ _ found;
      generation = generation_carried _ _ _ found;
      value = value_at_lem _ found c.args.table.is_sound c.round_copy-b.ensures;
      passed = sym c.in_ok-check_closing.ensures;
    }

pub returns : goal.returns
returns c =
    let there = heard_round (goal.at.returns c).In_ok-newest in
    done_commit c.requires c.args.table.is_sound (c.in_ok-check_closing.ensures ∙ commit_number c.requires there) c.closed.ensures

use Rattle.std.proofs.Common.{◌≡◌, arith}
use Rattle.std.proofs.lemmas.Grind.{common_steps}
use Rattle.layout.specs.Fields.{write}
use Rattle.layout.specs.View.{view}
use Rattle.rules.specs.Rules.{first, written}
use Rattle.rules.proofs.Outcomes.{refusal_some}
use Rattle.closing.proofs.Answers.{by_kind, config_is, held}
use Rattle.closing.proofs.check_write.Goals as goal
use Rattle.closing.proofs.check_write.Goals.{After-holds_side}

written_test : (c : After-holds_side) → written (view c.args.table.bytes.now) write ≡ c.holds_side.result
unfolding view
written_test c =
    held c.holds_side.ensures (config_is c.requires.0 c.config_at.ensures) c.data_puts.ensures

pub returns-in_err-check_last : goal.returns-in_err-check_last
unfolding first
returns-in_err-check_last c =
    let number = by_kind c.requires.0.is_open in
    grind (arith, common_steps, refusal_some)

pub returns-then-not-holds_side : goal.returns-then-not-holds_side
unfolding first
returns-then-not-holds_side c =
    let number = by_kind c.requires.0.is_open in
    let short = written_test (goal.at.returns-then-not-holds_side c).After-holds_side in
    grind (arith, common_steps)

pub returns : goal.returns
unfolding first
returns c =
    let number = by_kind c.requires.0.is_open in
    let enough = written_test (goal.at.returns c).After-holds_side in
    grind (arith, common_steps)

use Rattle.std.proofs.Common.{◌≡◌, arith}
use Rattle.std.proofs.lemmas.Grind.{common_steps}
use Rattle.quorum.specs.Configurations.{holds_write}
use Rattle.layout.specs.View.{view, found_by_generation}
use Rattle.rules.specs.Rules.{first}
use Rattle.rules.proofs.Outcomes.{refusal_some}
use Rattle.closing.proofs.Answers.{by_kind, config_is, held}
use Rattle.closing.proofs.check_change.Goals as goal
use Rattle.closing.proofs.check_change.Goals.{After-holds_side, After-holds_side-2}

data_test : (c : After-holds_side) → let v = (view c.args.table.bytes.now) in
    holds_write v.round.target v.round.data_puts ≡ c.holds_side.result
unfolding view
data_test c = held c.holds_side.ensures c.target.ensures c.data_puts.ensures

config_test : (c : After-holds_side-2) → let v = (view c.args.table.bytes.now) in
    holds_write (found_by_generation v).config v.round.config_puts ≡ c.holds_side-2.result
unfolding view
config_test c =
    held c.holds_side-2.ensures (config_is c.requires.0 c.config_at.ensures) c.config_puts.ensures

pub returns-in_err-check_last : goal.returns-in_err-check_last
unfolding first
returns-in_err-check_last c =
    let number = by_kind c.requires.0.is_open in
    grind (arith, common_steps, refusal_some)

pub returns-then-not-holds_side : goal.returns-then-not-holds_side
unfolding first
returns-then-not-holds_side c =
    let number = by_kind c.requires.0.is_open in
    let short = data_test (goal.at.returns-then-not-holds_side c).After-holds_side in
    grind (arith, common_steps)

pub returns-then-not-holds_side-2 : goal.returns-then-not-holds_side-2
unfolding first
returns-then-not-holds_side-2 c =
    let at = goal.at.returns-then-not-holds_side-2 c in
    let number = by_kind c.requires.0.is_open in
    let enough = data_test at.After-holds_side in
    let short = config_test at.After-holds_side-2 in
    grind (arith, common_steps)

pub returns : goal.returns
unfolding first
returns c =
    let at = goal.at.returns c in
    let number = by_kind c.requires.0.is_open in
    let enough = data_test at.After-holds_side in
    let all = config_test at.After-holds_side-2 in
    grind (arith, common_steps)

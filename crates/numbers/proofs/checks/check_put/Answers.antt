use Rattle.std.proofs.Common.{◌≡◌, ℕ, false, drop, arith}
use Rattle.std.proofs.lemmas.Grind.{common_steps}
use Rattle.quorum.specs.Sets.{member}
use Rattle.layout.specs.View.{State, view}
use Rattle.layout.proofs.OneWalk.{version_carried, generation_carried}
use Rattle.rules.specs.Calls.{put}
use Rattle.rules.specs.Rules.{first, tests, no_station, no_sort, is_idle}
use Rattle.numbers.specs.Tests.{Stands}
use Rattle.rules.proofs.Outcomes.{refusal_some}
use Rattle.numbers.proofs.Chains.{passed}
use Rattle.numbers.proofs.checks.check_put.Goals as goal
use Rattle.numbers.proofs.checks.check_put.Goals.{In_ok-check_on_the_bus, In_ok-newest}

-- the number by the tests past the first k
abbrev past : ℕ → State → ℕ → ℕ → ℕ
past k v s sort = first (drop k (tests v (put s sort)))

past_off : (v : State) (s sort : ℕ) → no_station v s ≡ false → no_sort sort ≡ false → is_idle v ≡ false → member v.off s ≡ false
    → past 0 v s sort ≡ past 3 v s sort
unfolding tests first
past_off v s sort a b c d = rw (a, b, c, d)

placed : (c : In_ok-check_on_the_bus) → let a = c.args in past 0 (view a.table.bytes.now) a.s a.sort ≡ past 3 (view a.table.bytes.now) a.s a.sort
unfolding tests first
placed c =
    let a = c.args in
    past_off (view a.table.bytes.now) a.s a.sort (passed 1 c.in_ok-check_station.ensures) (passed 1 c.in_ok-listed.ensures.value)
    (passed 4 c.in_ok-kind.ensures.value) (passed 5 c.in_ok-check_on_the_bus.ensures)

pub returns-in_err-check_on_the_bus-clause-value : goal.returns-in_err-check_on_the_bus-clause-value
unfolding tests first
returns-in_err-check_on_the_bus-clause-value c = grind (arith, common_steps, refusal_some)

pub returns-in_err-newest-clause-value : goal.returns-in_err-newest-clause-value
unfolding tests first
returns-in_err-newest-clause-value c =
    let at = goal.at.returns-in_err-newest-clause-value c in
    let p = placed at.In_ok-check_on_the_bus in
    grind (arith, common_steps, refusal_some)

-- the tests by the kind, of this table's round
stands : (c : In_ok-newest) → Stands (view c.args.table.bytes.now) c.in_ok-kind.kind c.in_ok-newest.newest
stands c =
    let found = c.in_ok-newest.ensures.found in
    record {
      kind_is = c.in_ok-kind.ensures.kind;
      version = version_carried _ _ _ found;
      generation = generation_carried _ _ _ found;
    }

pub returns-in_err-check_put_kind-clause-value : goal.returns-in_err-check_put_kind-clause-value
unfolding tests first
returns-in_err-check_put_kind-clause-value c =
    let at = goal.at.returns-in_err-check_put_kind-clause-value c in
    let p = placed at.In_ok-check_on_the_bus in
    let told = c.in_err-check_put_kind.ensures (view c.args.table.bytes.now) (stands at.In_ok-newest) in
    grind (arith, common_steps, refusal_some)

pub returns-clause-value : goal.returns-clause-value
unfolding tests first
returns-clause-value c =
    let at = goal.at.returns-clause-value c in
    let p = placed at.In_ok-check_on_the_bus in
    let told = c.in_ok-check_put_kind.ensures (view c.args.table.bytes.now) (stands at.In_ok-newest) in
    grind (arith, common_steps)

use Rattle.std.proofs.Common.{◌≡◌, ℕ, List, ap, ◌∙◌, sym}
use Rattle.rules.specs.Reply.{after}
use Rattle.rules.proofs.Demands.{steps}
use Rattle.boundary_cases.specs.declared.call.Call.{Call}
use Rattle.boundary_cases.specs.Made.{made}
use Rattle.boundary_cases.proofs.call.Call.make.Goals as goal

-- a call that changes nothing
kept : {self call : Call} (t config : List ℕ) → self ≡ call → after t (made call config) ≡ t → t ≡ after t (made self config)
kept t config is same = sym (ap (λ s. after t (made s config)) is ∙ same)

pub returns-in-Reach-clause-table_after : goal.returns-in-Reach-clause-table_after
returns-in-Reach-clause-table_after c = kept c.args.table.now c.args.config.now c.in-Reach.is (steps.reach_changes_nothing _ _)

pub returns-in-Diagnose-clause-table_after : goal.returns-in-Diagnose-clause-table_after
returns-in-Diagnose-clause-table_after c = kept c.args.table.now c.args.config.now c.in-Diagnose.is (steps.diagnose_changes_nothing _)

pub returns-in-Plan-clause-table_after : goal.returns-in-Plan-clause-table_after
returns-in-Plan-clause-table_after c = kept c.args.table.now c.args.config.now c.in-Plan.is (steps.plan_changes_nothing _ _)

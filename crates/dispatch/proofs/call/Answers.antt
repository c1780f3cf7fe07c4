use mathlib.Core.Path.{sym}
use Rattle.rules.proofs.Demands.{steps}
use Rattle.dispatch.proofs.Codes.{performed}
use Rattle.dispatch.proofs.call.Goals as goal

pub returns-in-Lay : goal.returns-in-Lay
returns-in-Lay c = performed _ _ c.in-Lay.is c.requires (cc) (cc)

pub returns-in-OpenRead : goal.returns-in-OpenRead
returns-in-OpenRead c = performed _ _ c.in-OpenRead.is c.requires (cc) (cc)

pub returns-in-OpenWrite : goal.returns-in-OpenWrite
returns-in-OpenWrite c = performed _ _ c.in-OpenWrite.is c.requires (cc) (cc)

pub returns-in-OpenChange : goal.returns-in-OpenChange
returns-in-OpenChange c = performed _ _ c.in-OpenChange.is c.requires (cc) (cc)

pub returns-in-Poll : goal.returns-in-Poll
returns-in-Poll c = performed _ _ c.in-Poll.is c.requires (cc) (cc)

pub returns-in-Put : goal.returns-in-Put
returns-in-Put c = performed _ _ c.in-Put.is c.requires (cc) (cc)

pub returns-in-Commit : goal.returns-in-Commit
returns-in-Commit c = performed _ _ c.in-Commit.is c.requires (cc) (cc)

pub returns-in-Abandon : goal.returns-in-Abandon
returns-in-Abandon c = performed _ _ c.in-Abandon.is c.requires (cc) (cc)

pub returns-in-Link : goal.returns-in-Link
returns-in-Link c = performed _ _ c.in-Link.is c.requires (cc) (cc)

pub returns-in-Reach : goal.returns-in-Reach
returns-in-Reach c = performed _ _ c.in-Reach.is c.requires (cc) (sym (steps.reach_changes_nothing _ _))

pub returns-in-Diagnose : goal.returns-in-Diagnose
returns-in-Diagnose c = performed _ _ c.in-Diagnose.is c.requires (cc) (sym (steps.diagnose_changes_nothing _))

pub returns-in-Plan : goal.returns-in-Plan
returns-in-Plan c = performed _ _ c.in-Plan.is c.requires (cc) (sym (steps.plan_changes_nothing _ _))

use borrow.Author.Rules.{rules}
use mathlib.Core.Path.{sym}
use Rattle.quorum.specs.Configurations.{config_size}
use Rattle.basics.proofs.Tests.{all_start, all_turn, all_end}
use Rattle.validity.specs.Rows.{same_block}
use Rattle.validity.proofs.same_block.Goals as goal

pub loop-b-init : goal.loop-b-init
loop-b-init c = (search rules, sym (all_start _))

pub loop-b-preserved : goal.loop-b-preserved
loop-b-preserved c = (search rules, all_turn _ _ c.loop-b.invariant.1 c.same_lane-ok.ensures)

pub returns : goal.returns
unfolding same_block
returns c = all_end _ config_size _ c.loop-b.invariant.0 c.loop-b-test.false c.loop-b.invariant.1

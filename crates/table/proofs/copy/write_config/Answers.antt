use mathlib.Core.Path.{◌∙◌}
use Rattle.basics.proofs.Writing.{over-number}
use Rattle.layout.specs.Updates.{put_config}
use borrow.Author.Rules.{rules}
use Rattle.table.proofs.copy.write_config.Goals as goal

pub returns : goal.returns
unfolding put_config
returns c =
    let a = c.args in
    c.put_config_bytes.ensures
    ∙ rw c.put_u64.ensures (over-number a.copy.now 16 8 a.generation.0 a.config (search rules))

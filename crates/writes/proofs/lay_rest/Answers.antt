use Rattle.layout.specs.Layout.{copies_at, copy_size}
use Rattle.writes.proofs.Writes.{lay_start, lay_turn}
use Rattle.basics.proofs.Parts.{part_length}
use Rattle.basics.specs.Bytes.{part}
use native.Mathlib.Omega.{arith}
use mathlib.Core.Path.{refl, ◌∙◌}
use Rattle.writes.proofs.lay_rest.Goals as goal

pub loop-k-init : goal.loop-k-init
loop-k-init c = (omega arith, c.requires.0, refl, lay_start _ copies_at (omega arith))

pub loop-k-preserved : goal.loop-k-preserved
loop-k-preserved c =
    let t₀ = c.args.t.now in
    let l = c.loop-k in
    let more = c.min-more.result in
    let size = part_length t₀ copies_at copy_size (omega arith) in (
      omega arith,
      omega arith,
      c.copy_again.auto.t ∙ l.invariant.2,
      c.copy_again.ensures ∙ lay_turn (part t₀ copies_at copy_size) size t₀ l.t copies_at l.k more (omega arith) (omega arith) l.invariant.3,
    )

use Rattle.std.proofs.Common.{◌≡◌, ◌-◌}
use Rattle.quorum.specs.Configurations.{side_sets}
use Rattle.in_form.proofs.Ordered.{Orderly}
use Rattle.in_form.proofs.side_in_form.Given as goal

abbrev pub invariant-loop-k : goal.invariant-loop-k
invariant-loop-k l = (l.last ≡ side_sets l.fn.side l.config (l.k - 1)) × Orderly (side_sets l.fn.side l.config) l.k

use Rattle.replies.proofs.Writing.{Shown}
use Rattle.replies.proofs.write_hex.Given as goal

abbrev pub invariant-loop-k : goal.invariant-loop-k
invariant-loop-k l = Shown l.initial.out l.at l.bytes l.k l.out

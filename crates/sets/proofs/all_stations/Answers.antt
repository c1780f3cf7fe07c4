use Rattle.sets.proofs.Words.{one_shl, full_small, full-all}
use lib.Pow.{pow_pos}
use Rattle.sets.proofs.all_stations.Goals as goal

pub returns-then-n-lt16 : goal.returns-then-n-lt16
returns-then-n-lt16 c = rw (one_shl c.args.n 16 c.if-n-lt16.true) (full_small c.args.n c.if-n-lt16.true)

pub overflow_sub-result : goal.overflow_sub-result
overflow_sub-result c = rw (one_shl c.args.n 16 c.if-n-lt16.true) (pow_pos c.args.n)

pub returns-else-n-lt16 : goal.returns-else-n-lt16
returns-else-n-lt16 c = full-all c.args.n c.if-n-lt16.false

use Rattle.rounds.proofs.Hearing.{own_copies}
use Rattle.rounds.proofs.found.own_copies.Goals as goal

pub invariant_of-result : goal.invariant_of-result
invariant_of-result c = record { in_table = own_copies _ c.args.table.is_sound c.stations.ensures c.item.ensures }

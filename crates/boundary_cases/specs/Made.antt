-- What a call of the script asks of the store: lay and change with the configuration that is lent.
use Rattle.std.specs.Prelude.{ℕ, List}
use Rattle.boundary_cases.specs.declared.call.Call.{Call}
use Rattle.boundary_cases.specs.declared.call.Call.TheVariants.{Lay, Read, Write, Change, Poll, Put, Commit, Abandon, Link, Reach, Diagnose, Plan}
use Rattle.rules.specs.Calls as calls

abbrev pub made : Call → List ℕ → calls.Call
made (Lay n m value) config = calls.lay n m value config
made (Read item) config = calls.open_read item
made (Write item value) config = calls.open_write item value
made (Change item) config = calls.open_change item config
made (Poll station) config = calls.poll station
made (Put station sort) config = calls.put station sort
made Commit config = calls.commit
made Abandon config = calls.abandon
made (Link station state) config = calls.link station state
made (Reach item) config = calls.reach item
made Diagnose config = calls.diagnose
made (Plan item) config = calls.plan item

use Rattle.dispatch.proofs.Codes.{of_byte}
use Rattle.dispatch.proofs.perform.Goals as goal

pub returns : goal.returns
returns c =
    let e = of_byte _ c.args.code c.args.arguments.now c.«of».ensures in
    let done = c.perform_frame.ensures in
    record { value = rw (← e) done.value; table_after = rw (← e) done.table_after }

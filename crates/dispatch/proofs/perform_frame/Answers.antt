use native.Mathlib.Omega.{arith}
use Rattle.dispatch.proofs.Codes.{no_code, too_few, not_called}
use Rattle.dispatch.proofs.perform_frame.Goals as goal
use Rattle.dispatch.proofs.perform_frame.Goals.{in_default-via-in-Some+else-frame_length-arguments, in_default-via-in_default}

pub returns-in_default : goal.returns-in_default
returns-in_default c =
    elim c.in_default.branch [
      | in_default-via-in-Some+else-frame_length-arguments w ↦
          let few = w.if-frame_length-arguments.false in
          not_called _ (rw w.in-Some.is (too_few _ _ (omega (arith, w.frame_length.ensures, few)))) c.into.ensures
      | in_default-via-in_default w ↦ not_called _ (rw w.in_default.is (no_code _)) c.into.ensures
    ]

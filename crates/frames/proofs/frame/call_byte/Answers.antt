use mathlib.Core.Path.{sym, ap, ◌∙◌}
use Rattle.std.specs.Prelude.{unwrap_or}
use Rattle.frames.proofs.FrameLines.{short_call, call_byte_lem}
use Rattle.frames.proofs.Digits.{byte_or_zero}
use Rattle.frames.proofs.frame.call_byte.Goals as goal

pub returns-in_default : goal.returns-in_default
returns-in_default c = sym (short_call _ c.in_default.len_below)

pub returns-in-len2-up : goal.returns-in-len2-up
returns-in-len2-up c =
    c.unwrap_or.ensures ∙ ap (λ o. unwrap_or o 0) c.byte_of.ensures ∙ byte_or_zero _ _ ∙ sym (call_byte_lem _ c.in-len2-up.len_at_least)

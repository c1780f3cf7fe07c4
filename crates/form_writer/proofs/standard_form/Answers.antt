use mathlib.Core.Path.{sym, ◌∙◌}
use native.Mathlib.Omega.{arith}
use borrow.Author.Tests.{not-true, not-false}
use Rattle.form_writer.proofs.Answers.{not_listed, false_configuration, formed}
use Rattle.form_writer.proofs.standard_form.Goals as goal
use Rattle.form_writer.proofs.standard_form.Goals.{then-n-eq0-via-then-n-eq0, then-n-eq0-via-else-n-eq0+then-n-gt16}
use Rattle.form_writer.proofs.standard_form.Goals.{then-n-eq0-via-else-n-eq0+else-n-gt16+then-out-ne-CONFIG_SIZE}

pub returns : goal.returns
returns c = let some = c.if-n-eq0.false in
    let answer = formed _ _ _ (omega (arith, some)) c.if-n-gt16.false c.if-out-ne-CONFIG_SIZE.false
    (sym c.is_valid.ensures ∙ not-false _ c.if-not-is_valid.false-raw) in
    record {
      value = answer.value;
      out_after = c.put_config_bytes.ensures ∙ rw c.form_of.ensures answer.out_after;
    }

pub returns-then-n-eq0 : goal.returns-then-n-eq0
returns-then-n-eq0 c =
    not_listed _ _ _
    (λ h. elim c.then-n-eq0.branch [
      | then-n-eq0-via-then-n-eq0 w ↦ omega (arith, h.0, w.if-n-eq0.true)
      | then-n-eq0-via-else-n-eq0+then-n-gt16 w ↦ omega (arith, h.1, w.if-n-gt16.true)
      | then-n-eq0-via-else-n-eq0+else-n-gt16+then-out-ne-CONFIG_SIZE w ↦ w.if-out-ne-CONFIG_SIZE.true h.2
    ])

pub returns-then-not-is_valid : goal.returns-then-not-is_valid
returns-then-not-is_valid c =
    let some = c.if-n-eq0.false in
    false_configuration _ _ _ (omega (arith, some)) c.if-n-gt16.false c.if-out-ne-CONFIG_SIZE.false
    (sym c.is_valid.ensures ∙ not-true _ c.if-not-is_valid.true-raw)

pub form_of-requires : goal.form_of-requires
form_of-requires c =
    (_, sym c.is_valid.ensures ∙ not-false _ c.if-not-is_valid.false-raw)

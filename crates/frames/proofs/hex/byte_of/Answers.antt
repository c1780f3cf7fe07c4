use mathlib.Core.Path.{sym, ◌∙◌}
use native.Mathlib.Omega.{arith}
use Rattle.frames.proofs.Digits.{value_lt, value_given, of_values, no_high, no_low}
use Rattle.frames.proofs.hex.byte_of.Goals as goal

pub returns-in_err-digit_value : goal.returns-in_err-digit_value
returns-in_err-digit_value c =
    c.from_residual.ensures ∙ no_high _ _ (sym c.in_err-digit_value.was ∙ c.digit_value.ensures)

pub overflow_mul-result : goal.overflow_mul-result
overflow_mul-result c =
    let high = value_given c.args.high (sym c.in_ok-digit_value.was ∙ c.digit_value.ensures) in
    omega (arith, high.1, value_lt c.args.high high.0)

pub returns-in_err-digit_value-2 : goal.returns-in_err-digit_value-2
returns-in_err-digit_value-2 c =
    c.from_residual-in_err-digit_value-2.ensures ∙ no_low _ _ (sym c.in_err-digit_value-2.was ∙ c.digit_value-2.ensures)

pub overflow_add-result : goal.overflow_add-result
overflow_add-result c =
    let high = value_given c.args.high (sym c.in_ok-digit_value.was ∙ c.digit_value.ensures) in
    let low = value_given c.args.low (sym c.in_ok-digit_value-2.was ∙ c.digit_value-2.ensures) in
    omega (arith, high.1, value_lt c.args.high high.0, low.1, value_lt c.args.low low.0)

pub returns : goal.returns
returns c =
    of_values c.args.high c.args.low (sym c.in_ok-digit_value.was ∙ c.digit_value.ensures) (sym c.in_ok-digit_value-2.was ∙ c.digit_value-2.ensures)

use mathlib.Core.Path.{sym, ◌∙◌}
use native.Mathlib.Omega.{arith}
use Rattle.basics.proofs.Bytes.{number_one}
use Rattle.layout.proofs.Sizes.{lay_length_le}
use Rattle.session.proofs.Answering.{in_use, in_use_but_lay, needed}
use Rattle.session.proofs.lent_length.Goals as goal

pub returns-in_default : goal.returns-in_default
returns-in_default c =
    record {
      value = rw c.in_default.is (sym (in_use c.args.used c.args.arguments.now 0 (λ e. absurd (omega arith))));
      upper_bound = c.requires;
    }

pub returns-in_default-code : goal.returns-in_default-code
returns-in_default-code c =
    record {
      value = rw c.in-Some.is (sym (in_use_but_lay c.args.used c.args.arguments.now _ c.in_default-code.not-Lay));
      upper_bound = c.requires;
    }

pub returns-in-Lay : goal.returns-in-Lay
returns-in-Lay c =
    let a = c.args in
    let is = c.unwrap_or.ensures ∙ c.lay_length.ensures.value in
    let n = number_one a.arguments.now 0 in
    let m = number_one a.arguments.now 1 in
    let code = c.in-Lay.is in
    let call = c.in-Some.is in
    record {
      value = is ∙ rw (← n, ← m, call, code) (sym (needed a.used a.arguments.now c.told-arguments));
      upper_bound = rw is (lay_length_le _ _);
    }

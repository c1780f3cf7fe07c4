use Rattle.std.specs.Prelude.{Option, Some, is_some, unwrap_or}
use Rattle.std.specs.Result.{result_ok}
use mathlib.Core.Path.{◌≡◌, sym, ap, ◌∙◌}
use mathlib.Core.Bool.{true}
use Prim.Native.Nat.{ℕ}
use borrow.Author.Tests.{eq-eqb, ne_eqb}
use Rattle.layout.specs.Layout.{table_length, listed, lay_length}
use Rattle.layout.specs.View.{view}
use Rattle.layout.proofs.Sizes.{sized, lay_length_in}
use Rattle.rules.specs.Rules.{first, tests}
use Rattle.numbers.proofs.checks.check_lay.Goals as goal

-- a lay that needs some length has a size that there is, and needs the length of its table
lay_needs : (n m : ℕ) {o : Option ℕ} {need : ℕ} → unwrap_or o 0 ≡ lay_length n m → is_some o ≡ listed n m → o ≡ Some need
    → (listed n m ≡ true) × (need ≡ table_length n m)
lay_needs n m value some is =
    let l = sym some ∙ ap is_some is in (l, sym (ap (λ o. unwrap_or o 0) is) ∙ value ∙ lay_length_in n m ((sized n m).0 l))

pub returns-then-t-need : goal.returns-then-t-need
unfolding tests first view
returns-then-t-need c =
    let is = c.ok_or.ensures.ok_part ∙ ap result_ok c.in_ok-need.was in
    let needs = lay_needs c.args.n c.args.m c.lay_length.ensures.value c.lay_length.ensures.listed is in
    rw (needs.0, ne_eqb _ _ (λ z. c.if-t-need.true (z ∙ sym needs.1)))

pub returns-then-not-is_valid : goal.returns-then-not-is_valid
unfolding tests first view
returns-then-not-is_valid c =
    let is = c.ok_or.ensures.ok_part ∙ ap result_ok c.in_ok-need.was in
    let needs = lay_needs c.args.n c.args.m c.lay_length.ensures.value c.lay_length.ensures.listed is in
    rw (needs.0, eq-eqb _ _ (c.if-t-need.false ∙ needs.1), sym c.if-not-is_valid.ensures)

pub returns : goal.returns
unfolding tests first view
returns c =
    let is = c.ok_or.ensures.ok_part ∙ ap result_ok c.in_ok-need.was in
    let needs = lay_needs c.args.n c.args.m c.lay_length.ensures.value c.lay_length.ensures.listed is in
    rw (needs.0, eq-eqb _ _ (c.if-t-need.false ∙ needs.1), sym c.if-not-is_valid.ensures)

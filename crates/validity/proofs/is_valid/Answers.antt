use borrow.Author.Rules.{rules}
use native.Mathlib.Omega.{arith}
use mathlib.Core.Path.{◌∙◌}
use Rattle.layout.specs.Layout.{copy_size}
use Rattle.pairs.proofs.Pairs.{invalid}
use Rattle.validity.proofs.Same.{one_only}
use Rattle.validity.proofs.is_valid.Goals as goal

pub returns-then-config-ne-CONFIG_SIZE : goal.returns-then-config-ne-CONFIG_SIZE
returns-then-config-ne-CONFIG_SIZE c = invalid _ _ (λ v. c.if-config-ne-CONFIG_SIZE.true v.long)

pub returns-then-n-eq0 : goal.returns-then-n-eq0
returns-then-n-eq0 c = invalid _ _ (λ v. let h = v.positive in omega arith)

pub returns-then-n-gt16 : goal.returns-then-n-gt16
returns-then-n-gt16 c = invalid _ _ (λ v. let h = v.small in omega arith)

pub all_valid-requires : goal.all_valid-requires
all_valid-requires c =
    (search rules, search rules, search rules, search rules, λ k l. omega (arith, c.if-config-ne-CONFIG_SIZE.false))

pub returns : goal.returns
returns c = c.all_valid.ensures ∙ one_only _ _ copy_size c.if-config-ne-CONFIG_SIZE.false

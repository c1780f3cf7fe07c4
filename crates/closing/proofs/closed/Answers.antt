use Rattle.std.proofs.Common.{ap, ◌∙◌, rules, ◌+◌, arith}
use Rattle.layout.specs.View.{view}
use Rattle.closing.proofs.Answers.{not_spent, value_is, figures_are, not_last}
use Rattle.closing.proofs.closed.Goals as goal

pub next-requires : goal.next-requires
next-requires c =
    let unspent = rw c.in-Write.is at (not_spent c.requires.is_open c.requires.passed) in
    (omega arith, not_last c.args.version.0 (search rules) c.requires.version unspent)

pub next-requires-in-Change : goal.next-requires-in-Change
next-requires-in-Change c =
    let unspent = rw c.in-Change.is at (not_spent c.requires.is_open c.requires.passed) in
    (omega arith, not_last c.args.generation.0 (search rules) c.requires.generation unspent)

pub returns-in-Read : goal.returns-in-Read
returns-in-Read c =
    let pre = c.requires in
    c.after.ensures ∙ rw c.in-Read.is (figures_are (value_is _ _ pre.value c.value_at.ensures) pre.version pre.generation)

pub returns-in-Write : goal.returns-in-Write
unfolding view
returns-in-Write c =
    let pre = c.requires in
    c.after-in-Write.ensures ∙ rw c.in-Write.is (figures_are c.value.ensures (c.next.ensures ∙ ap (λ x. x + 1) pre.version) pre.generation)

pub returns-in-Change : goal.returns-in-Change
returns-in-Change c =
    let pre = c.requires in
    c.after-in-Change.ensures
    ∙ rw c.in-Change.is (figures_are (value_is _ _ pre.value c.value_at-in-Change.ensures) pre.version
    (c.next-in-Change.ensures ∙ ap (λ x. x + 1) pre.generation))

use native.Mathlib.Omega.{arith}
use mathlib.Core.Path.{◌≡◌, refl, sym, ◌∙◌}
use mathlib.Core.Bool.{true, false}
use borrow.Author.Tests.{not-true, not-false}
use Rattle.layout.specs.Layout.{table_length}
use Rattle.soundness.specs.Scan.{size_sound, head_sound}
use Rattle.soundness.proofs.Scan.{Size, size_facts, sound_parts, sound_change, sound_other, is_change, is_no_change}
use Rattle.soundness.proofs.is_sound.Goals as goal
use Rattle.soundness.proofs.is_sound.Goals.{Else-not-head_ok, Else-not-size_ok}

-- past the first two tests
size_passed : (c : Else-not-size_ok) → size_sound c.args.t.now ≡ true
size_passed c = sym c.size_ok.ensures ∙ not-false _ c.if-not-size_ok.false-raw

size : (c : Else-not-size_ok) → Size c.args.t.now
size c = size_facts _ (size_passed c)

head_passed : (c : Else-not-head_ok) → head_sound c.args.t.now ≡ true
head_passed c = sym c.head_ok.ensures ∙ not-false _ c.if-not-head_ok.false-raw

pub returns-then-not-size_ok : goal.returns-then-not-size_ok
returns-then-not-size_ok c = let t = c.args.t.now in
    let e : size_sound t ≡ false = sym c.size_ok.ensures ∙ not-true _ c.if-not-size_ok.true-raw in
    rw (sound_parts t, e)

pub head_ok-requires : goal.head_ok-requires
unfolding table_length
head_ok-requires c = let h = (size (goal.at.head_ok-requires c).Else-not-size_ok).long in omega arith

pub returns-then-not-head_ok : goal.returns-then-not-head_ok
returns-then-not-head_ok c = let t = c.args.t.now in
    let e : head_sound t ≡ false = sym c.head_ok.ensures ∙ not-true _ c.if-not-head_ok.true-raw in
    rw (sound_parts t, size_passed (goal.at.returns-then-not-head_ok c).Else-not-size_ok, e)

pub kind-requires : goal.kind-requires
unfolding table_length
kind-requires c = let h = (size (goal.at.kind-requires c).Else-not-size_ok).long in omega arith

pub returns-then-eq : goal.returns-then-eq
returns-then-eq c =
    let at = goal.at.returns-then-eq c in
    c.rest_ok.ensures
    ∙ sound_change _ (size_passed at.Else-not-size_ok) (head_passed at.Else-not-head_ok)
    (sym c.kind.ensures ∙ is_change _ c.kind.result refl refl (sym c.eq.ensures ∙ c.if-eq.true))

pub returns : goal.returns
returns c =
    let at = goal.at.returns c in
    c.rest_ok-2.ensures
    ∙ sound_other _ (size_passed at.Else-not-size_ok) (head_passed at.Else-not-head_ok)
    (λ e. is_no_change _ c.kind.result refl (sym c.eq.ensures ∙ c.if-eq.false) (c.kind.ensures ∙ e))

-- Demand 1, its fields on refusals, figures and numbers.
use mathlib.Core.Path.{◌≡◌, refl}
use mathlib.Core.Bool.{Bool, true, false, cond}
use mathlib.Core.List.{List}
use mathlib.Core.Logic.{◌⊎◌, inl, inr}
use Prim.Native.Nat.{ℕ}
use native.Mathlib.Omega.{arith}
use lib.Dec.{eqb}
use borrow.Author.Tests.{ne_eqb}
use Rattle.layout.specs.View.{State, view}
use Rattle.rules.specs.Calls.{Call}
use Rattle.rules.specs.Rules.{number_of}
use Rattle.rules.specs.Figures.{figures_of, no_figures}
use Rattle.rules.specs.declared.Figures.{Figures}
use Rattle.rules.specs.Reply.{reply_of, reply, after, answer}
use Rattle.rules.specs.Needs.{needs}
use Rattle.rules.specs.Demand1.{ZeroFigures, HasFigures, ListedNumber}
use Rattle.rules.specs.declared.Reply.{Reply}
use Rattle.rules.proofs.Chains.{gets-listed}
use Rattle.rules.proofs.Judged.{judged, number-gets}

pub refusal_changes_nothing : (t : List ℕ) (c : Call) → ((reply t c).number ≡ 0 → ⊥) → after t c ≡ t
unfolding reply_of after
refusal_changes_nothing t c h = rw (ne_eqb (number_of (view t) c) 0 h)

pub refusal_has_no_figures : (t : List ℕ) (c : Call) → ((reply t c).number ≡ 0 → ⊥) → ZeroFigures (reply t c)
unfolding reply_of
refusal_has_no_figures t c h = rw (ne_eqb (number_of (view t) c) 0 h) (refl, refl, refl)

-- the reply shows these figures
abbrev pub Shows : Reply → Figures → Type 0
Shows r f = (r.first ≡ f.first) × (r.second ≡ f.second) × (r.third ≡ f.third)

-- that of a call that is done shows those of the call
pub reply_figures : (t : List ℕ) (c : Call) → (reply t c).number ≡ 0 → Shows (reply t c) (figures_of (view t) c)
unfolding reply_of
reply_figures t c e = (rw e, rw e, rw e)

-- a call without figures has none whether it is done or refused
pub without_figures : (v : State) (c : Call) → (HasFigures c → ⊥) → figures_of v c ≡ no_figures
without_figures v c h = go (judged v c).figures
  where
    go : HasFigures c ⊎ (figures_of v c ≡ no_figures) → figures_of v c ≡ no_figures
    go (inl f) = absurd (h f)
    go (inr e) = e

no_figures_lem : (k : ℕ) → ZeroFigures (answer k no_figures)
no_figures_lem k = let z = same (eqb k 0) 0 in (z, z, z)
  where
    same : (b : Bool) (x : ℕ) → cond b x x ≡ x
    same true x = refl
    same false x = refl

pub other_calls_have_no_figures : (t : List ℕ) (c : Call) → (HasFigures c → ⊥) → ZeroFigures (reply t c)
unfolding reply_of
other_calls_have_no_figures t c h = rw (without_figures (view t) c h) (no_figures_lem (number_of (view t) c))

pub number_is_listed : (t : List ℕ) (c : Call) → ListedNumber c (reply t c).number
unfolding reply_of
number_is_listed t c =
    let v = view t in
    gets-listed (ListedNumber c) (inl (omega arith)) (needs v c) (judged v c).listed (number_of v c) ((number-gets v c (number_of v c)).0 refl)

-- Commit in an open round: its number, by the round's kind and what the code's tests come to, and its figures.
use mathlib.Core.Path.{◌≡◌, refl, sym, ap, ◌∙◌}
use mathlib.Core.Bool.{Bool, true, false, not, cond}
use mathlib.Core.List.{List}
use Prim.Native.Nat.{ℕ, ◌-◌, ◌^◌, ◌<◌}
use native.Mathlib.Omega.{arith}
use borrow.Author.Tests.{eqb-false}
use Rattle.basics.proofs.Tests.{either, fails}
use Rattle.quorum.specs.Configurations.{place_figure, holds_write}
use Rattle.layout.specs.Fields.{copy_from}
use Rattle.layout.specs.Newest.{station_figure}
use Rattle.layout.specs.Soundness.{sound}
use Rattle.layout.specs.View.{view, found_by_version, found_by_generation, version_from, read_place, heard}
use Rattle.layout.specs.declared.Kind.{Kind}
use Rattle.layout.specs.declared.Kind.TheVariants.{Read, Write, Change}
use Rattle.table.specs.Kinds.{opened_kind}
use Rattle.rules.specs.Calls.{commit}
use Rattle.rules.specs.Rules.{first, tests, idle, is_idle, last, spent, commit_tests}
use Rattle.rules.specs.Outcome.{refusal_number}
use Rattle.rules.specs.Figures.{closing, diagnosis, figures_of}
use Rattle.rules.specs.Reply.{reply}
use Rattle.rules.specs.declared.Figures.{Figures}
use Rattle.rules.specs.declared.Refusal.{Refusal}
use Rattle.rules.proofs.Judged.{sound-number}
use Rattle.rules.proofs.Outcomes.{refusal_some, bare, shows, refused, finished}
use Rattle.closing.specs.Closing.{OpenRound, HeardAt, VersionAt, closing_number}

-- ---- a round is open
open_kind : (k : Kind) → idle (opened_kind k) ≡ false
open_kind Read = refl
open_kind Write = refl
open_kind Change = refl

module _ {t : List ℕ} {kind : Kind} (o : OpenRound t kind) where
  not_idle : is_idle (view t) ≡ false
  not_idle = ap idle (sym o.kind_is) ∙ open_kind kind

  -- commit's number, by whether it is heard
  pub commit_number : {b : Bool} → heard (view t) ≡ b → cond (not b) 8 (closing_number t) ≡ first (tests (view t) commit)
  unfolding tests first
  commit_number h = rw (not_idle, h)

  -- in a heard round, by its kind
  pub by_kind : closing_number t ≡ first (commit_tests (view t) (opened_kind kind))
  by_kind = ap (λ k. first (commit_tests (view t) k)) (sym o.kind_is)

  -- a number of 0 says that the counter is not spent
  pub not_spent : closing_number t ≡ 0 → spent (view t) (opened_kind kind) ≡ false
  unfolding first
  not_spent z = fails _ (λ s. let y : ◌≡◌ {A = ℕ} 10 0 = sym (by_kind ∙ rw s) ∙ z in absurd (omega arith))

  -- the reply of a commit, by its number: refused, or done with these figures
  pub refused_commit : sound t ≡ true → (e : Refusal) → refusal_number e ≡ first (tests (view t) commit) → bare (refusal_number e) ≡ reply t commit
  refused_commit s e q = (refused t s commit refl e q).value

  pub done_commit : sound t ≡ true → {f : Figures} → 0 ≡ first (tests (view t) commit) → f ≡ closing (view t) (opened_kind kind) → shows f ≡ reply t commit
  unfolding figures_of
  done_commit s q p = (finished t s commit refl q (p ∙ ap (closing (view t)) o.kind_is) refl).value

  -- what diagnose shows
  pub diagnosis_is : sound t ≡ true → {x y z : ℕ} → x ≡ first (tests (view t) commit) → y ≡ station_figure (version_from (view t))
      → z ≡ place_figure (read_place (view t)) → record { first = x; second = y; third = z } ≡ diagnosis (view t)
  unfolding view
  diagnosis_is s e p q = let n = e ∙ sym (sound-number (view t) commit refl s) in λ i. record { first = n i; second = p i; third = q i }

  -- the number by the one test of a heard round
  pub unheard_refusal : (e : Refusal) → refusal_number e ≡ cond (not (heard (view t))) 8 0 → refusal_number e ≡ first (tests (view t) commit)
  unheard_refusal e q =
      either (heard (view t)) (λ h. let z : refusal_number e ≡ 0 = rw h at q in absurd (omega (arith, refusal_some e)))
      (λ h. let z : refusal_number e ≡ 8 = rw h at q in z ∙ commit_number h)

pub heard_passed : {b : Bool} → ◌≡◌ {A = ℕ} 0 (cond (not b) 8 0) → b ≡ true
heard_passed {b} e = either b (λ h. h) (λ h. absurd (omega (arith, rw h at e)))

-- ---- what is read from the newest copies is what the round has found
pub value_is : (t : List ℕ) (b : ℕ) {x : ℕ} → VersionAt t b → x ≡ (copy_from t b).value → x ≡ (found_by_version (view t)).value
value_is t b h e = rw h.0 e

pub config_is : {t : List ℕ} {kind : Kind} {g : ℕ} {c : List ℕ} → HeardAt t kind g → c ≡ (copy_from t g).config → c ≡ (found_by_generation (view t)).config
config_is h e = rw h.generation e

pub figures_are : {a b c x y z : ℕ} → a ≡ x → b ≡ y → c ≡ z
    → ◌≡◌ {A = Figures} (record { first = a; second = b; third = c }) (record { first = x; second = y; third = z })
figures_are p q r = λ i. record { first = p i; second = q i; third = r i }

-- ---- the code's tests
-- a counter that is not the last can be raised
pub not_last : (x : ℕ) {y : ℕ} → x < 2 ^ 64 → x ≡ y → last y ≡ false → x < 2 ^ 64 - 1
not_last x l e f = let h : x ≡ 2 ^ 64 - 1 → ⊥ = eqb-false x (2 ^ 64 - 1) (ap (λ z. last z) e ∙ f) in omega arith

-- whether puts hold a write set, by the configuration and the puts that were read
pub held : {r : Bool} {c c' : List ℕ} {d d' : ℕ} → r ≡ holds_write c d → c ≡ c' → d ≡ d' → holds_write c' d' ≡ r
held e f g = rw (← f, ← g) (sym e)

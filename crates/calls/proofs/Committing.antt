-- Commit: what its tests come to, and what it stores.
use mathlib.Core.Path.{◌≡◌, refl, sym, ap, ◌∙◌}
use mathlib.Core.List.{List}
use Prim.Native.Nat.{ℕ}
use native.Mathlib.Omega.{arith}
use Rattle.basics.proofs.Tests.{either}
use Rattle.layout.specs.Fields.{Round, stations, round_of, new_copy}
use Rattle.layout.specs.Updates.{put_copies, closed}
use Rattle.layout.specs.View.{State, view}
use Rattle.rules.specs.Calls.{abandon, commit, diagnose}
use Rattle.rules.specs.Outcome.{refusal_number}
use Rattle.rules.specs.Rules.{first, tests, is_idle, number_of}
use Rattle.rules.specs.Figures.{closing, figures_of}
use Rattle.rules.specs.After.{stores, done}
use Rattle.rules.specs.Reply.{reply_of, reply, after}
use Rattle.rules.specs.declared.Figures.{Figures}
use Rattle.rules.specs.declared.Refusal.{Refusal}
use Rattle.rules.proofs.Outcomes.{refusal_some, bare, shows, Answers, by_refusal}

-- abandon's refusal is commit's, and diagnose's
pub commit_asks : (v : State) (e : Refusal) → refusal_number e ≡ first (tests v abandon) → refusal_number e ≡ first (tests v commit)
unfolding tests first
commit_asks v e q =
    either (is_idle v) (λ i. rw i at q ∙ rw i) (λ i. let none : refusal_number e ≡ 0 = rw i at q in absurd (omega (arith, refusal_some e)))

pub diagnose_asks : (v : State) → first (tests v abandon) ≡ first (tests v diagnose)
unfolding tests
diagnose_asks v = refl

-- a reply that is commit's, refused or done
pub commit_refused : (t : List ℕ) (e : Refusal) → bare (refusal_number e) ≡ reply t commit → Answers t commit (bare (refusal_number e)) t
unfolding reply_of
commit_refused t e r = by_refusal t commit e (ap (λ x. x.number) r)

module _ (t : List ℕ) {f : Figures} (e : shows f ≡ reply t commit) where
  commit_number : 0 ≡ number_of (view t) commit
  unfolding reply_of
  commit_number = ap (λ x. x.number) e

  -- what is stored are its figures and the round's target
  stored_is : new_copy f.second f.first f.third (view t).round.target ≡ stores (closing (view t) (view t).round.kind) (view t).round.target
  unfolding reply_of figures_of
  stored_is =
      let z : number_of (view t) commit ≡ 0 = sym commit_number in
      let c = closing (view t) (view t).round.kind in
      let first : f.first ≡ c.first = ap (λ x. x.first) e ∙ rw z in
      let second : f.second ≡ c.second = ap (λ x. x.second) e ∙ rw z in
      let third : f.third ≡ c.third = ap (λ x. x.third) e ∙ rw z in
      λ i. new_copy (second i) (first i) (third i) (view t).round.target

  -- by the stations and the round that were read
  pub commit_finished : {u : List ℕ} {n : ℕ} {r : Round} → n ≡ stations t → r ≡ round_of t
      → u ≡ closed (put_copies t n r (new_copy f.second f.first f.third r.target) n) → Answers t commit (shows f) u
  unfolding after done view
  commit_finished a b q =
      let z : number_of (view t) commit ≡ 0 = sym commit_number in
      record { value = e; table_after = q ∙ rw (a, b, z, stored_is) }

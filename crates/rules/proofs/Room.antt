-- Every figure has room in its 8 bytes.
use mathlib.Core.Path.{◌≡◌, refl}
use mathlib.Core.Bool.{Bool, true, false, cond}
use mathlib.Core.Logic.{◌⊎◌, inl, inr}
use Prim.Native.Nat.{ℕ, zero, suc, ◌^◌, ◌≤◌, ◌<◌}
use native.Mathlib.Omega.{arith}
use Rattle.basics.specs.Bytes.{AreBytes}
use Rattle.quorum.specs.Configurations.{holds_write}
use Rattle.layout.specs.Rounds.{with_poll}
use Rattle.layout.specs.Newest.{by_generation, hears}
use Rattle.layout.specs.View.{Table, view, own, on_bus}
use Rattle.layout.proofs.Newer.{station_fits, place_fits}
use Rattle.layout.proofs.Soundness.{is_sound_lem}
use Rattle.plan.proofs.Plan.{plan_fits}
use Rattle.rules.specs.Calls.{Call, commit}
use Rattle.rules.specs.Figures.{figures_of, no_figures}
use Rattle.rules.specs.Reply.{reply_of, reply}
use Rattle.rules.specs.Passed.{Word}
use Rattle.rules.specs.Needs.{Allowed, needs}
use Rattle.rules.specs.Demand1.{ListedNumber, HasFigures, of_poll, of_commit, of_reach, of_diagnose, of_plan}
use Rattle.rules.proofs.Judged.{judged}
use Rattle.rules.proofs.Views.{Fit, closing_fits}
use Rattle.rules.proofs.Laws.{commit_heard, commit_unspent, done_allowed}
use Rattle.rules.proofs.Demand1.{refusal_has_no_figures, reply_figures, number_is_listed}

at_most_3 : (a b : Bool) → cond a (cond b 3 1) 0 < 2 ^ 64
at_most_3 true true = omega arith
at_most_3 true false = omega arith
at_most_3 false b = omega arith

-- commit gets none of the numbers that requests gave to other calls
commit_listed : {k : ℕ} → ListedNumber commit k → k ≤ 11
commit_listed (inl l) = l
commit_listed (inr p) = let z : ◌≡◌ {A = ℕ} 0 1 = cc p.1 in absurd (omega arith)

module _ (t : Table) (b : AreBytes t) where
  figured_fits : {c : Call} → HasFigures c → Allowed (view t) c → Fit (figures_of (view t) c)
  unfolding figures_of needs reply_of
  figured_fits (of_poll {s}) a =
      let place = place_fits (own (view t)) (with_poll (view t).round s).polled (view t).n in
      (omega arith, omega arith, omega arith)
  figured_fits of_commit a = closing_fits t b (view t).round.kind (commit_heard t a) (commit_unspent t a)
  figured_fits (of_reach {i}) a =
      let on = on_bus (view t) in
      let found = by_generation ((view t).copies i) on (view t).n in
      (at_most_3 (hears ((view t).copies i) on (view t).n) (holds_write found.config on), omega arith, omega arith)
  figured_fits of_diagnose a =
      let v = view t in
      let number = commit_listed (number_is_listed t commit) in
      let station = station_fits (λ s. (own v s).version) v.round.polled v.n in
      let few = (is_sound_lem t a.0).small in
      let place = place_fits (own v) v.round.polled v.n in
      (omega arith, omega arith, omega arith)
  figured_fits (of_plan {i}) a =
      let fits = plan_fits ((view t).copies i) (on_bus (view t)) (view t).n in (omega (arith, fits.0), omega (arith, fits.1), omega arith)

  done_fits : (c : Call) → Allowed (view t) c → Fit (figures_of (view t) c)
  done_fits c a = go (judged (view t) c).figures
    where
      go : HasFigures c ⊎ (figures_of (view t) c ≡ no_figures) → Fit (figures_of (view t) c)
      go (inl h) = figured_fits h a
      go (inr e) = rw e (omega arith, omega arith, omega arith)

  abbrev Fits : Call → Type 0
  Fits c = Word (reply t c).first × Word (reply t c).second × Word (reply t c).third

  by_number : (c : Call) (k : ℕ) → (reply t c).number ≡ k → Fits c
  by_number c zero e =
      let f = done_fits c (done_allowed t c e) in let s = reply_figures t c e in (rw s.0 f.0, rw s.1 f.1, rw s.2 f.2)
  by_number c (suc k) e =
      let z = refusal_has_no_figures t c (λ q. omega arith) in (rw z.0 (omega arith), rw z.1 (omega arith), rw z.2 (omega arith))

pub figures_fit : (t : Table) (c : Call) → AreBytes t → Word (reply t c).first × Word (reply t c).second × Word (reply t c).third
figures_fit t c b = by_number t b c (reply t c).number refl

-- The reply that an outcome stands for and the table after it, from the number of the call: refused, or done.
use mathlib.Core.Path.{◌≡◌, sym, ◌∙◌}
use mathlib.Core.Bool.{true, false}
use mathlib.Core.List.{List}
use Prim.Native.Nat.{ℕ, ◌≤◌}
use native.Mathlib.Omega.{arith}
use borrow.Author.Tests.{ne_eqb}
use Rattle.std.specs.Prelude.{Result}
use Rattle.std.specs.Result.{IsErrAnd}
use Rattle.std.proofs.lemmas.Result.{err_from_is_err_and}
use Rattle.layout.specs.Soundness.{sound}
use Rattle.layout.specs.View.{view}
use Rattle.rules.specs.Calls.{Call, is_lay}
use Rattle.rules.specs.Rules.{first, tests, number_of}
use Rattle.rules.specs.Outcome.{refusal_number, plain_reply, reply_to}
use Rattle.rules.specs.Figures.{no_figures, figures_of}
use Rattle.rules.specs.After.{done}
use Rattle.rules.specs.Reply.{reply_of, reply, after}
use Rattle.rules.specs.Needs.{Allowed}
use Rattle.rules.specs.declared.Figures.{Figures}
use Rattle.rules.specs.declared.Refusal.{Refusal}
use Rattle.rules.specs.declared.Reply.{Reply}
use Rattle.rules.proofs.Judged.{allowed, sound-number}

pub refusal_some : (e : Refusal) → 1 ≤ refusal_number e
refusal_some e = grind arith

-- the reply with a number and no figures, and that of a call that is done
abbrev pub bare : ℕ → Reply
bare k = record { number = k; first = 0; second = 0; third = 0 }

abbrev pub shows : Figures → Reply
shows f = record { number = 0; first = f.first; second = f.second; third = f.third }

-- the reply to a call, and the table after it, as the contracts name the two
abbrev pub Answers : List ℕ → Call → Reply → List ℕ → Type 0
Answers t c r u = record { value : r ≡ reply t c; table_after : u ≡ after t c }

module _ (t : List ℕ) (c : Call) where
  pub by_refusal : (e : Refusal) → refusal_number e ≡ number_of (view t) c → Answers t c (bare (refusal_number e)) t
  unfolding reply_of after
  by_refusal e q =
      let z = ne_eqb (refusal_number e) 0 (λ z. omega (arith, refusal_some e)) in
      record { value = rw (← q, z); table_after = rw (← q, z) }

  pub by_doing : {f : Figures} {u : List ℕ} → 0 ≡ number_of (view t) c → f ≡ figures_of (view t) c → u ≡ done t (view t) c → Answers t c (shows f) u
  unfolding reply_of after
  by_doing q p r = record { value = rw (← q, p); table_after = r ∙ rw (← q) }

  -- a call with no figures
  pub by_plain : {u : List ℕ} → 0 ≡ number_of (view t) c → figures_of (view t) c ≡ no_figures → u ≡ done t (view t) c → Answers t c (bare 0) u
  by_plain q p r = by_doing q (sym p) r

-- ---- on a sound table the number is that of the call's own tests
module _ (t : List ℕ) (s : sound t ≡ true) (c : Call) (l : is_lay c ≡ false) where
  number_is : {k : ℕ} → k ≡ first (tests (view t) c) → k ≡ number_of (view t) c
  unfolding view
  number_is e = e ∙ sym (sound-number (view t) c l s)

  pub refused : (e : Refusal) → refusal_number e ≡ first (tests (view t) c) → Answers t c (bare (refusal_number e)) t
  refused e q = by_refusal t c e (number_is q)

  -- where a `?` hands the refusal on, in a call without figures and in one with them
  pub refused_plain : (r : Result Unit Refusal) (e : Refusal) → IsErrAnd r (λ x. x ≡ e) → refusal_number e ≡ first (tests (view t) c)
      → Answers t c (plain_reply r) t
  refused_plain r e h q = let p = err_from_is_err_and r h in rw (p.1, p.2) (refused e q)

  pub refused_figures : (r : Result Figures Refusal) (e : Refusal) → IsErrAnd r (λ x. x ≡ e) → refusal_number e ≡ first (tests (view t) c)
      → Answers t c (reply_to r) t
  refused_figures r e h q = let p = err_from_is_err_and r h in rw (p.1, p.2) (refused e q)

  pub finished : {f : Figures} {u : List ℕ} → 0 ≡ first (tests (view t) c) → f ≡ figures_of (view t) c → u ≡ done t (view t) c → Answers t c (shows f) u
  finished q p r = by_doing t c (number_is q) p r

  pub plain_finished : {u : List ℕ} → 0 ≡ first (tests (view t) c) → figures_of (view t) c ≡ no_figures → u ≡ done t (view t) c → Answers t c (bare 0) u
  plain_finished q p r = by_plain t c (number_is q) p r

  -- what its tests have shown
  pub shown : 0 ≡ first (tests (view t) c) → Allowed (view t) c
  shown q = allowed (view t) c (sym (number_is q))

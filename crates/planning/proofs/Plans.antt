-- The reply to plan, from what the walks found.
use mathlib.Core.Path.{◌≡◌, sym, ap, ◌∙◌}
use mathlib.Core.Bool.{Bool, true, false, not, cond}
use mathlib.Core.List.{List}
use Prim.Native.Nat.{ℕ, ◌<◌}
use native.Mathlib.Omega.{arith}
use borrow.Author.Tests.{lt-ltb}
use Rattle.basics.proofs.Tests.{either}
use Rattle.quorum.specs.Sets.{within}
use Rattle.quorum.specs.Configurations.{place_figure, is_place, holds_write}
use Rattle.quorum.proofs.Promise.{promise}
use Rattle.layout.specs.Fields.{stations, items, copies_of}
use Rattle.layout.specs.Soundness.{sound}
use Rattle.layout.specs.View.{State, view, on_bus}
use Rattle.layout.proofs.OneWalk.{generation_found}
use Rattle.layout.proofs.Soundness.{is_sound_lem}
use Rattle.plan.specs.Starts.{rising, first_start}
use Rattle.plan.specs.Plan.{found_by_start, puts_needed, planned_polls}
use Rattle.rules.specs.Calls.{reach, plan}
use Rattle.rules.specs.Rules.{first, tests, no_item}
use Rattle.rules.specs.Figures.{figures_of}
use Rattle.rules.specs.Outcome.{refusal_number}
use Rattle.rules.specs.declared.Refusal.{Refusal}
use Rattle.rules.proofs.Outcomes.{refusal_some}
use Rattle.rules.proofs.Steps.{on_bus_lem}
use Rattle.planning.specs.Planning.{Says}
use Rattle.std.specs.Prelude.{Some, None}
use Rattle.planning.specs.declared.FirstHeard.{FirstHeard}

-- reach's one test is plan's first
pub no_item_lem : (v : State) (i : ℕ) (e : Refusal) → refusal_number e ≡ first (tests v (reach i)) → refusal_number e ≡ first (tests v (plan i))
unfolding tests first
no_item_lem v i e q =
    either (no_item v i) (λ z. rw z at q ∙ rw z) (λ z. let none : refusal_number e ≡ 0 = rw z at q in absurd (omega (arith, refusal_some e)))

module _ (t : List ℕ) (s : sound t ≡ true) (i : ℕ) (l : i < items t) {n on : ℕ} (a : n ≡ stations t) (b : on ≡ on_bus (view t)) where
  -- the stations on the bus are among the n
  pub on_within : within n on ≡ true
  unfolding view
  on_within = rw (a, b) (promise.member_within (stations t) (on_bus (view t)) (λ k m. ((on_bus_lem (view t) (is_sound_lem t s).small k).0 m).0))

  -- past the first test the number is by whether a start is heard
  numbered : (place : Bool) → place ≡ is_place (planned_polls (view t) i) → cond (not place) 15 0 ≡ first (tests (view t) (plan i))
  unfolding tests first view
  numbered place e = rw (e, lt-ltb i (items t) l)

  pub unheard : Says (copies_of t n i) n on None → 15 ≡ first (tests (view t) (plan i))
  unfolding view
  unheard e = let z = rw (a, b) at e in numbered false (sym ((promise.figure_none _).0 z))

  -- ---- heard, and the puts judged by the configuration found
  module _ (one : FirstHeard) {puts : ℕ} {config : List ℕ} (e : Says (copies_of t n i) n on (Some one))
      (c : config ≡ (copies_of t n i one.newest.by_generation).config) (p : puts ≡ place_figure (first_start (holds_write config) (rising on))) where
    pub heard : 0 ≡ first (tests (view t) (plan i))
    unfolding view
    heard = let z = rw (a, b) at e.1 in numbered true (sym ((promise.figure_place _).0 (rw z at e.0)))

    found : config ≡ (found_by_start (copies_of t n i) on n).config
    found = c ∙ ap (λ x. x.config) (sym (generation_found _ _ _ e.2))

    puts_found : puts ≡ place_figure (puts_needed (copies_of t n i) on n)
    unfolding puts_needed
    puts_found = p ∙ ap (λ x. place_figure (first_start (holds_write x) (rising on))) found

    pub figures : record { first = one.polls; second = puts; third = 0 } ≡ figures_of (view t) (plan i)
    unfolding view figures_of
    figures = let x = rw (a, b) at e.1 in let y = rw (a, b) at puts_found in λ j. record { first = x j; second = y j; third = 0 }

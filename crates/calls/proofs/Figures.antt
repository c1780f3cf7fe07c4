-- The figures of poll and reach, from what the walk has found.
use mathlib.Core.Path.{◌≡◌, ap, ◌∙◌}
use mathlib.Core.Bool.{Bool, true, false, cond}
use mathlib.Core.List.{List}
use Prim.Native.Nat.{ℕ}
use Rattle.quorum.specs.Configurations.{place_figure, holds_write}
use Rattle.std.specs.Prelude.{Option}
use Rattle.layout.specs.Fields.{stations, round_of, copies_of}
use Rattle.layout.specs.Newest.{heard_place, hears}
use Rattle.layout.specs.Rounds.{with_poll}
use Rattle.layout.specs.View.{view, on_bus}
use Rattle.newest.specs.declared.Newest.{Newest}
use Rattle.rounds.specs.Heard.{HasFound}
use Rattle.rounds.proofs.Hearing.{config_is}
use Rattle.rules.specs.Calls.{poll}
use Rattle.rules.specs.Figures.{one_figure, reach_figure, figures_of}

-- ---- poll
-- by the stations and the item that were read, and the polled set with one more station
pub poll_figure : (t : List ℕ) (s : ℕ) {n i polled figure : ℕ} {place : Option ℕ} → n ≡ stations t → i ≡ (round_of t).item
    → polled ≡ (with_poll (round_of t) s).polled → place ≡ heard_place (copies_of t n i) polled n → figure ≡ place_figure place
    → one_figure figure ≡ figures_of (view t) (poll s)
unfolding figures_of view
poll_figure t s e f g h q =
    let own = rw (e, f, g) at h in ap one_figure (q ∙ ap place_figure own)

-- ---- reach: what polling the stations on the bus finds
module _ (t : List ℕ) (i : ℕ) {n on : ℕ} (a : n ≡ stations t) (on_bus_lem : on ≡ on_bus (view t)) where
  -- not heard
  pub not_reached : hears (copies_of t n i) on n ≡ false → 0 ≡ reach_figure (view t) i
  unfolding view
  not_reached e = let h = rw (a, on_bus_lem) at e in rw h

  -- heard, and judged by the configuration found
  pub reached : {newest : Newest} {config : List ℕ} {writes : Bool} → hears (copies_of t n i) on n ≡ true → HasFound t n i on newest
      → config ≡ (copies_of t n i newest.by_generation).config → writes ≡ holds_write config on → cond writes 3 1 ≡ reach_figure (view t) i
  unfolding view
  reached e f c w =
      let h = rw (a, on_bus_lem) at e in
      let q = rw (a, on_bus_lem) at (w ∙ ap (λ x. holds_write x on) (config_is t n i on f c)) in
      rw (h, q)

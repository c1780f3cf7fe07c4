-- The plan of an item: what its two figures say of starts.
use mathlib.Core.Path.{◌≡◌, refl, ap}
use mathlib.Core.Bool.{true, false}
use mathlib.Core.List.{List}
use mathlib.Core.Logic.{◌↔◌}
use Prim.Native.Nat.{ℕ, zero, suc, ◌≤◌, ◌<◌}
use native.Mathlib.Omega.{arith}
use lib.ListN.{length}
use Rattle.basics.proofs.Tests.{clash, fails}
use Rattle.basics.proofs.Listing.{passing_few}
use Rattle.quorum.specs.Sets.{member}
use Rattle.quorum.specs.Configurations.{place_figure, is_place, holds_write}
use Rattle.quorum.specs.Promise.{SamePasses}
use Rattle.quorum.proofs.Promise.{promise}
use Rattle.layout.specs.Fields.{Copy}
use Rattle.layout.specs.Newest.{hears}
use Rattle.layout.specs.View.{CopyBy}
use Rattle.layout.proofs.Newer.{generation_by, hears_alike}
use Rattle.plan.specs.Starts.{rising, start, first_start}
use Rattle.plan.specs.Plan.{polls_needed, heard_start, found_by_start, puts_needed}
use Rattle.plan.proofs.Starts.{start-part, start_more, start_whole, at_first, before_first, in_order, passes_late}

module _ (copies : ℕ → Copy) (on n : ℕ) where
  abbrev order : List ℕ
  order = rising on

  abbrev polls : ℕ
  polls = place_figure (polls_needed copies on n)

  abbrev puts : ℕ
  puts = place_figure (puts_needed copies on n)

  hears_nothing : hears copies 0 n ≡ false
  unfolding hears
  hears_nothing = promise.none_read _

  -- neither figure is more than the stations on the bus, which are 16 at most
  pub polls-listed : polls ≤ length order
  unfolding polls_needed
  polls-listed = in_order (λ set. hears copies set n) order hears_nothing

  puts-listed : puts ≤ length order
  unfolding puts_needed
  puts-listed = in_order (holds_write _) order (promise.none_write _)

  pub plan_fits : (polls ≤ 16) × (puts ≤ 16)
  plan_fits = let few = passing_few (member on) 16 in (omega (arith, polls-listed), omega (arith, puts-listed))

  -- all stations on the bus are the longest start
  pub all-started : ((s : ℕ) → member on s ≡ true → s < 16) → start order (length order) ≡ on
  all-started few = promise.same_members _ on (start-part on (length order)) (λ s m. start_whole on s (few s m) m)

  -- ---- the polls
  pub in_hearing : (is_place (polls_needed copies on n) ≡ true) ↔ ((k : ℕ) × (hears copies (start order k) n ≡ true))
  unfolding polls_needed
  in_hearing = (
    λ e. (polls, at_first (λ set. hears copies set n) order hears_nothing ((promise.figure_place _).1 e)),
    λ h. (promise.figure_place _).0 (passes_late (λ set. hears copies set n) order hears_nothing h.0 h.1).0,
  )

  pub heard_then : 1 ≤ polls → hears copies (heard_start copies on n) n ≡ true
  unfolding polls_needed
  heard_then = at_first (λ set. hears copies set n) order hears_nothing

  pub unheard_before : (k : ℕ) → k < polls → hears copies (start order k) n ≡ false
  unfolding polls_needed
  unheard_before = before_first (λ set. hears copies set n) order hears_nothing

  -- ---- the puts, by the configuration that those polls find
  module _ {config : List ℕ} (its : (found_by_start copies on n).config ≡ config) where
    figured : puts ≡ place_figure (first_start (holds_write config) order)
    unfolding puts_needed
    figured = ap (λ c. place_figure (first_start (holds_write c) order)) its

    pub written_from : (k : ℕ) → (holds_write config (start order k) ≡ true) ↔ ((1 ≤ puts) × (puts ≤ k))
    written_from k =
        let test = holds_write config in
        let none = promise.none_write config in
        rw figured (
          passes_late test order none k,
          λ l. promise.write_more config _ (start order k) (start_more on _ k l.1) (at_first test order none l.0),
        )

    pub unwritten : ((s : ℕ) → member on s ≡ true → s < 16) → (puts ≡ 0) ↔ (holds_write config on ≡ false)
    unwritten few = (
      λ z. fails (holds_write config on) (λ e. let l = ((written_from (length order)).0 (rw (all-started few) e)).0 in omega (arith, z)),
      go puts refl,
    )
      where
        go : (q : ℕ) → puts ≡ q → holds_write config on ≡ false → puts ≡ 0
        go zero z e = z
        go (suc q) z e = clash (rw (all-started few) at ((written_from (length order)).1 (omega (arith, z), puts-listed))) e

-- ---- only the copies that there are count, and of these only generations and what passes
module _ (R : List ℕ → List ℕ → Type 0) (itself : (c : List ℕ) → R c c) (passes : (c d : List ℕ) → R c d → SamePasses c d)
    (cs ds : ℕ → Copy) (on n : ℕ) (e : (s : ℕ) → s < n → CopyBy R (cs s) (ds s)) where
  pub polls_same : polls_needed cs on n ≡ polls_needed ds on n
  unfolding polls_needed
  polls_same =
      promise.first_same _ _ _ (λ k l. hears_alike cs ds (start (rising on) (suc k)) n (λ s h. ((e s h).generation, (passes _ _ (e s h).config).reads)))

  pub puts_same : puts_needed cs on n ≡ puts_needed ds on n
  unfolding puts_needed
  puts_same =
      rw polls_same (promise.first_same _ _ _ (λ k l.
      (passes _ _ (generation_by R itself cs ds (heard_start ds on n) n e).config).writes (start (rising on) (suc k))))

-- What the walk has found as the stations are polled one by one, and what `first_heard` says then.
use mathlib.Core.Path.{◌≡◌, sym, ap, ◌∙◌}
use mathlib.Core.Bool.{true}
use Prim.Native.Nat.{ℕ, ◌+◌}
use native.Mathlib.Omega.{arith}
use Rattle.quorum.specs.Sets.{within, join, lowest}
use Rattle.layout.specs.Fields.{Copy}
use Rattle.layout.specs.Newest.{hears}
use Rattle.layout.specs.Walk.{Walked, onward, walk}
use Rattle.layout.proofs.OneWalk.{walk-joined}
use Rattle.newest.specs.declared.Newest.{Newest}
use Rattle.newest.specs.Walks.{as_walked}
use Rattle.plan.specs.Starts.{rising, start}
use Rattle.plan.specs.Plan.{polls_needed}
use Rattle.planning.specs.Planning.{Says}
use Rattle.std.specs.Prelude.{Option, Some, None}
use Rattle.planning.proofs.Walking.{Position, next-below, next_16, above, is_start, NoneUpTo, first_passes, none_at_all}

-- after a turn the walk is that over the stations taken: the next one is above them
pub walk_turn : (copies : ℕ → Copy) (n : ℕ) {on count rest taken : ℕ} {o : Option Walked} → Position on count rest taken → within n on ≡ true → (rest ≡ 0 → ⊥)
    → o ≡ walk copies taken n → {s more : ℕ} {w : Walked} → s ≡ lowest rest → more ≡ join taken s → w ≡ onward copies s o → walk copies more n ≡ Some w
walk_turn copies n {taken = taken} p inside h e {s} q t x =
    ap (λ y. walk copies y n) t ∙ walk-joined copies taken s n (next_16 p h q) (above p h q) (next-below p h q n inside)
    ∙ ap Some (ap (onward copies s) (sym e) ∙ sym x)

-- ---- the answers of `first_heard`
module _ (copies : ℕ → Copy) (n : ℕ) {on count rest taken : ℕ} (none : NoneUpTo (λ set. hears copies set n) on count) where
  pub says_after : Position on (count + 1) rest taken → {newest : Newest} → walk copies taken n ≡ Some (as_walked newest)
      → hears copies taken n ≡ true → Says copies n on (Some (record { polls = count + 1; newest = newest }))
  unfolding polls_needed
  says_after p e heard =
      let polls = first_passes none p heard in
      (omega arith, sym polls, ap (λ k. walk copies (start (rising on) k) n) polls ∙ ap (λ set. walk copies set n) (sym (is_start p)) ∙ e)

  pub says_never : Position on count rest taken → rest ≡ 0 → Says copies n on None
  unfolding polls_needed
  says_never p z = none_at_all none p z

-- Polls one after the other: what each shows, and which is the first that shows the round heard.
use mathlib.Core.Path.{◌≡◌, refl, ap}
use mathlib.Core.Bool.{Bool, true, false}
use mathlib.Core.List.{List, [], ◌∷◌}
use mathlib.Core.Logic.{◌↔◌}
use Prim.Native.Nat.{ℕ, zero, suc, ◌≤◌, ◌<◌}
use native.Mathlib.Nat.{not-suc-le-zero}
use native.Mathlib.Omega.{arith}
use lib.ListN.{length, take}
use Rattle.quorum.proofs.Promise.{promise}
use Rattle.layout.specs.Fields.{none, Round}
use Rattle.layout.specs.Newest.{hears}
use Rattle.layout.specs.Rounds.{with_poll}
use Rattle.layout.specs.View.{Table, State}
use Rattle.plan.specs.Starts.{joined}
use Rattle.rules.specs.Calls.{poll}
use Rattle.rules.specs.Reply.{after}
use Rattle.rules.specs.Lists.{replies}
use Rattle.rules.specs.WholeRounds.{polls}
use Rattle.rules.specs.declared.Reply.{Reply}
use Rattle.rules.proofs.Asking.{ThoseOn, first_on, rest_on, Asking, one_polled}
use Rattle.plan_exact.specs.PlanExact.{FirstHeardAt, NeverHeard}

-- every poll is done, and the one at place k shows the round heard exactly if h k holds
abbrev pub EachShows : (ℕ → Bool) → List Reply → Type 0
EachShows h [] = Unit {0}
EachShows h (r ∷ rest) =
    (r.number ≡ 0) × ((1 ≤ r.first) ↔ (h 0 ≡ true)) × ((r.first ≡ 0) ↔ (h 0 ≡ false)) × EachShows (λ k. h (suc k)) rest

-- ---- of a round: h k is that the stations polled up to that place are heard
module _ (v : State) (is_sound : v.is_sound ≡ true) (few : v.n ≤ 16) where
  pub each_shows : (order : List ℕ) → ThoseOn v order → (r : Round) (u : Table) → Asking v r u
      → r.item < v.m → (r.kind ≡ none → ⊥) → r.data_puts ≡ 0 → r.config_puts ≡ 0
      → EachShows (λ k. hears (v.copies r.item) (joined r.polled (take (suc k) order)) v.n) (replies u (polls order))
  unfolding replies hears
  each_shows [] on r u a item busy d c = tt
  each_shows (s ∷ order) on r u a item busy d c =
      let one = one_polled v is_sound few s (first_on v s order on) r u a item busy d c in
      let rest = each_shows order (rest_on v s order on) (with_poll r s) (after u (poll s)) one.asking item busy d c in
      (one.done, rw one.says (promise.figure_place _), rw one.says (promise.figure_none _), rest)

pub as_many : (order : List ℕ) (u : Table) → length (replies u (polls order)) ≡ length order
unfolding replies
as_many [] u = refl
as_many (s ∷ order) u = ap suc (as_many order (after u (poll s)))

-- ---- of such replies: heard at place p and at none before it, or at none at all
pub first-heard : (h : ℕ → Bool) (answers : List Reply) → EachShows h answers → (p : ℕ) → p < length answers → ((k : ℕ) → k < p → h k ≡ false)
    → h p ≡ true → FirstHeardAt (suc p) answers
first-heard h [] shows p l before e = absurd (not-suc-le-zero l)
first-heard h (r ∷ rest) shows zero l before e = (shows.0, shows.1.1 e)
first-heard h (r ∷ rest) shows (suc p) l before e = (
  shows.0,
  shows.2.1 (before 0 (omega arith)),
  first-heard (λ k. h (suc k)) rest shows.3 p (omega arith) (λ k m. before (suc k) (omega arith)) e,
)

pub never_heard : (h : ℕ → Bool) (answers : List Reply) → EachShows h answers → ((k : ℕ) → h k ≡ false) → NeverHeard answers
never_heard h [] shows nowhere = tt
never_heard h (r ∷ rest) shows nowhere =
    (shows.0, shows.2.1 (nowhere 0), never_heard (λ k. h (suc k)) rest shows.3 (λ k. nowhere (suc k)))

-- Lay: its number, and what its tests have shown.
use mathlib.Core.Path.{◌≡◌, refl, sym}
use mathlib.Core.Bool.{true}
use mathlib.Core.List.{List}
use Prim.Native.Nat.{ℕ, ◌≤◌}
use lib.ListN.{length}
use borrow.Author.Tests.{eqb-true}
use Rattle.quorum.specs.Configurations.{valid}
use Rattle.quorum.proofs.Promise.{promise}
use Rattle.layout.specs.Layout.{table_length}
use Rattle.layout.specs.View.{view}
use Rattle.rules.specs.Calls.{lay}
use Rattle.rules.specs.Rules.{first, tests, number_of}
use Rattle.rules.specs.Needs.{needs}
use Rattle.rules.proofs.Judged.{allowed, lay_number}

-- its value does not matter
pub lay_number_is : (t : List ℕ) (n m value : ℕ) (config : List ℕ)
    → first (tests (view t) (lay n m 0 config)) ≡ number_of (view t) (lay n m value config)
unfolding tests
lay_number_is t n m value config = sym (lay_number (view t) (lay n m value config) refl)

pub lay_room : (t : List ℕ) (n m value : ℕ) (config : List ℕ) → 0 ≡ number_of (view t) (lay n m value config)
    → (1 ≤ n) × (n ≤ 16) × (1 ≤ m) × (m ≤ 32) × (length t ≡ table_length n m)
unfolding view needs
lay_room t n m value config e =
    let a = allowed (view t) (lay n m value config) (sym e) in
    (a.0.0, a.0.1, a.0.2, a.0.3, eqb-true _ _ a.1.0)

pub lay_valid : (t : List ℕ) (n m value : ℕ) (config : List ℕ) → 0 ≡ number_of (view t) (lay n m value config) → valid n config ≡ true
unfolding needs
lay_valid t n m value config e = (promise.valid_exactly n config).1 (allowed (view t) (lay n m value config) (sym e)).1.1.0

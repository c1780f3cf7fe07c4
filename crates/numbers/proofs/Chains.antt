-- A test that did not refuse.
use mathlib.Core.Path.{◌≡◌}
use mathlib.Core.Bool.{Bool, false, cond}
use Prim.Native.Nat.{ℕ, suc}
use native.Mathlib.Omega.{arith}
use Rattle.basics.proofs.Tests.{either}

pub passed : {b : Bool} (k : ℕ) → 0 ≡ cond b (suc k) 0 → b ≡ false
passed {b} k e = either b (λ t. absurd (omega (arith, rw t at e))) (λ f. f)

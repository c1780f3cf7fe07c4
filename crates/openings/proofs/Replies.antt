-- What the tests of an opening have shown, and tests that two openings share.
use mathlib.Core.Path.{◌≡◌, refl}
use mathlib.Core.Bool.{true}
use mathlib.Core.List.{List}
use Prim.Native.Nat.{ℕ, ◌<◌}
use native.Mathlib.Omega.{arith}
use Rattle.layout.specs.Soundness.{sound}
use Rattle.layout.specs.View.{State, view}
use Rattle.layout.proofs.Soundness.{is_sound_lem}
use Rattle.rules.specs.Calls.{open_read, open_write}
use Rattle.rules.specs.Rules.{first, tests}

-- an item of a sound table fits a byte
pub item_byte : (t : List ℕ) → sound t ≡ true → {i : ℕ} → i < (view t).m → i < 256
unfolding view
item_byte t e l = let s = (is_sound_lem t e).few_items in omega arith

-- open write has open read's tests
pub write_opens : (v : State) (i x : ℕ) → first (tests v (open_read i)) ≡ first (tests v (open_write i x))
unfolding tests
write_opens v i x = refl

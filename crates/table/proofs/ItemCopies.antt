-- The copy of an item at one of n stations, where the item's copies lie in so many bytes: `InTable`, of a list by its length.
use mathlib.Core.Path.{◌≡◌}
use Prim.Native.Nat.{ℕ, ◌+◌, ◌≤◌, ◌<◌}
use native.Mathlib.Omega.{arith}
use Rattle.layout.specs.Layout.{copy_size, address}
use Rattle.layout.proofs.Fields.{address_order}

module _ {size n item s : ℕ} (h : (n ≤ 16) × (item < 32) × (address n item n ≤ size)) (l : s < n) where
  -- `address` may be asked for it, and the copy that starts there lies in the bytes
  pub copy_range : (n ≤ 16) × (item < 32) × (s < 16)
  copy_range = omega (arith, h.0, h.1)

  pub copy_fits : {a : ℕ} → a ≡ address n item s → a + copy_size ≤ size
  copy_fits q = omega (arith, address_order n item s n l, h.2)

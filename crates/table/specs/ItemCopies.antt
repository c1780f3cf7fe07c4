-- The copies of an item at n stations (`copies_of` of the layout). The table need not be sound: what the code requires is that n and the item are in range,
-- and that the copies lie in the bytes.
use Rattle.std.specs.Prelude.{List, ℕ, ◌≤◌, ◌<◌, length}
use Rattle.layout.specs.Layout.{address}

abbrev pub InTable : List ℕ → ℕ → ℕ → Type 0
InTable t n item = (n ≤ 16) × (item < 32) × (address n item n ≤ length t)

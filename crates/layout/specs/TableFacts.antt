-- The state of a sound table of bytes has every byte of it; and how long tables are.
use Rattle.std.specs.Prelude.{◌≡◌, true, ℕ, ◌+◌, ◌*◌, ◌≤◌}
use Rattle.basics.specs.Bytes.{AreBytes}
use Rattle.layout.specs.Layout.{table_length, largest, listed}
use Rattle.layout.specs.Soundness.{sound}
use Rattle.layout.specs.View.{Table, view, SameContents}

pub record TableFacts : Type 0 where
  -- The state of a sound table has all of it: what a call does to the state says what it does to every byte.
  pub same_bytes : (t u : Table) → AreBytes t → AreBytes u → sound t ≡ true → sound u ≡ true → SameContents (view t) (view u) → t ≡ u
  -- "The length is 56 × (1 + n × m), at most 28,728."
  pub length_is : (n m : ℕ) → table_length n m ≡ 56 * (1 + n * m)
  pub at_most : (n m : ℕ) → listed n m ≡ true → table_length n m ≤ largest
  pub reached : table_length 16 32 ≡ largest

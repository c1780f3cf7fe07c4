-- The table in its buffer: the runner has room for the largest table, and keeps the length in use.
use Rattle.std.specs.Prelude.{◌≡◌, cond, List, ℕ, ◌≤◌, take, drop}
use Rattle.std.proofs.Math.Option.{Option, none, some}
use Rattle.layout.specs.Layout.{largest}
use Rattle.rules.specs.Calls.{Call, is_lay}
use Rattle.runs.specs.Session.{lay_need}

-- the table in use stands in the buffer's first bytes, and past them the buffer is as it was
pub record InUse (old new : List ℕ) (used : ℕ) (t : List ℕ) : Type 0 where
  pub room : used ≤ largest
  pub table : take used new ≡ t
  pub beyond : drop used new ≡ drop used old

-- the length of the buffer that a call is lent
abbrev pub lent_length : ℕ → Option Call → ℕ
lent_length used none = used
lent_length used (some c) = cond (is_lay c) (lay_need c) used

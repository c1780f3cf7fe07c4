-- "Lay looks at nothing but its arguments and the table's length": its reply, and the table after it unless it is refused.
use Rattle.std.specs.Prelude.{◌≡◌, List, ℕ, length}
use Rattle.layout.specs.View.{Table}
use Rattle.rules.specs.Calls.{lay}
use Rattle.rules.specs.Reply.{reply, after}

pub record LayAlone : Type 0 where
  pub lay_reply : (t u : Table) (n m value : ℕ) (config : List ℕ) → length t ≡ length u
      → reply t (lay n m value config) ≡ reply u (lay n m value config)
  pub lay_after : (t u : Table) (n m value : ℕ) (config : List ℕ) → length t ≡ length u → (reply t (lay n m value config)).number ≡ 0
      → after t (lay n m value config) ≡ after u (lay n m value config)

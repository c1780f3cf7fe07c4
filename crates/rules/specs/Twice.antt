-- Polling and putting again change nothing: of the definitions, on any list of numbers, and of bytes where it says so.
use Rattle.std.specs.Prelude.{◌≡◌, true, ℕ}
use Rattle.basics.specs.Bytes.{AreBytes}
use Rattle.quorum.specs.Sets.{member}
use Rattle.layout.specs.View.{Table, view}
use Rattle.rules.specs.Calls.{poll, put, data_sort, config_sort}
use Rattle.rules.specs.Reply.{reply, after}

pub record Twice : Type 0 where
  -- "Polling twice changes nothing": the second leaves the table as the first left it, and replies as the first did
  pub poll_twice : (t : Table) (s : ℕ) → (reply t (poll s)).number ≡ 0 → after (after t (poll s)) (poll s) ≡ after t (poll s)
  pub poll_replies : (t : Table) (s : ℕ) → AreBytes t → (reply t (poll s)).number ≡ 0 → reply (after t (poll s)) (poll s) ≡ reply t (poll s)
  -- Put: "Twice changes nothing."
  pub put_twice : (t : Table) (s sort : ℕ) → (reply t (put s sort)).number ≡ 0
      → after (after t (put s sort)) (put s sort) ≡ after t (put s sort)
  pub put_replies : (t : Table) (s sort : ℕ) → AreBytes t → (reply t (put s sort)).number ≡ 0
      → reply (after t (put s sort)) (put s sort) ≡ reply t (put s sort)
  -- and so whenever the station was polled, and whenever that put was made: the table, of bytes, stays as it is
  pub polled_already : (t : Table) (s : ℕ) → AreBytes t → member (view t).round.polled s ≡ true → after t (poll s) ≡ t
  pub put_already : (t : Table) (s sort : ℕ) → AreBytes t → (sort ≡ data_sort → member (view t).round.data_puts s ≡ true)
      → (sort ≡ config_sort → member (view t).round.config_puts s ≡ true) → after t (put s sort) ≡ t

-- The reply to a call and the state after it hang on the state alone, and of the copies only on those that there are. So tables of bytes that look
-- alike get the same replies to every list of calls that can be passed, and look alike after it. (Sound tables that look alike are the same bytes:
-- TableFacts.antt of the layout. `same_reply` is of states, and says nothing of bytes.)
use Rattle.std.specs.Prelude.{◌≡◌, true, List, ℕ, ◌<◌}
use Rattle.basics.specs.Bytes.{AreBytes}
use Rattle.layout.specs.View.{Table, State, ContentsBy, view}
use Rattle.rules.specs.Calls.{Call}
use Rattle.rules.specs.Passed.{Passable}
use Rattle.rules.specs.Reply.{reply_of, after}
use Rattle.rules.specs.Lists.{replies, after_all, AllPassable}

-- both are sound or neither, the same sizes fit, and they have the same contents but for configurations, which are related
pub record AlikeBy (R : List ℕ → List ℕ → Type 0) (v w : State) : Type 0 where
  pub is_sound : v.is_sound ≡ w.is_sound
  pub fits : (n m : ℕ) → v.fits n m ≡ w.fits n m
  pub contents : ContentsBy R v w

-- the configurations are equal too: states that are equal but for copies of items and stations that there are not
abbrev pub Alike : State → State → Type 0
Alike = AlikeBy ◌≡◌

pub record AlikeTables : Type 0 where
  -- of any states, if the round's item is one of the items where the state is sound, as it is in every table
  pub same_reply : (v w : State) (c : Call) → Alike v w → (v.is_sound ≡ true → v.round.item < v.m) → reply_of v c ≡ reply_of w c
  pub alike_after : (t u : Table) (c : Call) → AreBytes t → AreBytes u → Passable c → Alike (view t) (view u) → Alike (view (after t c)) (view (after u c))
  pub same_replies : (t u : Table) (calls : List Call) → AreBytes t → AreBytes u → AllPassable calls → Alike (view t) (view u)
      → (replies t calls ≡ replies u calls) × Alike (view (after_all t calls)) (view (after_all u calls))

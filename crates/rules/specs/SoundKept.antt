-- Soundness is kept: a call that replies 0 leaves a sound table, and a lay that replies 0 makes one. So in a list of calls that begins
-- with such a lay, on bytes and with arguments that can be passed, while nobody else writes the table, no call but a lay gets 1.
use Rattle.std.specs.Prelude.{◌≡◌, true, false, List, [], ◌∷◌, ℕ}
use Rattle.basics.specs.Bytes.{AreBytes}
use Rattle.layout.specs.Soundness.{sound}
use Rattle.layout.specs.View.{Table}
use Rattle.rules.specs.Calls.{Call, lay, is_lay}
use Rattle.rules.specs.Passed.{Passable}
use Rattle.rules.specs.Reply.{reply, after}
use Rattle.rules.specs.declared.Reply.{Reply}
use Rattle.rules.specs.Lists.{replies, AllPassable}

-- of these calls, with the replies to them, none but a lay got 1
abbrev pub NoneUnsound : List Call → List Reply → Type 0
NoneUnsound [] [] = Unit {0}
NoneUnsound [] (r ∷ rest) = ⊥
NoneUnsound (c ∷ calls) [] = ⊥
NoneUnsound (c ∷ calls) (r ∷ rest) = (is_lay c ≡ false → r.number ≡ 1 → ⊥) × NoneUnsound calls rest

pub record SoundKept : Type 0 where
  pub sound_kept : (t : Table) (c : Call) → AreBytes t → Passable c → (reply t c).number ≡ 0 → sound (after t c) ≡ true
  pub never_unsound : (t : Table) (n m value : ℕ) (config : List ℕ) (calls : List Call)
      → AreBytes t → AllPassable (lay n m value config ∷ calls) → (reply t (lay n m value config)).number ≡ 0
      → NoneUnsound (lay n m value config ∷ calls) (replies t (lay n m value config ∷ calls))

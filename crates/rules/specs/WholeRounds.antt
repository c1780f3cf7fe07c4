-- Whole rounds, by their calls: an opening of an item, polls and puts at stations one after the other, and how the commit ends. The statements on reach
-- and on plan speak of them.
use Rattle.std.specs.Prelude.{◌≡◌, true, List, [], ◌∷◌, ◌↔◌, ◌⊎◌, ℕ}
use Rattle.quorum.specs.Sets.{member}
use Rattle.layout.specs.Fields.{last_count, Copy}
use Rattle.layout.specs.View.{State}
use Rattle.rules.specs.Calls.{Call, open_read, open_write, open_change, poll, put}
use Rattle.rules.specs.Book.{Entry, Gives}
use Rattle.rules.specs.declared.Reply.{Reply}

-- an opening of item i. It is done on a sound table that has the item and has no open round; that of a change needs a valid target too (Needs.antt).
pub data Opens : Call → ℕ → Type 0 where
  of_read : {i : ℕ} → Opens (open_read i) i
  of_write : {i value : ℕ} → Opens (open_write i value) i
  of_change : {i : ℕ} {target : List ℕ} → Opens (open_change i target) i

-- a poll of each station of a list, and a put of a sort at each
abbrev pub polls : List ℕ → List Call
polls [] = []
polls (s ∷ rest) = poll s ∷ polls rest

abbrev pub puts : ℕ → List ℕ → List Call
puts sort [] = []
puts sort (s ∷ rest) = put s sort ∷ puts sort rest

-- every call is done; the first figure of the last reply, or the one given where there is none
abbrev pub AllDone : List Reply → Type 0
AllDone [] = Unit {0}
AllDone (r ∷ rest) = (r.number ≡ 0) × AllDone rest

abbrev pub last_figure : ℕ → List Reply → ℕ
last_figure x [] = x
last_figure x (r ∷ rest) = last_figure r.first rest

-- the number of the commit after such calls, by whether the stations polled are heard, whether a counter that the round must raise is spent, and whether
-- the puts hold the quorums that it must write
pub record Closes (number : ℕ) (Heard Spent Written : Type 0) : Type 0 where
  pub finished : (number ≡ 0) ↔ (Heard × (Spent → ⊥) × Written)
  pub unheard : (number ≡ 8) ↔ (Heard → ⊥)
  pub spent : (number ≡ 10) ↔ (Heard × Spent)
  pub short : (number ≡ 11) ↔ (Heard × (Spent → ⊥) × (Written → ⊥))
  pub no_other : (number ≡ 0) ⊎ ((number ≡ 8) ⊎ ((number ≡ 10) ⊎ (number ≡ 11)))

-- some copy of item i at a station of a set of stations below n has the last number of a counter. On bytes a counter has eight of them, so that this number
-- is the greatest, and the one found.
abbrev pub SpentAmong : (Copy → ℕ) → State → ℕ → ℕ → Type 0
SpentAmong counter v i set = (s : ℕ) × (member set s ≡ true) × (counter (v.copies i s) ≡ last_count)

-- a commit that is done, and gives what the book has for the item
abbrev pub DoneGiving : Entry → Reply → Type 0
DoneGiving e r = (r.number ≡ 0) × Gives e r

-- What is claimed of the configuration that votes give (document 02, 2026-01): facts about votes, stations and station sets, of the definitions in
-- Votes.antt. The exported call is equal to these (`ospreyscreen_votes`).
use Rattle.std.specs.Prelude.{◌≡◌, true, List, [], ◌∷◌, ◌↔◌, ◌⊎◌, ℕ, ◌+◌, ◌≤◌, ◌<◌, length, get_or}
use Rattle.basics.specs.Tests.{Some}
use Rattle.basics.specs.Bytes.{AreBytes}
use Rattle.quorum.specs.Sets.{member, remove, full}
use Rattle.quorum.specs.Configurations.{config_size, read_set, write_set, valid, holds_read, holds_write}
use Rattle.quorum.specs.Promise.{◌⊆◌}
use Rattle.form.specs.Sides.{SideLists}
use Rattle.layout.specs.Layout.{table_length}
use Rattle.layout.specs.View.{Table}
use Rattle.rules.specs.Calls.{lay}
use Rattle.rules.specs.Demand1.{ZeroFigures}
use Rattle.rules.specs.Needs.{Needs, Gets}
use Rattle.rules.specs.Reply.{reply}
use Rattle.votes.specs.Votes.{votes_of, total, votes_reply, votes_output}

-- the votes of the set reach the threshold
abbrev pub Reaches : List ℕ → ℕ → ℕ → Type 0
Reaches votes threshold set = threshold ≤ votes_of votes set

-- "A smallest set reaches it and no longer does with any one station left out."
pub record Smallest (votes : List ℕ) (threshold set : ℕ) : Type 0 where
  pub in_range : (i : ℕ) → member set i ≡ true → i < length votes
  pub enough : Reaches votes threshold set
  pub least : (i : ℕ) → member set i ≡ true → Reaches votes threshold (remove set i) → ⊥

-- there are more than eight smallest sets: nine that rise
abbrev pub MoreThanEight : List ℕ → ℕ → Type 0
MoreThanEight votes threshold =
    (set : ℕ → ℕ) × ((k : ℕ) → k < 9 → Smallest votes threshold (set k)) × ((j k : ℕ) → j < k → k < 9 → set j < set k)

-- the reverse of "false votes (not 1 to 16 stations, a threshold of zero or above the total, or thresholds that together do not exceed the total)"
pub record TrueVotes (votes : List ℕ) (read write : ℕ) : Type 0 where
  pub some : 1 ≤ length votes
  pub few : length votes ≤ 16
  pub read_positive : 1 ≤ read
  pub read_reached : read ≤ total votes
  pub write_positive : 1 ≤ write
  pub write_reached : write ≤ total votes
  pub together : total votes < read + write

-- what the call needs, with the numbers, in their order
abbrev pub votes_needs : List ℕ → ℕ → ℕ → List ℕ → Needs
votes_needs votes read write out =
    (2, length out ≡ config_size)
    ∷ (13, TrueVotes votes read write)
    ∷ (14, (MoreThanEight votes read → ⊥) × (MoreThanEight votes write → ⊥))
    ∷ []

-- what holds of the output of a call that is done
pub record Configured (votes : List ℕ) (read write : ℕ) (config : List ℕ) : Type 0 where
  pub bytes : AreBytes config
  pub is_valid : valid (length votes) config ≡ true
  -- "A station set must hold a listed set exactly when its votes reach that threshold."
  pub read_exactly : (set : ℕ) → (holds_read config set ≡ true) ↔ Reaches votes read set
  pub write_exactly : (set : ℕ) → (holds_write config set ≡ true) ↔ Reaches votes write set
  -- each side lists the smallest sets
  pub reads : SideLists (Smallest votes read) (read_set config)
  pub writes : SideLists (Smallest votes write) (write_set config)
  -- a lay of as many stations takes it
  pub lay_takes : (table : Table) (m value : ℕ) → 1 ≤ m → m ≤ 32 → length table ≡ table_length (length votes) m
      → (reply table (lay (length votes) m value config)).number ≡ 0

pub record Claims : Type 0 where
  -- ---- votes
  -- the empty set has none; a station brings its own votes, and one that is not on the sheet brings none; all stations have the total
  pub no_votes : (votes : List ℕ) → votes_of votes 0 ≡ 0
  pub its_votes : (votes : List ℕ) (set i : ℕ) → member set i ≡ true → votes_of votes set ≡ votes_of votes (remove set i) + get_or votes i 0
  pub all_votes : (votes : List ℕ) → length votes ≤ 16 → votes_of votes (full (length votes)) ≡ total votes
  -- two sets that reach the two thresholds share a station, since these exceed the total together
  pub sets_share : (votes : List ℕ) (read write a b : ℕ) → total votes < read + write → Reaches votes read a → Reaches votes write b
      → Some (length votes) (λ i. (member a i ≡ true) × (member b i ≡ true))
  -- no set within a smallest set reaches the threshold but itself
  pub no_less : (votes : List ℕ) (threshold a b : ℕ) → Smallest votes threshold a → b ⊆ a → Reaches votes threshold b → b ≡ a
  -- ---- the call
  -- every input gets the number of the first need that fails, 2, 13 or 14, and 0 if none does
  pub number_exactly : (votes : List ℕ) (read write : ℕ) (out : List ℕ) (k : ℕ)
      → ((votes_reply votes read write out).number ≡ k) ↔ Gets (votes_needs votes read write out) k
  -- 14 is given exactly if a side of true votes has more than eight sets
  pub too_many_lem : (votes : List ℕ) (read write : ℕ) (out : List ℕ) → ((votes_reply votes read write out).number ≡ 14)
      ↔ ((length out ≡ config_size) × TrueVotes votes read write × (MoreThanEight votes read ⊎ MoreThanEight votes write))
  pub no_figures_lem : (votes : List ℕ) (read write : ℕ) (out : List ℕ) → ZeroFigures (votes_reply votes read write out)
  pub done : (votes : List ℕ) (read write : ℕ) (out : List ℕ) → (votes_reply votes read write out).number ≡ 0
      → Configured votes read write (votes_output votes read write out)
  pub refused : (votes : List ℕ) (read write : ℕ) (out : List ℕ) → ((votes_reply votes read write out).number ≡ 0 → ⊥)
      → votes_output votes read write out ≡ out

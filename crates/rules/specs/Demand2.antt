-- Demand 2: on a sound table a commit finishes exactly if the needed quorums were heard and written and no counter that it must raise is
-- spent; otherwise it gets the one number that says which of these fails. The quorums are source 000's, sections 3, 5.2 and
-- 5.4, by quantifiers over stations and places. Of document 01's "Versions that fail", `unheard` and `short` rule out "unheard or short told before
-- looking at the sets", and `finished` "every call refused" (that of the other calls is in Needs.antt).
use Rattle.std.specs.Prelude.{◌≡◌, true, false, ◌↔◌, ◌⊎◌, ℕ}
use Rattle.quorum.specs.Configurations.{read_set, write_set}
use Rattle.quorum.specs.Promise.{QuorumIn}
use Rattle.layout.specs.Newest.{IsNewest}
use Rattle.layout.specs.Fields.{Copy, last_count, Kind, none, read, write, change}
use Rattle.layout.specs.Soundness.{sound}
use Rattle.layout.specs.View.{Table, State, view, own}
use Rattle.rules.specs.Calls.{commit}
use Rattle.rules.specs.Reply.{reply}

-- what an open round has found: the station g with its newest generation and the station b with its newest version
pub record Found (v : State) : Type 0 where
  pub g : ℕ
  pub b : ℕ
  pub newest_generation : IsNewest (λ s. (own v s).generation) v.round.polled v.n g
  pub newest_version : IsNewest (λ s. (own v s).version) v.round.polled v.n b

-- a read quorum of the configuration of station g's copy lies within a station set
abbrev pub ReadQuorum : (ℕ → Copy) → ℕ → ℕ → Type 0
ReadQuorum copies g set = QuorumIn (read_set (copies g).config) set

-- of any item and any station set: polling it finds the configuration of station g, and is heard
abbrev pub HeardBy : State → ℕ → ℕ → ℕ → Type 0
HeardBy v i set g = IsNewest (λ s. (v.copies i s).generation) set v.n g × ReadQuorum (v.copies i) g set

-- of the open round: a read quorum of the configuration found lies within the polled set
abbrev pub HeardRound : State → Type 0
HeardRound v = (g : ℕ) × HeardBy v v.round.item v.round.polled g

-- the same where it is also said what the round has found
abbrev pub Heard : (v : State) → Found v → Type 0
Heard v f = ReadQuorum (own v) f.g v.round.polled

-- the counter that the round must raise is spent
abbrev pub Spent : (v : State) → Found v → Kind → Type 0
Spent v f none = ⊥
Spent v f read = ⊥
Spent v f write = (own v f.b).version ≡ last_count
Spent v f change = (own v f.g).generation ≡ last_count

-- the write quorums that source 000 asks for lie within the put sets: of a write, one of the configuration found, by the data puts
-- (5.2.3, 5.2.4); of a change, one of the new configuration by the data puts (5.2.4) and one of the old by the configuration puts
-- (5.4.3, 5.4.4). With no round this is never asked: idle comes first.
abbrev pub Written : (v : State) → Found v → Kind → Type 0
Written v f none = Unit {0}
Written v f read = Unit {0}
Written v f write = QuorumIn (write_set (own v f.g).config) v.round.data_puts
Written v f change =
    QuorumIn (write_set v.round.target) v.round.data_puts × QuorumIn (write_set (own v f.g).config) v.round.config_puts

-- commit's number on a sound table with an open round, by these conditions
pub record Commits (v : State) (number : ℕ) : Type 0 where
  pub finished : (number ≡ 0) ↔ ((f : Found v) × Heard v f × (Spent v f v.round.kind → ⊥) × Written v f v.round.kind)
  pub unheard : (number ≡ 8) ↔ (HeardRound v → ⊥)
  pub spent : (number ≡ 10) ↔ ((f : Found v) × Heard v f × Spent v f v.round.kind)
  pub short : (number ≡ 11) ↔ ((f : Found v) × Heard v f × (Spent v f v.round.kind → ⊥) × (Written v f v.round.kind → ⊥))
  pub no_other : (number ≡ 0) ⊎ ((number ≡ 8) ⊎ ((number ≡ 10) ⊎ (number ≡ 11)))

pub record Demand2 : Type 0 where
  pub open_round : (t : Table) → sound t ≡ true → ((view t).round.kind ≡ none → ⊥) → Commits (view t) (reply t commit).number
  pub no_round_lem : (t : Table) → sound t ≡ true → (view t).round.kind ≡ none → (reply t commit).number ≡ 5
  pub unsound : (t : Table) → sound t ≡ false → (reply t commit).number ≡ 1

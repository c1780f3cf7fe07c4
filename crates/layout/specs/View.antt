-- What the rules know of a table: the numbers and figures of the replies speak of this state alone, and of no offset.
use Rattle.std.specs.Prelude.{◌≡◌, Bool, List, ℕ, ◌<◌, length, eqb, Option}
use Rattle.quorum.specs.Sets.{full, minus}
use Rattle.layout.specs.Layout.{table_length}
use Rattle.layout.specs.Newest.{version_station, by_version, by_generation, heard_place, hears}
use Rattle.layout.specs.Fields.{Copy, Round, stations, items, off_set, round_of, copy_of}
use Rattle.layout.specs.Soundness.{sound}

-- a table, as the calls are lent it: its bytes
abbrev pub Table : Type 0
Table = List ℕ

pub record State : Type 0 where
  -- the table is sound; its length is that of a table of so many stations and items
  pub is_sound : Bool
  pub fits : ℕ → ℕ → Bool
  -- n stations, m items, the stations off the bus, the round, the copy of each item at each station
  pub n : ℕ
  pub m : ℕ
  pub off : ℕ
  pub round : Round
  pub copies : ℕ → ℕ → Copy

unfoldable pub view : Table → State
view t =
    record {
      is_sound = sound t;
      fits = λ n m. eqb (length t) (table_length n m);
      n = stations t;
      m = items t;
      off = off_set t;
      round = round_of t;
      copies = copy_of t;
    }

-- the stations on the bus
abbrev pub on_bus : State → ℕ
on_bus v = minus (full v.n) v.off

-- ---- the same but for configurations, which are related: two copies, two rounds, two states of the same stations and items (what this comes to where the
-- same station sets pass is in Spellings.antt of `spelling`)
pub record CopyBy (R : List ℕ → List ℕ → Type 0) (c d : Copy) : Type 0 where
  pub version : c.version ≡ d.version
  pub value : c.value ≡ d.value
  pub generation : c.generation ≡ d.generation
  pub config : R c.config d.config

pub record RoundBy (R : List ℕ → List ℕ → Type 0) (r q : Round) : Type 0 where
  pub kind : r.kind ≡ q.kind
  pub item : r.item ≡ q.item
  pub polled : r.polled ≡ q.polled
  pub data_puts : r.data_puts ≡ q.data_puts
  pub config_puts : r.config_puts ≡ q.config_puts
  pub value : r.value ≡ q.value
  pub target : R r.target q.target

pub record ContentsBy (R : List ℕ → List ℕ → Type 0) (v w : State) : Type 0 where
  pub n : v.n ≡ w.n
  pub m : v.m ≡ w.m
  pub off : v.off ≡ w.off
  pub round : RoundBy R v.round w.round
  pub copies : (i s : ℕ) → i < w.m → s < w.n → CopyBy R (v.copies i s) (w.copies i s)

-- the same contents: the configurations are equal too
abbrev pub SameContents : State → State → Type 0
SameContents = ContentsBy ◌≡◌

-- ---- the open round: its item's copies, what its polled copies give, whether it is heard
abbrev pub own : State → ℕ → Copy
own v = v.copies v.round.item

abbrev pub found_by_version : State → Copy
found_by_version v = by_version (own v) v.round.polled v.n

abbrev pub found_by_generation : State → Copy
found_by_generation v = by_generation (own v) v.round.polled v.n

-- the station that gave the version, if any
abbrev pub version_from : State → Option ℕ
version_from v = version_station (own v) v.round.polled v.n

-- the first read place held, and whether there is one
abbrev pub read_place : State → Option ℕ
read_place v = heard_place (own v) v.round.polled v.n

abbrev pub heard : State → Bool
heard v = hears (own v) v.round.polled v.n

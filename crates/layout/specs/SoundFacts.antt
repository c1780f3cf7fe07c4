-- A sound table by facts: what the tests of Soundness.antt come to, of the state that the table is viewed as, and of the bytes that the state
-- does not show.
use Rattle.std.specs.Prelude.{◌≡◌, true, false, List, ◌↔◌, ℕ, ◌≤◌, ◌<◌, length}
use Rattle.basics.specs.Bytes.{little_endian, number}
use Rattle.quorum.specs.Sets.{shares, within}
use Rattle.quorum.specs.Configurations.{valid}
use Rattle.layout.specs.Layout.{table_length, kind_at, spare_at}
use Rattle.layout.specs.Fields.{Kind, none, read, write, change, Round, stations, items}
use Rattle.layout.specs.Soundness.{sound}
use Rattle.layout.specs.View.{State, view}

-- ---- what soundness asks of a round, by its kind
abbrev pub RoundFacts : ℕ → Round → Kind → Type 0
RoundFacts n r none =
    (r.item ≡ 0) × (r.polled ≡ 0) × (r.data_puts ≡ 0) × (r.config_puts ≡ 0) × (r.value ≡ 0) × (little_endian r.target ≡ 0)
RoundFacts n r read = (r.data_puts ≡ 0) × (r.config_puts ≡ 0) × (r.value ≡ 0) × (little_endian r.target ≡ 0)
RoundFacts n r write = (r.config_puts ≡ 0) × (little_endian r.target ≡ 0)
RoundFacts n r change = (r.value ≡ 0) × (valid n r.target ≡ true)

-- of the state
pub record StateSound (v : State) : Type 0 where
  pub positive : 1 ≤ v.n
  pub small : v.n ≤ 16
  pub some_item : 1 ≤ v.m
  pub few_items : v.m ≤ 32
  pub item : v.round.item < v.m
  pub off : within v.n v.off ≡ true
  pub polled : within v.n v.round.polled ≡ true
  pub data_puts : within v.n v.round.data_puts ≡ true
  pub config_puts : within v.n v.round.config_puts ≡ true
  pub data_on : shares v.round.data_puts v.off ≡ false
  pub config_on : shares v.round.config_puts v.off ≡ false
  pub round : RoundFacts v.n v.round v.round.kind
  pub configs : (i s : ℕ) → i < v.m → s < v.n → valid v.n (v.copies i s).config ≡ true

-- of the table: its length, the byte of its round, the spare bytes, and its state
pub record Sound (t : List ℕ) : Type 0 where
  pub size : length t ≡ table_length (stations t) (items t)
  pub kind : number t kind_at 1 ≤ 3
  pub spare : number t spare_at 4 ≡ 0
  pub state : StateSound (view t)

pub record SoundExactly : Type 0 where
  pub exactly : (t : List ℕ) → (sound t ≡ true) ↔ Sound t

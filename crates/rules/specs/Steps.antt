-- What each call that is done does, and its figures: on the state before and the state after, by members of sets, by stations and by
-- quorums. It is proved of the bytes (After.antt) and the figures (Figures.antt) for every table of bytes and every call that can be
-- passed, and lets a reader check them against document 01 without reading either. The figures of a call that has none
-- here are zero (Demand1.antt). "a byte that no rule changes stays as it was": the table after a call that is done is sound (SoundKept.antt) and has
-- the length that it had (Demand1.antt), and the state of a sound table has every byte of it (TableFacts.antt of the layout).
use Rattle.std.specs.Prelude.{◌≡◌, true, false, not, ◌&&◌, ◌||◌, List, ◌↔◌, ◌⊎◌, ℕ, suc, ◌+◌, ◌≤◌, ◌<◌, ltb, eqb}
use Rattle.basics.specs.Listing.{Listing}
use Rattle.basics.specs.Bytes.{AreBytes}
use Rattle.quorum.specs.Sets.{member}
use Rattle.quorum.specs.Configurations.{read_set, write_set}
use Rattle.quorum.specs.Promise.{QuorumIn, FirstIn}
use Rattle.form.specs.Form.{standard_form}
use Rattle.layout.specs.Fields.{Kind, none, read, write, change, Round}
use Rattle.layout.specs.Newest.{IsNewest}
use Rattle.layout.specs.View.{Table, State, view, on_bus, own}
use Rattle.layout.specs.Updates.{no_target}
use Rattle.plan.specs.Plan.{order_on, start_on}
use Rattle.rules.specs.Calls.{Call, lay, open_read, open_write, open_change, poll, put, commit, abandon, link, reach, diagnose, plan}
use Rattle.rules.specs.Calls.{data_sort, config_sort, off_state, on_state}
use Rattle.rules.specs.Passed.{Passable}
use Rattle.rules.specs.Reply.{reply, after}
use Rattle.rules.specs.Demand2.{Found, HeardBy, Commits}
use Rattle.rules.specs.declared.Reply.{Reply}

-- ---- sets: b is a with station s, and b is a without it
abbrev pub Joined : ℕ → ℕ → ℕ → Type 0
Joined a s b = (i : ℕ) → member b i ≡ (member a i || eqb i s)

abbrev pub Removed : ℕ → ℕ → ℕ → Type 0
Removed a s b = (i : ℕ) → member b i ≡ (member a i && not (eqb i s))

-- ---- what stays: n, m and every copy; the round's kind, item, value and target
pub record SameCopies (v w : State) : Type 0 where
  pub n : w.n ≡ v.n
  pub m : w.m ≡ v.m
  pub copies : (i s : ℕ) → i < v.m → s < v.n → w.copies i s ≡ v.copies i s

pub record SameOrder (v w : State) : Type 0 where
  pub kind : w.round.kind ≡ v.round.kind
  pub item : w.round.item ≡ v.round.item
  pub value : w.round.value ≡ v.round.value
  pub target : w.round.target ≡ v.round.target

-- a round with nothing polled and no puts
pub record Fresh (r : Round) (k : Kind) (i x : ℕ) (l : List ℕ) : Type 0 where
  pub kind : r.kind ≡ k
  pub item : r.item ≡ i
  pub value : r.value ≡ x
  pub target : r.target ≡ l
  pub polled : r.polled ≡ 0
  pub data_puts : r.data_puts ≡ 0
  pub config_puts : r.config_puts ≡ 0

abbrev pub NoRound : Round → Type 0
NoRound r = Fresh r none 0 0 no_target

-- ---- lay: "every item alike, .. no round." "Versions and generations start at 0." And document 02, 2026-02: "From now on lay puts all n stations in the
-- off set." What that means for polls, puts, reach and plan is in OffAtFirst.antt.
pub record Laid (w : State) (n m value : ℕ) (config : List ℕ) : Type 0 where
  pub stations : w.n ≡ n
  pub items : w.m ≡ m
  pub off : (s : ℕ) → member w.off s ≡ ltb s n
  pub round : NoRound w.round
  pub copies : (i s : ℕ) → i < m → s < n
      → ((w.copies i s).version ≡ 0) × ((w.copies i s).value ≡ value) × ((w.copies i s).generation ≡ 0) × ((w.copies i s).config ≡ config)

-- ---- the openings, and abandon, which leaves no round: "the round closes, copies unchanged"
pub record Opened (v w : State) (k : Kind) (i x : ℕ) (l : List ℕ) : Type 0 where
  pub copies : SameCopies v w
  pub off : w.off ≡ v.off
  pub round : Fresh w.round k i x l

-- ---- the read place, document 02, 2026-04: "one plus that place, or 0". The figure is one plus the first read place whose set lies within a station set, of
-- the configuration that polling this set finds for an item; 0 if there is none, and then polling the set is not heard.
pub record PlaceShown (v : State) (i set figure : ℕ) : Type 0 where
  pub place : (k : ℕ) → (figure ≡ suc k)
      ↔ ((g : ℕ) × IsNewest (λ s. (v.copies i s).generation) set v.n g × FirstIn (read_set (v.copies i g).config) set k)
  pub heard : (1 ≤ figure) ↔ ((g : ℕ) × HeardBy v i set g)
  pub unheard : (figure ≡ 0) ↔ ((g : ℕ) → HeardBy v i set g → ⊥)

-- that of the open round
abbrev pub OwnPlaceShown : State → ℕ → Type 0
OwnPlaceShown v figure = PlaceShown v v.round.item v.round.polled figure

-- ---- poll: the station "joins the polled set"; "poll's first figure becomes one plus that place, or 0" (2026-04), as the round is now
pub record Polled (v w : State) (s : ℕ) (r : Reply) : Type 0 where
  pub copies : SameCopies v w
  pub order : SameOrder v w
  pub off : w.off ≡ v.off
  pub polled : Joined v.round.polled s w.round.polled
  pub data_puts : w.round.data_puts ≡ v.round.data_puts
  pub config_puts : w.round.config_puts ≡ v.round.config_puts
  pub place : OwnPlaceShown w r.first
  pub no_other : (r.second ≡ 0) × (r.third ≡ 0)

-- ---- put: the station "joins that put set", "1 data or 2 configuration"
pub record Put (v w : State) (s sort : ℕ) : Type 0 where
  pub copies : SameCopies v w
  pub order : SameOrder v w
  pub off : w.off ≡ v.off
  pub polled : w.round.polled ≡ v.round.polled
  pub data_put : sort ≡ data_sort → Joined v.round.data_puts s w.round.data_puts × (w.round.config_puts ≡ v.round.config_puts)
  pub config_put : sort ≡ config_sort → (w.round.data_puts ≡ v.round.data_puts) × Joined v.round.config_puts s w.round.config_puts

-- ---- link: "going off takes the station out of both put sets; it stays in the polled set. Its copies are kept."
pub record Linked (v w : State) (s state : ℕ) : Type 0 where
  pub copies : SameCopies v w
  pub order : SameOrder v w
  pub polled : w.round.polled ≡ v.round.polled
  pub goes_off : state ≡ off_state
      → Joined v.off s w.off × Removed v.round.data_puts s w.round.data_puts × Removed v.round.config_puts s w.round.config_puts
  pub comes_on : state ≡ on_state
      → Removed v.off s w.off × (w.round.data_puts ≡ v.round.data_puts) × (w.round.config_puts ≡ v.round.config_puts)

-- ---- commit: "Commit's figures are value, version, generation after the round": those of the copies found, "a write stores its value
-- with the version plus one", and a change "the target with the generation plus one"
abbrev pub Closing : (v : State) → Found v → Kind → Reply → Type 0
Closing v f none r = ⊥
Closing v f read r = (r.first ≡ (own v f.b).value) × (r.second ≡ (own v f.b).version) × (r.third ≡ (own v f.g).generation)
Closing v f write r = (r.first ≡ v.round.value) × (r.second ≡ (own v f.b).version + 1) × (r.third ≡ (own v f.g).generation)
Closing v f change r = (r.first ≡ (own v f.b).value) × (r.second ≡ (own v f.b).version) × (r.third ≡ (own v f.g).generation + 1)

-- "Then every put takes effect": the figures and the target are stored at the stations of the put sets, in the copies of the round's
-- item, and nothing else is. "The round closes."
pub record Committed (v w : State) (r : Reply) : Type 0 where
  pub found : Found v
  pub figures : Closing v found v.round.kind r
  pub n : w.n ≡ v.n
  pub m : w.m ≡ v.m
  pub off : w.off ≡ v.off
  pub round : NoRound w.round
  pub other_item : (i s : ℕ) → i < v.m → s < v.n → (i ≡ v.round.item → ⊥) → w.copies i s ≡ v.copies i s
  pub data_put : (s : ℕ) → s < v.n → member v.round.data_puts s ≡ true
      → ((w.copies v.round.item s).version ≡ r.second) × ((w.copies v.round.item s).value ≡ r.first)
  pub no_data_put : (s : ℕ) → s < v.n → member v.round.data_puts s ≡ false
      → ((w.copies v.round.item s).version ≡ (own v s).version) × ((w.copies v.round.item s).value ≡ (own v s).value)
  pub config_put : (s : ℕ) → s < v.n → member v.round.config_puts s ≡ true
      → ((w.copies v.round.item s).generation ≡ r.third) × ((w.copies v.round.item s).config ≡ v.round.target)
  pub no_config_put : (s : ℕ) → s < v.n → member v.round.config_puts s ≡ false
      → ((w.copies v.round.item s).generation ≡ (own v s).generation) × ((w.copies v.round.item s).config ≡ (own v s).config)

-- ---- reach, document 02, 2026-03: "judged by what polling every station on the bus finds: 1 if that is heard, 3 if they also hold a write set of the
-- configuration found, else 0". What that means for rounds is in ReachExact.antt.
pub record Reached (v : State) (i : ℕ) (r : Reply) : Type 0 where
  -- the stations on the bus
  pub is_on : (s : ℕ) → member (on_bus v) s ≡ (ltb s v.n && not (member v.off s))
  -- polling them finds the configuration of a station g; with nobody on the bus it finds none, and the figure is 0
  pub unheard : (r.first ≡ 0) ↔ ((g : ℕ) → HeardBy v i (on_bus v) g → ⊥)
  pub reads_only : (r.first ≡ 1) ↔ ((g : ℕ) × HeardBy v i (on_bus v) g × (QuorumIn (write_set (v.copies i g).config) (on_bus v) → ⊥))
  pub writes : (r.first ≡ 3) ↔ ((g : ℕ) × HeardBy v i (on_bus v) g × QuorumIn (write_set (v.copies i g).config) (on_bus v))
  pub no_other : ((r.first ≡ 0) ⊎ ((r.first ≡ 1) ⊎ (r.first ≡ 3))) × (r.second ≡ 0) × (r.third ≡ 0)

-- ---- diagnose, document 02, 2026-04: "the number commit would give now; one plus the station that gave the version, or 0; one plus the read place, or
-- 0". That the number is commit's own is in DiagnoseExact.antt.
pub record Diagnosed (v : State) (r : Reply) : Type 0 where
  pub commits : Commits v r.first
  -- of the polled stations the lowest that has the greatest version, heard or not; none exactly if nothing is polled
  pub station : (s : ℕ) → (r.second ≡ suc s) ↔ IsNewest (λ k. (own v k).version) v.round.polled v.n s
  pub no_station : (r.second ≡ 0) ↔ (v.round.polled ≡ 0)
  pub place : OwnPlaceShown v r.third

-- ---- plan, document 02, 2026-05: "how many polls first make a new round heard if the stations on the bus are polled in rising number, and how many
-- rising puts then hold a write set of the configuration found; this second figure is 0 if none can". What that means for rounds is in PlanExact.antt of
-- `plan_exact`.
-- the order has exactly the stations on the bus, each once, rising; its start of k stations has the first k of them (`has` of Starts.antt of the plan)
abbrev pub RisingOnBus : State → Type 0
RisingOnBus v = Listing (λ s. (s < v.n) × (member v.off s ≡ false)) (order_on v)

-- puts at the k lowest stations on the bus are enough, where q are planned
abbrev pub Enough : ℕ → ℕ → Type 0
Enough q k = (1 ≤ q) × (q ≤ k)

pub record Planned (v : State) (i : ℕ) (r : Reply) : Type 0 where
  pub order : RisingOnBus v
  -- polling that many finds the configuration of a station g, and is heard; polling fewer is not
  pub g : ℕ
  pub heard : HeardBy v i (start_on v r.first) g
  pub fewest : (k : ℕ) → k < r.first → (s : ℕ) → HeardBy v i (start_on v k) s → ⊥
  -- puts at the k lowest stations hold a write set of it exactly if the figure is not 0 and k is not below it; those at all of them do unless it is 0
  pub written : (k : ℕ) → QuorumIn (write_set (v.copies i g).config) (start_on v k) ↔ Enough r.second k
  pub unwritten : (r.second ≡ 0) ↔ (QuorumIn (write_set (v.copies i g).config) (on_bus v) → ⊥)
  pub no_other : r.third ≡ 0

-- the state before a call, the state after it, and its reply. Document 02, 2026-06: "Lay and open change store this form." What the form is to the
-- configuration given is in StandardForm.antt of `spelling`.
abbrev pub Step : Call → State → State → Reply → Type 0
Step (lay n m value config) v w r = Laid w n m value (standard_form n config)
Step (open_read i) v w r = Opened v w read i 0 no_target
Step (open_write i value) v w r = Opened v w write i value no_target
Step (open_change i target) v w r = Opened v w change i 0 (standard_form v.n target)
Step (poll s) v w r = Polled v w s r
Step (put s sort) v w r = Put v w s sort
Step commit v w r = Committed v w r
Step abandon v w r = Opened v w none 0 0 no_target
Step (link s state) v w r = Linked v w s state
Step (reach i) v w r = Reached v i r
Step diagnose v w r = Diagnosed v r
Step (plan i) v w r = Planned v i r

pub record Steps : Type 0 where
  pub step : (t : Table) (c : Call) → AreBytes t → Passable c → (reply t c).number ≡ 0 → Step c (view t) (view (after t c)) (reply t c)
  pub reach_changes_nothing : (t : Table) (i : ℕ) → after t (reach i) ≡ t
  pub diagnose_changes_nothing : (t : Table) → after t diagnose ≡ t
  pub plan_changes_nothing : (t : Table) (i : ℕ) → after t (plan i) ≡ t

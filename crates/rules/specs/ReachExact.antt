-- Reach is exact (document 02, 2026-03). On every sound table of bytes with no open round its figure says what a round that polls all stations on the bus can
-- do. After an opening of the item and these polls it is heard exactly if the figure is 1 or 3. With data puts at all of them a write finishes exactly if it
-- is 3 and no copy of the item among them has a spent version; with both puts a change finishes exactly if it is 3, they hold a write set of its target, and
-- no copy has a spent generation. Over every list of demand 3 it speaks of rounds that poll a part of them too: where it is 0 none is heard, so that none
-- finishes; where it is 1 none of them finds a configuration whose write sets they hold. And where it is 1 or 3, the read that polls them all gives the book's
-- figures.
use Rattle.std.specs.Prelude.{◌≡◌, true, false, List, [], ◌∷◌, ◌++◌, ◌↔◌, ◌⊎◌, ℕ, ◌≤◌}
use Rattle.basics.specs.Bytes.{AreBytes}
use Rattle.quorum.specs.Sets.{member}
use Rattle.plan.specs.Starts.{among}
use Rattle.quorum.specs.Configurations.{write_set}
use Rattle.quorum.specs.Promise.{QuorumIn, ◌⊆◌}
use Rattle.layout.specs.Fields.{none, change}
use Rattle.layout.specs.Soundness.{sound}
use Rattle.layout.specs.View.{Table, State, view, on_bus}
use Rattle.rules.specs.Calls.{Call, lay, open_read, open_write, open_change, commit, abandon, reach}
use Rattle.rules.specs.Calls.{is_lay, data_sort, config_sort}
use Rattle.rules.specs.Passed.{Passable}
use Rattle.rules.specs.Reply.{reply, after}
use Rattle.rules.specs.Lists.{replies, after_all, AllPassable}
use Rattle.rules.specs.Book.{Book, entry, fed_all}
use Rattle.rules.specs.Demand2.{HeardBy}
use Rattle.rules.specs.Steps.{SameCopies, PlaceShown}
use Rattle.rules.specs.WholeRounds.{Opens, polls, puts, AllDone, last_figure, Closes, SpentAmong, DoneGiving}
use Rattle.rules.specs.declared.Reply.{Reply}

-- ---- all stations on the bus, in any order
-- the list has all stations on the bus, and no others; one may come twice
abbrev pub AllOn : State → List ℕ → Type 0
AllOn v order = (s : ℕ) → among order s ≡ member (on_bus v) s

-- ---- what the figure says of one table
-- a figure that says that the item can be read
abbrev pub Readable : ℕ → Type 0
Readable figure = (figure ≡ 1) ⊎ (figure ≡ 3)

-- the replies to the polls: all are done, and the last shows the read place of what they find together (2026-04). With nobody on the bus there is no poll
-- and no reply, and nothing is heard.
pub record PollsSay (v : State) (i figure : ℕ) (answers : List Reply) : Type 0 where
  pub done : AllDone answers
  pub place : PlaceShown v i (on_bus v) (last_figure 0 answers)
  pub heard : (1 ≤ last_figure 0 answers) ↔ Readable figure
  pub unheard : (last_figure 0 answers ≡ 0) ↔ (figure ≡ 0)

-- ---- what it says over a list of demand 3
-- each commit of a round on item i that has polled only these stations gets 8, up to the first lay that is done or commit that finishes a change of item i
abbrev pub NoneFinishes : ℕ → ℕ → Table → List Call → Type 0
NoneFinishes i these t [] = Unit {0}
NoneFinishes i these t (c ∷ calls) =
    (c ≡ commit → ((view t).round.kind ≡ none → ⊥) → (view t).round.item ≡ i → (view t).round.polled ⊆ these → (reply t commit).number ≡ 8)
    × (((reply t c).number ≡ 0 → (is_lay c ≡ false) × (c ≡ commit → (view t).round.kind ≡ change → (view t).round.item ≡ i → ⊥))
    → NoneFinishes i these (after t c) calls)

-- each commit of a round on item i gets 8, up to the first call by which a station comes on
abbrev pub StaysUnheard : ℕ → Table → List Call → Type 0
StaysUnheard i t [] = Unit {0}
StaysUnheard i t (c ∷ calls) =
    (c ≡ commit → ((view t).round.kind ≡ none → ⊥) → (view t).round.item ≡ i → (reply t commit).number ≡ 8)
    × (on_bus (view (after t c)) ⊆ on_bus (view t) → StaysUnheard i (after t c) calls)

pub record OutOfReach (t : Table) (i : ℕ) : Type 0 where
  -- no set of stations on the bus would be heard
  pub no_set_heard : (set : ℕ) → set ⊆ on_bus (view t) → (g : ℕ) → HeardBy (view t) i set g → ⊥
  -- so no round that polls only these stations can finish, the one that is open included, until a lay or a change of the item is done
  pub none_finishes : (calls : List Call) → AllPassable calls → NoneFinishes i (on_bus (view t)) t calls
  -- and no round on the item at all before a station comes on, which none does by a lay, if the open round, where it is on the item, has polled only
  -- stations on the bus
  pub stays_unheard : (((view t).round.kind ≡ none → ⊥) → (view t).round.item ≡ i → (view t).round.polled ⊆ on_bus (view t))
      → (calls : List Call) → AllPassable calls → StaysUnheard i t calls

-- the table t and the book after a list
pub record OverLists (t : Table) (b : Book) : Type 0 where
  pub zero : (i : ℕ) → (reply t (reach i)).number ≡ 0 → (reply t (reach i)).first ≡ 0 → OutOfReach t i
  -- whatever part of the stations on the bus is heard, they hold no write set of the configuration that it finds
  pub one : (i : ℕ) → (reply t (reach i)).first ≡ 1 → (set : ℕ) → set ⊆ on_bus (view t) → (g : ℕ) → HeardBy (view t) i set g
      → QuorumIn (write_set ((view t).copies i g).config) (on_bus (view t)) → ⊥
  -- the read that polls all stations on the bus, where no round is open, and where one is abandoned for it
  pub reads_the_book : (i : ℕ) (order : List ℕ) → Readable (reply t (reach i)).first → AllOn (view t) order → (view t).round.kind ≡ none
      → DoneGiving (entry b.items i) (reply (after_all t (open_read i ∷ polls order)) commit)
  pub reads_after_abandon : (i : ℕ) (order : List ℕ) → Readable (reply t (reach i)).first → AllOn (view t) order → ((view t).round.kind ≡ none → ⊥)
      → DoneGiving (entry b.items i) (reply (after_all t (abandon ∷ open_read i ∷ polls order)) commit)

pub record ReachExact : Type 0 where
  -- the open round does not matter: on sound tables with the same stations on the bus and the same copies reach replies the same
  pub any_round : (t u : Table) (i : ℕ) → sound t ≡ true → sound u ≡ true → SameCopies (view t) (view u) → (view u).off ≡ (view t).off
      → reply u (reach i) ≡ reply t (reach i)
  -- an opening of the item, and polls of all stations on the bus
  pub hears : (t : Table) (c : Call) (i : ℕ) (order : List ℕ) → AreBytes t → Passable c → Opens c i → (reply t c).number ≡ 0 → AllOn (view t) order
      → PollsSay (view t) i (reply t (reach i)).first (replies (after t c) (polls order))
  -- the commit of a read with those polls
  pub reads : (t : Table) (i : ℕ) (order : List ℕ) → AreBytes t → (reply t (open_read i)).number ≡ 0 → AllOn (view t) order
      → Closes (reply (after_all t (open_read i ∷ polls order)) commit).number (Readable (reply t (reach i)).first) ⊥ (Unit {0})
  -- that of a write, with data puts at all of them, in any order too
  pub writes : (t : Table) (i value : ℕ) (order data_at : List ℕ) → AreBytes t → Passable (open_write i value) → (reply t (open_write i value)).number ≡ 0
      → AllOn (view t) order → AllOn (view t) data_at
      → Closes (reply (after_all t (open_write i value ∷ polls order ++ puts data_sort data_at)) commit).number (Readable (reply t (reach i)).first)
      (SpentAmong (λ c. c.version) (view t) i (on_bus (view t))) ((reply t (reach i)).first ≡ 3)
  -- that of a change, with data puts and then configuration puts at all of them: they must hold a write set of the target as well
  pub changes : (t : Table) (i : ℕ) (target order data_at config_at : List ℕ) → AreBytes t → Passable (open_change i target)
      → (reply t (open_change i target)).number ≡ 0 → AllOn (view t) order → AllOn (view t) data_at → AllOn (view t) config_at
      → Closes (reply (after_all t (open_change i target ∷ polls order ++ (puts data_sort data_at ++ puts config_sort config_at))) commit).number
      (Readable (reply t (reach i)).first) (SpentAmong (λ c. c.generation) (view t) i (on_bus (view t)))
      (((reply t (reach i)).first ≡ 3) × QuorumIn (write_set target) (on_bus (view t)))
  -- over every list of demand 3, refused calls and further lays included, whatever the book held before it
  pub over_lists : (t : Table) (b : Book) (n m value : ℕ) (config : List ℕ) (calls : List Call)
      → AreBytes t → AllPassable (lay n m value config ∷ calls) → (reply t (lay n m value config)).number ≡ 0
      → OverLists (after_all t (lay n m value config ∷ calls)) (fed_all b (lay n m value config ∷ calls) (replies t (lay n m value config ∷ calls)))

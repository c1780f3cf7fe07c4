-- Plan is exact (document 02, 2026-05), by the calls themselves. On every sound table of bytes with no open round, where plan gives p polls and q puts:
-- after an opening of the item, polls of the stations on the bus in rising number are done, and show p − 1 times that the round is not heard, and then that
-- it is; the read that polls the first p is done, and with fewer polls it gets 8. With those polls and data puts at the k lowest stations on the bus a write
-- finishes exactly if q is above 0, k is at least q and no version among those polled is spent: so q puts do, q − 1 do not, and with q = 0 those at all of
-- them do not. A change with data puts at all of them and configuration puts at the k lowest finishes exactly if q is above 0, k is at least q, all of them
-- hold a write set of its target, and no generation among those polled is spent. Where plan gets 15, no start of the rising order is heard. Over every list
-- of demand 3 more polls keep the round heard and the puts right, the read gives the book's figures, and plan and reach agree.
use Rattle.std.specs.Prelude.{◌≡◌, true, List, [], ◌∷◌, ◌++◌, ◌↔◌, ◌⊎◌, ℕ, zero, suc, ◌≤◌}
use Rattle.basics.specs.Bytes.{AreBytes}
use Rattle.quorum.specs.Configurations.{write_set}
use Rattle.quorum.specs.Promise.{QuorumIn}
use Rattle.layout.specs.Fields.{none}
use Rattle.layout.specs.Soundness.{sound}
use Rattle.layout.specs.View.{Table, view, on_bus}
use Rattle.plan.specs.Plan.{order_on, lowest_on, start_on}
use Rattle.rules.specs.Calls.{Call, lay, open_read, open_write, open_change, commit, abandon, reach, plan, data_sort, config_sort}
use Rattle.rules.specs.Passed.{Passable}
use Rattle.rules.specs.Reply.{reply, after}
use Rattle.rules.specs.Lists.{replies, after_all, AllPassable}
use Rattle.rules.specs.Book.{Book, entry, fed, fed_all}
use Rattle.rules.specs.Demand2.{HeardBy}
use Rattle.rules.specs.Steps.{SameCopies, RisingOnBus, Enough, Planned}
use Rattle.rules.specs.WholeRounds.{Opens, polls, puts, AllDone, Closes, SpentAmong, DoneGiving}
use Rattle.rules.specs.declared.Reply.{Reply}

-- the replies to polls: done and not heard up to the last of the first p, which is done and heard. Those behind it do not matter.
abbrev pub FirstHeardAt : ℕ → List Reply → Type 0
FirstHeardAt zero rest = ⊥
FirstHeardAt (suc k) [] = ⊥
FirstHeardAt (suc zero) (r ∷ rest) = (r.number ≡ 0) × (1 ≤ r.first)
FirstHeardAt (suc (suc k)) (r ∷ rest) = (r.number ≡ 0) × (r.first ≡ 0) × FirstHeardAt (suc k) rest

-- all are done, and none is heard
abbrev pub NeverHeard : List Reply → Type 0
NeverHeard [] = Unit {0}
NeverHeard (r ∷ rest) = (r.number ≡ 0) × (r.first ≡ 0) × NeverHeard rest

-- ---- a table with no open round, on which plan gives p and q for item i. With more polls than p a sound table that no list of calls leaves may be unheard
-- again; over lists see `stays_heard`.
pub record PlannedRounds (t : Table) (i p q : ℕ) : Type 0 where
  -- an opening of the item and polls in rising number
  pub hears : (c : Call) → Passable c → Opens c i → (reply t c).number ≡ 0
      → AllDone (replies (after t c) (polls (order_on (view t)))) × FirstHeardAt p (replies (after t c) (polls (order_on (view t))))
  -- the read with the first j of these polls
  pub reads : (j : ℕ) → j ≤ p → Closes (reply (after_all t (open_read i ∷ polls (lowest_on (view t) j))) commit).number (j ≡ p) ⊥ (Unit {0})
  -- the write with the first j of them, and data puts at the k lowest stations
  pub writes : (j k value : ℕ) → j ≤ p → Passable (open_write i value)
      → Closes (reply (after_all t (open_write i value ∷ polls (lowest_on (view t) j) ++ puts data_sort (lowest_on (view t) k))) commit).number (j ≡ p)
      (SpentAmong (λ c. c.version) (view t) i (start_on (view t) j)) (Enough q k)
  -- the change with data puts at all stations on the bus, which must hold a write set of the target, and configuration puts at the k lowest
  pub changes : (j k : ℕ) (target : List ℕ) → j ≤ p → Passable (open_change i target) → (reply t (open_change i target)).number ≡ 0
      → Closes (reply (after_all t (open_change i target ∷ polls (lowest_on (view t) j)
      ++ (puts data_sort (order_on (view t)) ++ puts config_sort (lowest_on (view t) k)))) commit).number (j ≡ p)
      (SpentAmong (λ c. c.generation) (view t) i (start_on (view t) j)) (QuorumIn (write_set target) (on_bus (view t)) × Enough q k)

-- ---- over a list of demand 3
pub record OverLists (t : Table) (b : Book) : Type 0 where
  -- with as many polls as planned, or more, the round is heard, and the planned puts are right for what it finds
  pub stays_heard : (i j : ℕ) → (reply t (plan i)).number ≡ 0 → (reply t (plan i)).first ≤ j → (g : ℕ) × HeardBy (view t) i (start_on (view t) j) g
      × ((k : ℕ) → QuorumIn (write_set ((view t).copies i g).config) (start_on (view t) k) ↔ Enough (reply t (plan i)).second k)
  -- and the read gives what the book has, where no round is open, and where one is abandoned for it
  pub reads_the_book : (i j : ℕ) → (reply t (plan i)).number ≡ 0 → (reply t (plan i)).first ≤ j → (view t).round.kind ≡ none
      → DoneGiving (entry b.items i) (reply (after_all t (open_read i ∷ polls (lowest_on (view t) j))) commit)
  pub reads_after_abandon : (i j : ℕ) → (reply t (plan i)).number ≡ 0 → (reply t (plan i)).first ≤ j → ((view t).round.kind ≡ none → ⊥)
      → DoneGiving (entry b.items i) (reply (after_all t (abandon ∷ open_read i ∷ polls (lowest_on (view t) j))) commit)
  -- plan gets 15 exactly if reach gives 0 (then no set of stations on the bus is heard: `zero` of ReachExact.antt); it gives a number of puts exactly if
  -- reach gives 3
  pub out_of_reach : (i : ℕ) → (reply t (reach i)).number ≡ 0 → ((reply t (plan i)).number ≡ 15) ↔ ((reply t (reach i)).first ≡ 0)
  pub can_write_lem : (i : ℕ) → (reply t (plan i)).number ≡ 0 → (1 ≤ (reply t (plan i)).second) ↔ ((reply t (reach i)).first ≡ 3)

pub record PlanExact : Type 0 where
  -- the open round does not matter: on sound tables with the same stations on the bus and the same copies plan replies the same
  pub any_round : (t u : Table) (i : ℕ) → sound t ≡ true → sound u ≡ true → SameCopies (view t) (view u) → (view u).off ≡ (view t).off
      → reply u (plan i) ≡ reply t (plan i)
  -- it gets 1 and 2 where reach does, and else it is done or gets 15
  pub refused_as_reach : (t : Table) (i k : ℕ) → (k ≡ 1) ⊎ (k ≡ 2) → ((reply t (plan i)).number ≡ k) ↔ ((reply t (reach i)).number ≡ k)
  pub no_other : (t : Table) (i : ℕ) → (reply t (reach i)).number ≡ 0 → ((reply t (plan i)).number ≡ 0) ⊎ ((reply t (plan i)).number ≡ 15)
  -- the order: exactly the stations on the bus, each once, rising
  pub order : (t : Table) → sound t ≡ true → RisingOnBus (view t)
  -- by starts of it and quorums (Steps.antt of the rules says it of bytes)
  pub shows : (t : Table) (i : ℕ) → (reply t (plan i)).number ≡ 0 → Planned (view t) i (reply t (plan i))
  -- by the calls
  pub rounds : (t : Table) (i : ℕ) → AreBytes t → (reply t (plan i)).number ≡ 0 → (view t).round.kind ≡ none
      → PlannedRounds t i (reply t (plan i)).first (reply t (plan i)).second
  -- where it gets 15, no start is heard: by the copies, whatever round is open; by the polls of an opening that is done; and the read of any start gets 8
  pub no_start : (t : Table) (i : ℕ) → (reply t (plan i)).number ≡ 15 → (k g : ℕ) → HeardBy (view t) i (start_on (view t) k) g → ⊥
  pub never_heard : (t : Table) (c : Call) (i : ℕ) → AreBytes t → Passable c → Opens c i → (reply t c).number ≡ 0 → (reply t (plan i)).number ≡ 15
      → NeverHeard (replies (after t c) (polls (order_on (view t))))
  pub unread : (t : Table) (i k : ℕ) → AreBytes t → (reply t (plan i)).number ≡ 15 → (view t).round.kind ≡ none
      → (reply (after_all t (open_read i ∷ polls (lowest_on (view t) k))) commit).number ≡ 8
  -- over every list of demand 3, refused calls and further lays included, whatever the book held before it
  pub over_lists : (t : Table) (b : Book) (n m value : ℕ) (config : List ℕ) (calls : List Call)
      → AreBytes t → AllPassable (lay n m value config ∷ calls) → (reply t (lay n m value config)).number ≡ 0
      → OverLists (after_all t (lay n m value config ∷ calls)) (fed_all b (lay n m value config ∷ calls) (replies t (lay n m value config ∷ calls)))
  -- the book stays as it was
  pub book_kept : (b : Book) (i number : ℕ) → fed b (plan i) number ≡ b

-- What each call needs, by facts about the state, and the number that it gets where one of them fails (document 01, the table of numbers; diagnose and
-- plan are document 02's, 2026-04 and 2026-05).
-- What a round has found, its quorums and its counters are by quantifiers, as in Demand2.antt. Of the store's own tests two are named: soundness, whose
-- facts are in SoundFacts.antt of the layout, and that a lay's length fits (`fits` of its View.antt).
-- A call is refused only where a fact of its list fails. That rules out "every call refused", one of document 01's "Versions that fail".
-- It is refused with the number of the first that fails: "The lowest number that applies is given".
use Rattle.std.specs.Prelude.{◌≡◌, true, false, List, [], ◌∷◌, ◌↔◌, ◌⊎◌, ℕ, ◌≤◌, ◌<◌}
use Rattle.quorum.specs.Sets.{member}
use Rattle.quorum.specs.Promise.{Valid}
use Rattle.layout.specs.Fields.{Kind, none, read, write, change}
use Rattle.layout.specs.View.{Table, State, view, own, found_by_version, found_by_generation}
use Rattle.plan.specs.Plan.{start_on}
use Rattle.rules.specs.Calls.{Call, lay, open_read, open_write, open_change, poll, put, commit, abandon, link, reach, diagnose, plan}
use Rattle.rules.specs.Calls.{is_lay, data_sort, config_sort, off_state, on_state}
use Rattle.rules.specs.Reply.{reply}
use Rattle.rules.specs.Demand2.{Found, HeardBy, HeardRound, Spent, Written}

-- facts with their numbers, in the order in which they are asked for
abbrev pub Needs : Type 1
Needs = List (ℕ × Type 0)

-- the number is that of the first fact that fails; 0 where none does
abbrev pub Gets : Needs → ℕ → Type 0
Gets [] k = k ≡ 0
Gets (x ∷ rest) k = ((x.1 → ⊥) × (k ≡ x.0)) ⊎ (x.1 × Gets rest k)

-- all hold; the one of this number fails
abbrev pub Hold : Needs → Type 0
Hold [] = Unit {0}
Hold (x ∷ rest) = x.1 × Hold rest

abbrev pub Fails : Needs → ℕ → Type 0
Fails [] k = ⊥
Fails (x ∷ rest) k = ((x.1 → ⊥) × (k ≡ x.0)) ⊎ Fails rest k

-- the numbers, and that they rise
abbrev pub numbers : Needs → List ℕ
numbers [] = []
numbers (x ∷ rest) = x.0 ∷ numbers rest

abbrev pub Rise : ℕ → List ℕ → Type 0
Rise low [] = Unit {0}
Rise low (k ∷ rest) = (low < k) × Rise k rest

-- ---- the facts
-- 9: "a put in a read, a configuration put in a write" is wrong. With no round this is never asked, here and below: idle comes first.
abbrev pub RightPut : Kind → ℕ → Type 0
RightPut none sort = ⊥
RightPut read sort = ⊥
RightPut write sort = sort ≡ data_sort
RightPut change sort = Unit {0}

-- 10: "found version is 2^64 − 1 at a data put .. of a write, or found generation at a configuration put .. of a change". A data put of a
-- change raises no counter.
abbrev pub SpentAtPut : (v : State) → Found v → Kind → ℕ → Type 0
SpentAtPut v f none sort = ⊥
SpentAtPut v f read sort = ⊥
SpentAtPut v f write sort = (sort ≡ data_sort) × Spent v f write
SpentAtPut v f change sort = (sort ≡ config_sort) × Spent v f change

-- 15, document 02, 2026-05: some start of the rising order of the stations on the bus is heard (what a start has is in Starts.antt of the plan)
abbrev pub InHearing : State → ℕ → Type 0
InHearing v i = (k : ℕ) × (g : ℕ) × HeardBy v i (start_on v k) g

-- What each call needs; "lay tests 2, then 1, then 3". With nothing polled nothing is found, and 10 and 11 are not asked: 8 comes first.
unfoldable pub needs : State → Call → Needs
needs v (lay n m value config) = (2, (1 ≤ n) × (n ≤ 16) × (1 ≤ m) × (m ≤ 32)) ∷ (1, v.fits n m ≡ true) ∷ (3, Valid n config) ∷ []
needs v (open_read i) = (1, v.is_sound ≡ true) ∷ (2, i < v.m) ∷ (4, v.round.kind ≡ none) ∷ []
needs v (open_write i value) = (1, v.is_sound ≡ true) ∷ (2, i < v.m) ∷ (4, v.round.kind ≡ none) ∷ []
needs v (open_change i target) = (1, v.is_sound ≡ true) ∷ (2, i < v.m) ∷ (3, Valid v.n target) ∷ (4, v.round.kind ≡ none) ∷ []
needs v (poll s) =
    (1, v.is_sound ≡ true) ∷ (2, s < v.n) ∷ (5, v.round.kind ≡ none → ⊥) ∷ (6, member v.off s ≡ false)
    ∷ (7, (v.round.data_puts ≡ 0) × (v.round.config_puts ≡ 0)) ∷ []
needs v (put s sort) =
    (1, v.is_sound ≡ true) ∷ (2, (s < v.n) × ((sort ≡ data_sort) ⊎ (sort ≡ config_sort))) ∷ (5, v.round.kind ≡ none → ⊥)
    ∷ (6, member v.off s ≡ false) ∷ (8, HeardRound v) ∷ (9, RightPut v.round.kind sort)
    ∷ (10, (f : Found v) → SpentAtPut v f v.round.kind sort → ⊥) ∷ []
needs v commit =
    (1, v.is_sound ≡ true) ∷ (5, v.round.kind ≡ none → ⊥) ∷ (8, HeardRound v) ∷ (10, (f : Found v) → Spent v f v.round.kind → ⊥)
    ∷ (11, (f : Found v) → Written v f v.round.kind) ∷ []
needs v abandon = (1, v.is_sound ≡ true) ∷ (5, v.round.kind ≡ none → ⊥) ∷ []
needs v (link s state) = (1, v.is_sound ≡ true) ∷ (2, (s < v.n) × ((state ≡ off_state) ⊎ (state ≡ on_state))) ∷ []
needs v (reach i) = (1, v.is_sound ≡ true) ∷ (2, i < v.m) ∷ []
needs v diagnose = (1, v.is_sound ≡ true) ∷ (5, v.round.kind ≡ none → ⊥) ∷ []
needs v (plan i) = (1, v.is_sound ≡ true) ∷ (2, i < v.m) ∷ (15, InHearing v i) ∷ []

-- a call is allowed if it has all that it needs
abbrev pub Allowed : State → Call → Type 0
Allowed v c = Hold (needs v c)

pub record Numbers : Type 0 where
  -- the number is k exactly if k's fact fails and none before it does; it is 0 exactly if the call has all that it needs
  pub number_exactly : (t : Table) (c : Call) (k : ℕ) → ((reply t c).number ≡ k) ↔ Gets (needs (view t) c) k
  pub done_exactly : (t : Table) (c : Call) → ((reply t c).number ≡ 0) ↔ Allowed (view t) c
  -- each list of numbers rises, and lay's is 2, 1, 3
  pub rising : (v : State) (c : Call) → is_lay c ≡ false → Rise 0 (numbers (needs v c))
  pub lay_order : (v : State) (n m value : ℕ) (config : List ℕ) → numbers (needs v (lay n m value config)) ≡ 2 ∷ 1 ∷ 3 ∷ []
  -- "The lowest number that applies is given"
  pub applies : (t : Table) (c : Call) → ((reply t c).number ≡ 0 → ⊥) → Fails (needs (view t) c) (reply t c).number
  pub lowest : (t : Table) (c : Call) (k : ℕ) → is_lay c ≡ false → Fails (needs (view t) c) k → (1 ≤ (reply t c).number) × ((reply t c).number ≤ k)
  -- what a round has found are the copies of the stations found
  pub found_copies : (v : State) (f : Found v) → (found_by_version v ≡ own v f.b) × (found_by_generation v ≡ own v f.g)

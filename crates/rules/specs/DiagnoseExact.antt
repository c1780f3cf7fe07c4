-- Diagnose is exact (document 02, 2026-04): "It is held to commit's own reply". On every table, sound or not, it gets 1 and 5 where commit does; everywhere
-- else it replies 0, and its first figure is commit's own number. The figure is so by definition (`diagnosis` of Figures.antt), to which the code is held;
-- `shows` tells it by quorums and counters as well. It changes no byte (`diagnose_changes_nothing` of Steps.antt), so that a commit right after it gets that
-- number. Over every list of demand 3 the station shown in a heard round has the current reading.
use Rattle.std.specs.Prelude.{◌≡◌, ◌↔◌, ◌⊎◌, List, ◌∷◌, ℕ, suc, ◌≤◌}
use Rattle.basics.specs.Bytes.{AreBytes}
use Rattle.layout.specs.Fields.{Copy}
use Rattle.layout.specs.View.{Table, view, own}
use Rattle.rules.specs.Calls.{Call, lay, poll, commit, diagnose}
use Rattle.rules.specs.Reply.{reply, after}
use Rattle.rules.specs.Lists.{replies, after_all, AllPassable}
use Rattle.rules.specs.Book.{Book, Entry, entry, fed, fed_all}
use Rattle.rules.specs.Demand2.{Found}
use Rattle.rules.specs.Steps.{Closing, Diagnosed}

-- a copy has the value and the writes that the book has for the item
abbrev pub UpToDate : Copy → Entry → Type 0
UpToDate c e = (c.value ≡ e.value) × (c.version ≡ e.writes)

-- where a read place is shown, the copy at the station shown is up to date
abbrev pub ShowsCurrent : Table → Book → Type 0
ShowsCurrent t b = (s : ℕ) → (reply t diagnose).second ≡ suc s → 1 ≤ (reply t diagnose).third
    → UpToDate (own (view t) s) (entry b.items (view t).round.item)

pub record DiagnoseExact : Type 0 where
  -- "It gets 1 and 5 as commit does", and no other number but 0
  pub unsound : (t : Table) → ((reply t diagnose).number ≡ 1) ↔ ((reply t commit).number ≡ 1)
  pub idle : (t : Table) → ((reply t diagnose).number ≡ 5) ↔ ((reply t commit).number ≡ 5)
  pub no_other : (t : Table) → ((reply t diagnose).number ≡ 0) ⊎ (((reply t diagnose).number ≡ 1) ⊎ ((reply t diagnose).number ≡ 5))
  -- "the number commit would give now"
  pub commit_number : (t : Table) → (reply t diagnose).number ≡ 0 → (reply t diagnose).first ≡ (reply t commit).number
  -- the same by quorums and counters; the station that gave the version and the read place, by quantifiers (Steps.antt says it of bytes)
  pub shows : (t : Table) → (reply t diagnose).number ≡ 0 → Diagnosed (view t) (reply t diagnose)
  -- where the commit would be done, its figures are made of the copy of the station shown and of the one found by generation
  pub closing : (t : Table) → (reply t diagnose).number ≡ 0 → (reply t diagnose).first ≡ 0
      → (f : Found (view t)) × ((reply t diagnose).second ≡ suc f.b) × Closing (view t) f (view t).round.kind (reply t commit)
  -- where no station is shown the commit would get 8; no read place is shown exactly if it would
  pub nothing_polled : (t : Table) → (reply t diagnose).number ≡ 0 → (reply t diagnose).second ≡ 0 → (reply t diagnose).first ≡ 8
  pub unheard : (t : Table) → (reply t diagnose).number ≡ 0 → ((reply t diagnose).third ≡ 0) ↔ ((reply t diagnose).first ≡ 8)
  -- a commit right after it gets what it said; so where it said 0, the commit is done
  pub then_gets : (t : Table) → (reply t diagnose).number ≡ 0 → (reply (after t diagnose) commit).number ≡ (reply t diagnose).first
  pub then_finishes : (t : Table) → (reply t diagnose).number ≡ 0 → (reply t diagnose).first ≡ 0 → (reply (after t diagnose) commit).number ≡ 0
  -- over every list of demand 3, refused calls and further lays included, whatever the book held before it
  pub over_lists : (t : Table) (b : Book) (n m value : ℕ) (config : List ℕ) (calls : List Call)
      → AreBytes t → AllPassable (lay n m value config ∷ calls) → (reply t (lay n m value config)).number ≡ 0
      → ShowsCurrent (after_all t (lay n m value config ∷ calls)) (fed_all b (lay n m value config ∷ calls) (replies t (lay n m value config ∷ calls)))
  -- the book stays as it was
  pub book_kept : (b : Book) (number : ℕ) → fed b diagnose number ≡ b
  -- on bytes, a diagnose right after a poll that is done is done, and shows the read place that the poll showed
  pub poll_shows : (t : Table) (s : ℕ) → AreBytes t → (reply t (poll s)).number ≡ 0
      → ((reply (after t (poll s)) diagnose).number ≡ 0) × ((reply (after t (poll s)) diagnose).third ≡ (reply t (poll s)).first)

-- The book of one copy (document 01): the one-copy reference model that demand 3 holds the store to.
-- "It is fed each call with its arguments and the number of its reply, nothing else."
use Rattle.std.specs.Prelude.{◌≡◌, List, [], ◌∷◌, ℕ, zero, suc, ◌+◌, get_or, set, replicate}
use Rattle.rules.specs.Calls.{Call, lay, open_read, open_write, open_change, poll, put, commit, abandon, link, reach, diagnose, plan}
use Rattle.rules.specs.declared.Reply.{Reply}

-- "It keeps, for each of 32 items, a value, a count of writes and a count of changes." The 32 stands in the step of a lay.
pub record Entry : Type 0 where
  pub value : ℕ
  pub writes : ℕ
  pub changes : ℕ

-- "It also keeps one noted round or none: read, write or change, its item, and in a write its value."
pub data Noted : Type 0 where
  none : Noted
  read : (item : ℕ) → Noted
  write : (item value : ℕ) → Noted
  change : (item : ℕ) → Noted

pub record Book : Type 0 where
  pub items : List Entry
  pub noted : Noted

abbrev pub started : ℕ → Entry
started value = record { value = value; writes = 0; changes = 0 }

-- what the book has for an item; of one that it does not have nobody asks after a lay that replies 0
abbrev pub entry : List Entry → ℕ → Entry
entry items i = get_or items i (started 0)

-- "a noted write gives its item the noted value and adds one to its writes; a noted change adds one to its item's changes; a
-- read alters no item"
abbrev pub finish : List Entry → Noted → List Entry
finish items none = items
finish items (read i) = items
finish items (write i value) = set items i (record { value = value; writes = (entry items i).writes + 1; changes = (entry items i).changes })
finish items (change i) =
    set items i (record { value = (entry items i).value; writes = (entry items i).writes; changes = (entry items i).changes + 1 })

-- the steps "for number 0"; a call that a request adds "leaves the book as it was unless a step is given there" (document 01)
abbrev pub step : Book → Call → Book
step b (lay n m value config) = record { items = replicate 32 (started value); noted = none }
step b (open_read i) = record { items = b.items; noted = read i }
step b (open_write i value) = record { items = b.items; noted = write i value }
step b (open_change i target) = record { items = b.items; noted = change i }
step b (poll s) = b
step b (put s sort) = b
step b commit = record { items = finish b.items b.noted; noted = none }
step b abandon = record { items = b.items; noted = none }
step b (link s state) = b
step b (reach i) = b
step b diagnose = b
step b (plan i) = b

-- "Any call whose number is not 0: the book stays as it was."
unfoldable pub fed : Book → Call → ℕ → Book
fed b c zero = step b c
fed b c (suc k) = b

-- a reply's figures are what the book has for an item
pub record Gives (e : Entry) (r : Reply) : Type 0 where
  pub value : r.first ≡ e.value
  pub writes : r.second ≡ e.writes
  pub changes : r.third ≡ e.changes

-- the book after a list of calls, fed each of them with the number of its reply; there are as many replies as calls
abbrev pub fed_all : Book → List Call → List Reply → Book
fed_all b [] rest = b
fed_all b (c ∷ calls) [] = b
fed_all b (c ∷ calls) (r ∷ rest) = fed_all (fed b c r.number) calls rest

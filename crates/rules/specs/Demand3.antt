-- Demand 3: the single claim over a whole list of calls (document 01, "The book of one copy"): readings are those of one copy. Of document 01's
-- "Versions that fail", a commit that stores only the first put, or nothing, and every read replying the starting value fail at a later read's
-- `value` (of `Gives`, Book.antt), and a version or generation that no finished round made at `writes` or `changes`.
use Rattle.std.specs.Prelude.{◌≡◌, List, [], ◌∷◌, ℕ}
use Rattle.basics.specs.Bytes.{AreBytes}
use Rattle.layout.specs.View.{Table}
use Rattle.rules.specs.Calls.{Call, lay, commit}
use Rattle.rules.specs.Reply.{reply}
use Rattle.rules.specs.Lists.{replies, AllPassable}
use Rattle.rules.specs.Book.{Book, Noted, read, write, change, entry, fed, Gives}
use Rattle.rules.specs.declared.Reply.{Reply}

-- the item of a noted round
pub data NotedItem : Noted → ℕ → Type 0 where
  of_read : {i : ℕ} → NotedItem (read i) i
  of_write : {i v : ℕ} → NotedItem (write i v) i
  of_change : {i : ℕ} → NotedItem (change i) i

-- "Before every commit in the list that replies 0 a round is noted in the book, and that commit's three figures equal, as numbers,
-- the value, the writes and the changes that the book has for that round's item after the commit."
pub record Agrees (before after : Book) (r : Reply) : Type 0 where
  pub item : ℕ
  pub noted : NotedItem before.noted item
  pub gives : Gives (entry after.items item) r

-- the claim over a list of calls and the replies to them, from a book on: the book is fed each call and the number of its reply
abbrev pub OneCopy : Book → List Call → List Reply → Type 0
OneCopy b [] [] = Unit {0}
OneCopy b [] (r ∷ rest) = ⊥
OneCopy b (c ∷ calls) [] = ⊥
OneCopy b (c ∷ calls) (r ∷ rest) =
    (c ≡ commit → r.number ≡ 0 → Agrees b (fed b c r.number) r) × OneCopy (fed b c r.number) calls rest

-- "The list of demand 3 begins with a lay that replies 0, on bytes of any content. After it come the ten calls above in any order,
-- with any arguments, refused ones and further lays included." And "A call on the table that a request adds joins the list": diagnose and plan may come
-- among them (document 02, 2026-04 and 2026-05). Of the arguments only values and configurations are bounded, by what a caller can pass (Passed.antt).
pub record Demand3 : Type 0 where
  pub one_copy : (t : Table) (b : Book) (n m value : ℕ) (config : List ℕ) (calls : List Call)
      → AreBytes t → AllPassable (lay n m value config ∷ calls) → (reply t (lay n m value config)).number ≡ 0
      → OneCopy b (lay n m value config ∷ calls) (replies t (lay n m value config ∷ calls))

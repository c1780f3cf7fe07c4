-- The calls that a session makes, and the replies to them: what the book is fed, and the lists of demand 3 in it (document 01, "The book
-- of one copy").
use Rattle.std.specs.Prelude.{◌≡◌, true, cond, List, [], ◌∷◌, ℕ}
use Rattle.std.proofs.Math.Option.{Option, none, some}
use Rattle.layout.specs.View.{Table}
use Rattle.rules.specs.Calls.{Call, is_lay}
use Rattle.rules.specs.declared.Reply.{Reply}
use Rattle.frames.specs.Frame.{call_of}
use Rattle.runs.specs.Session.{reply_to, table_after}

-- ---- every frame: its call, and the session's reply; a line that is no frame makes no call
abbrev pub with_call : Option Call → List Call → List Call
with_call none calls = calls
with_call (some c) calls = c ∷ calls

unfoldable pub calls_in : List (List ℕ) → List Call
calls_in [] = []
calls_in (line ∷ lines) = with_call (call_of line) (calls_in lines)

abbrev pub with_reply : Option Call → Reply → List Reply → List Reply
with_reply none r replies = replies
with_reply (some c) r replies = r ∷ replies

unfoldable pub replies_in : Table → List (List ℕ) → List Reply
replies_in t [] = []
replies_in t (line ∷ lines) = with_reply (call_of line) (reply_to t line) (replies_in (table_after t line) lines)

-- ---- the lists of demand 3 in a session. A lay frame is lent other bytes than the call before it left, so a session with several lays
-- is not one list; these are the stretches that are. A lay that replies 0 begins one, on the bytes that it is lent; the frames after it
-- are calls on the table as the call before left it, up to the next lay that replies 0. A refused lay is lent bytes of its own, keeps the
-- table, and stands in no list.
-- the calls of these lines, lays left out
abbrev pub call_then : Option Call → List Call → List Call
call_then none calls = calls
call_then (some c) calls = cond (is_lay c) calls (c ∷ calls)

unfoldable pub calls_on : List (List ℕ) → List Call
calls_on [] = []
calls_on (line ∷ lines) = call_then (call_of line) (calls_on lines)

-- and what the session replies to them
abbrev pub reply_then : Option Call → Reply → List Reply → List Reply
reply_then none r replies = replies
reply_then (some c) r replies = cond (is_lay c) replies (r ∷ replies)

unfoldable pub replies_on : Table → List (List ℕ) → List Reply
replies_on t [] = []
replies_on t (line ∷ lines) = reply_then (call_of line) (reply_to t line) (replies_on (table_after t line) lines)

-- no lay among lines replies 0
abbrev pub NoLayDone : Table → List (List ℕ) → Type 0
NoLayDone t [] = Unit {0}
NoLayDone t (line ∷ lines) =
    ((c : Call) → call_of line ≡ some c → is_lay c ≡ true → (reply_to t line).number ≡ 0 → ⊥) × NoLayDone (table_after t line) lines

-- One line of a session: what is printed, and the table in use after it (document 01, "Frames").
use Rattle.std.specs.Prelude.{cond, List, ℕ, eqb, replicate}
use Rattle.std.proofs.Math.Option.{Option, none, some}
use Rattle.layout.specs.View.{Table}
use Rattle.rules.specs.Calls.{Call, lay_or, is_lay}
use Rattle.layout.specs.Layout.{lay_length}
use Rattle.rules.specs.declared.Reply.{Reply}
use Rattle.dispatch.specs.Dispatch.{reply_or, after_or}
use Rattle.frames.specs.Frame.{call_byte, call_of}
use Rattle.replies.specs.ReplyLine.{reply_line}

-- The bytes that a call is lent. "For a lay the runner lends just the length that its n and m need." What these bytes hold is free:
-- "Lay looks at nothing but its arguments and the table's length" (LayAlone.antt of the rules). Every other call gets the table in use.
abbrev pub lay_need : Call → ℕ
lay_need = lay_or (λ n m value config. lay_length n m) 0

unfoldable pub lent : Table → Call → Table
lent t c = cond (is_lay c) (replicate (lay_need c) 0) t

abbrev pub lent_or : Table → Option Call → Table
lent_or t none = t
lent_or t (some c) = lent t c

-- ---- the reply to a line on the table in use
abbrev pub replied : Table → Option Call → Reply
replied t o = reply_or (lent_or t o) o

unfoldable pub reply_to : Table → List ℕ → Reply
reply_to t line = replied t (call_of line)

-- ---- the table in use after it: "A refused lay keeps the old table."
abbrev pub table_or : Table → Option Call → Table
table_or t o = cond (eqb (replied t o).number 0) (after_or (lent_or t o) o) t

unfoldable pub table_after : Table → List ℕ → Table
table_after t line = table_or t (call_of line)

-- ---- what is printed
unfoldable pub printed : Table → List ℕ → List ℕ
printed t line = reply_line (call_byte line) (reply_to t line)

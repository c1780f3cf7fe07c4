-- What a session holds in buffers, and what feeding a piece of input does to it. `Fed` has how far the piece is taken (`at`), and the lengths in use
-- of the line so far (`len`), of the table (`used`) and of the output (`out`).
use Rattle.std.specs.Prelude.{◌≡◌, List, ℕ, ◌+◌, ◌≤◌, length, take}
use Rattle.basics.specs.Bytes.{over}
use Rattle.runs.specs.Session.{table_after, printed}
use Rattle.replies.specs.ReplyLine.{reply_line_size}
use Rattle.runs.specs.Pieces.{enough, InHand, after_piece, printed_by, printed_last, after_last}
use Rattle.layout.specs.Layout.{largest}
use Rattle.session.specs.Buffer.{InUse}
use Rattle.lines.specs.Splitting.{stretch}
use Rattle.feeding.specs.declared.Fed.{Fed}

-- the table and the line so far, in the first bytes of their buffers
abbrev pub in_hand : List ℕ → ℕ → List ℕ → ℕ → InHand
in_hand table used line len = record { table = take used table; line = take len line }

-- the buffers have room for the largest table and for as much of a line as is kept, and the lengths in use lie within them
pub record Fits (table line out : List ℕ) (s : Fed) : Type 0 where
  pub table_length_lem : length table ≡ largest
  pub table_fits : s.used ≤ largest
  pub line_length : length line ≡ enough
  pub line_fits : s.len ≤ enough
  pub out_fits : s.out ≤ length out

-- and the output has room for another reply line
abbrev pub HasRoom : List ℕ → Fed → Type 0
HasRoom out s = s.out + reply_line_size ≤ length out

-- A line is answered from s to r: the table is the one after it, and its reply line stands in the output from `s.out` on. The bytes of
-- the table's buffer behind the table are as they were (`InUse`).
pub record AnswersLine (line table out : List ℕ) (s : Fed) (table' out' : List ℕ) (r : Fed) : Type 0 where
  pub table_now : InUse table table' r.used (table_after (take s.used table) line)
  pub shown : out' ≡ over out s.out (printed (take s.used table) line)
  pub out_end : r.out ≡ s.out + reply_line_size
  pub no_line : r.len ≡ 0

-- From s to r a stretch of the piece was taken: what is in hand is what the definition has after that stretch, and what the
-- definition prints there stands in the output, from `s.out` on; the rest of the output is as it was. Every buffer keeps its length.
-- Free are the bytes of the table's buffer behind the table, where an earlier, longer table may have left its own (each line leaves them as they
-- were, but the table's length changes from line to line), and the bytes of the line's buffer behind the line. How far it goes is in the contract of
-- `feed`: to the end of the piece, or until the output has no room for another reply line.
pub record Takes (piece table line out : List ℕ) (s : Fed) (table' line' out' : List ℕ) (r : Fed) : Type 0 where
  pub forward : s.at ≤ r.at
  pub state : in_hand table' r.used line' r.len ≡ after_piece (in_hand table s.used line s.len) (stretch piece s.at r.at)
  pub shown : out' ≡ over out s.out (printed_by (in_hand table s.used line s.len) (stretch piece s.at r.at))
  pub out_end : r.out ≡ s.out + length (printed_by (in_hand table s.used line s.len) (stretch piece s.at r.at))
  pub out_kept : length out' ≡ length out
  pub fits : Fits table' line' out' r

-- The input ended: the same of what the definition has after the last line.
pub record Ends (table line out : List ℕ) (s : Fed) (table' out' : List ℕ) (r : Fed) : Type 0 where
  pub state : in_hand table' r.used line r.len ≡ after_last (in_hand table s.used line s.len)
  pub shown : out' ≡ over out s.out (printed_last (take s.used table) (take s.len line))
  pub out_end : r.out ≡ s.out + length (printed_last (take s.used table) (take s.len line))
  pub out_kept : length out' ≡ length out
  pub fits : Fits table' line out' r

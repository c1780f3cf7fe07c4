-- What the runner has in hand between two reads. No contract says which bytes the system's streams move, nor when a read or a write fails. So this fixes how
-- table and line are carried from piece to piece (`AnswersPiece`), and that from read to read they are such as the definition has (`AfterInput`), while
-- nothing fails; what the program reads and prints is tested.
-- `AfterRead` has the lengths in use of the table (`used`) and of the line so far (`len`), and how many bytes the last read gave (`read`). Where a read
-- or a write fails, `Failed` has those of table and read, and there is no line.
use Rattle.std.specs.Prelude.{◌≡◌, Option, Result, IfOk, List, ◌++◌, ℕ, ◌≤◌, ◌<◌, length, take}
use Rattle.std.specs.Io.KnownBytes.{Appends, Consumes, IsAtEnd}
use Rattle.replies.specs.ReplyLine.{reply_line_size}
use Rattle.runs.specs.Pieces.{InHand, enough, start, after_piece, printed_by}
use Rattle.layout.specs.Layout.{largest}
use Rattle.feeding.specs.Buffers.{in_hand, Fits}
use Rattle.feeding.specs.declared.Fed.{Fed}
use Rattle.reading.specs.declared.AfterRead.{AfterRead}
use Rattle.reading.specs.declared.Failed.{Failed}

-- where the feeding of a piece begins: at its first byte, with an empty output
abbrev pub begin : AfterRead → Fed
begin s = record { at = 0; len = s.len; used = s.used; out = 0 }

-- the buffers fit, and the output has room for a reply line
abbrev pub Ready : List ℕ → List ℕ → List ℕ → AfterRead → Type 0
Ready table line out s = Fits table line out (begin s) × (reply_line_size ≤ length out)

-- what is in hand after a failure: no line
abbrev pub dropped : Failed → AfterRead
dropped failed = record { used = failed.used; len = 0; read = failed.read }

-- the sizes of the buffers, which at the start hold no table and no line
abbrev pub RightSizes : List ℕ → List ℕ → List ℕ → Type 0
RightSizes table line out = (length table ≡ largest) × (length line ≡ enough) × (reply_line_size ≤ length out)

-- From s to r a piece was answered to its end, and what is in hand is what the definition has after it. (Where a read or a write failed, no line is in
-- hand: document 01 leaves free what becomes of it, and it may have been cut in the middle of a frame.)
abbrev pub AnswersPiece : List ℕ → List ℕ → List ℕ → AfterRead → List ℕ → List ℕ → AfterRead → Type 0
AnswersPiece piece table line s table' line' r = in_hand table' r.used line' r.len ≡ after_piece (in_hand table s.used line s.len) piece

-- What is in hand is what the definition has, from the start, after some bytes, those of earlier reads, and after those that the last read left in
-- the input buffer.
pub record AfterInput (input table line : List ℕ) (s : AfterRead) : Type 0 where
  pub earlier : List ℕ
  pub state : in_hand table s.used line s.len ≡ after_piece start (earlier ++ take s.read input)

-- after the last read: reached, or something failed, and no line is in hand
abbrev pub Stopped : {E : Type 0} → List ℕ → List ℕ → List ℕ → Result AfterRead E → Type 0
Stopped input table line r = IfOk r (AfterInput input table line)

-- ---- where the bytes that a reader has left are known, and those that a writer holds; of the system's streams they are not
-- One read from a to b: its n bytes in the input buffer were taken, and what the definition prints for them, from h on, went to the
-- writer, from p to q. It gave none only at the end.
pub record Moved (a b p q : Option (List ℕ)) (h : InHand) (input : List ℕ) (n : ℕ) : Type 0 where
  pub taken : Consumes a b (take n input)
  pub written : Appends p q (printed_by h (take n input))
  pub ended : n ≡ 0 → 0 < length input → IsAtEnd b

-- All reads, from the first on: what they took is what the definition has printed for and has in hand.
pub record RunSoFar (a b p q : Option (List ℕ)) (h : InHand) : Type 0 where
  pub all : List ℕ
  pub taken : Consumes a b all
  pub written : Appends p q (printed_by start all)
  pub state : h ≡ after_piece start all

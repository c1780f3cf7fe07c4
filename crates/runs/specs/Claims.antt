-- What is proved of lines, frames and sessions; the proof is in proofs/Claims.antt.
use Rattle.std.specs.Prelude.{◌≡◌, true, List, [], ◌∷◌, ◌++◌, ℕ, ◌*◌, ◌<◌, length}
use Rattle.std.proofs.Math.Option.{some}
use Rattle.basics.specs.Bytes.{AreBytes}
use Rattle.layout.specs.View.{Table}
use Rattle.rules.specs.Calls.{Call, lay}
use Rattle.rules.specs.declared.Reply.{Reply}
use Rattle.rules.specs.Passed.{Passable}
use Rattle.rules.specs.Book.{Book}
use Rattle.rules.specs.Lists.{replies}
use Rattle.rules.specs.Demand3.{OneCopy}
use Rattle.frames.specs.Hex.{all_digits, bytes_in, hex_of}
use Rattle.frames.specs.Frame.{call_byte, call_of, frame_of, Framable}
use Rattle.replies.specs.ReplyLine.{line_end, reply_line, reply_line_size, Showable, Shows}
use Rattle.runs.specs.Session.{lent, reply_to, table_after, printed}
use Rattle.runs.specs.Lines.{lines_of}
use Rattle.runs.specs.Run.{run}
use Rattle.runs.specs.Pieces.{clip, start, after_pieces, after_last, table_after_all, in_pieces, joined}
use Rattle.runs.specs.Calls.{calls_in, replies_in, calls_on, replies_on, NoLayDone}

-- no byte of a line ends it
abbrev pub NoEnd : List ℕ → Type 0
NoEnd [] = Unit {0}
NoEnd (byte ∷ rest) = (byte ≡ line_end → ⊥) × NoEnd rest

pub record Claims : Type 0 where
  -- ---- hexadecimal, both ways
  pub read_back : (bytes : List ℕ) → AreBytes bytes → bytes_in (hex_of bytes) ≡ bytes
  pub shown_again : (line : List ℕ) (n : ℕ) → length line ≡ 2 * n → all_digits line ≡ true → hex_of (bytes_in line) ≡ line
  -- ---- lines: these three determine the lines of any input
  pub no_lines : lines_of [] ≡ []
  pub ended_line : (line rest : List ℕ) → NoEnd line → lines_of (line ++ line_end ∷ rest) ≡ line ∷ lines_of rest
  pub last_line : (byte : ℕ) (line : List ℕ) → NoEnd (byte ∷ line) → lines_of (byte ∷ line) ≡ (byte ∷ line) ∷ []
  -- ---- frames
  -- the calls of frames are such as a caller can pass (Passed.antt of the rules)
  pub passable : (line : List ℕ) (c : Call) → call_of line ≡ some c → Passable c
  -- every call whose arguments fit has a frame, which stands for it; and a line that stands for a call is its frame
  pub has_frame : (c : Call) → Framable c → call_of (hex_of (frame_of c)) ≡ some c
  pub is_its_frame : (line : List ℕ) (c : Call) → call_of line ≡ some c → (line ≡ hex_of (frame_of c)) × Framable c
  -- ---- reply lines: 53 characters, by their definition two digits a byte and the line end; the call byte, the number and the figures are
  -- read back from them
  pub reply_length : (call : ℕ) (r : Reply) → length (reply_line call r) ≡ reply_line_size
  pub reply_read_back : (call : ℕ) (r : Reply) → call < 256 → Showable r → Shows (bytes_in (reply_line call r)) call r
  -- ---- every line of a session on bytes prints what `reply_to` replies, each figure whole, and leaves bytes
  pub prints_the_reply : (t : Table) (line : List ℕ) → AreBytes t → Shows (bytes_in (printed t line)) (call_byte line) (reply_to t line)
  pub stays_bytes : (t : Table) (line : List ℕ) → AreBytes t → AreBytes (table_after t line)
  -- ---- a long line can be cut: the first 87 bytes of a line tell its reply
  pub cut_line : (t : Table) (line : List ℕ) → (printed t (clip line) ≡ printed t line) × (table_after t (clip line) ≡ table_after t line)
  -- ---- no line is lost or split however the input is cut into reads
  pub in_pieces_lem : (pieces : List (List ℕ)) → in_pieces start pieces ≡ run (joined pieces)
  -- and the table in hand at the end is the one after the lines of the whole
  pub table_at_the_end : (pieces : List (List ℕ)) → (after_last (after_pieces start pieces)).table ≡ table_after_all [] (lines_of (joined pieces))
  -- ---- demand 3 of a run: every commit frame that gets 0, in any input, gets the figures of the book that is fed the calls of the frames
  -- with the numbers of their replies, whatever the book held at first. What is printed are these replies (`prints_the_reply`).
  pub shows_the_book : (input : List ℕ) (b : Book) → OneCopy b (calls_in (lines_of input)) (replies_in [] (lines_of input))
  -- a lay that replies 0 begins a stretch of the session that is a list of demand 3, and the session replies as that list does
  pub list_of_demand_3 : (t : Table) (line : List ℕ) (n m value : ℕ) (config : List ℕ) (lines : List (List ℕ))
      → call_of line ≡ some (lay n m value config) → (reply_to t line).number ≡ 0 → NoLayDone (table_after t line) lines
      → reply_to t line ∷ replies_on (table_after t line) lines
      ≡ replies (lent t (lay n m value config)) (lay n m value config ∷ calls_on lines)

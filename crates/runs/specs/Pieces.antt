-- A run by pieces of input: what a runner keeps between two reads, and what it prints at each.
use Rattle.std.specs.Prelude.{cond, List, [], ◌∷◌, ◌++◌, ℕ, ◌+◌, ◌*◌, eqb, take}
use Rattle.layout.specs.View.{Table}
use Rattle.dispatch.specs.Dispatch.{longest}
use Rattle.replies.specs.ReplyLine.{line_end}
use Rattle.runs.specs.Session.{table_after, printed}

-- The longest frame has 86 characters: of a longer line 87 bytes tell that it is none, and the rest is not kept.
abbrev pub enough : ℕ
enough = 2 * longest + 1

unfoldable pub clip : List ℕ → List ℕ
clip line = take enough line

-- what is in hand between two bytes: the table in use, and the line so far
pub record InHand : Type 0 where
  pub table : Table
  pub line : List ℕ

abbrev pub start : InHand
start = record { table = []; line = [] }

-- ---- one byte: a line end answers the line so far, any other byte joins it
abbrev pub next : InHand → ℕ → InHand
next s byte =
    record {
      table = cond (eqb byte line_end) (table_after s.table s.line) s.table;
      line = cond (eqb byte line_end) [] (clip (s.line ++ (byte ∷ [])));
    }

abbrev pub printed_at : InHand → ℕ → List ℕ
printed_at s byte = cond (eqb byte line_end) (printed s.table s.line) []

-- ---- one piece
unfoldable pub after_piece : InHand → List ℕ → InHand
after_piece s [] = s
after_piece s (byte ∷ rest) = after_piece (next s byte) rest

unfoldable pub printed_by : InHand → List ℕ → List ℕ
printed_by s [] = []
printed_by s (byte ∷ rest) = printed_at s byte ++ printed_by (next s byte) rest

-- ---- the end of input, as `lines_of` has it (`in_pieces_lem`): "A last line of one byte or more without its line end counts as a line."
abbrev pub printed_last : Table → List ℕ → List ℕ
printed_last t [] = []
printed_last t (byte ∷ rest) = printed t (byte ∷ rest)

abbrev pub table_last : Table → List ℕ → Table
table_last t [] = t
table_last t (byte ∷ rest) = table_after t (byte ∷ rest)

abbrev pub after_last : InHand → InHand
after_last s = record { table = table_last s.table s.line; line = [] }

-- the table after lines, one after the other: what `after_last` comes to over a whole input (`table_at_the_end`)
unfoldable pub table_after_all : Table → List (List ℕ) → Table
table_after_all t [] = t
table_after_all t (line ∷ lines) = table_after_all (table_after t line) lines

-- ---- pieces, one after the other
unfoldable pub in_pieces : InHand → List (List ℕ) → List ℕ
in_pieces s [] = printed_last s.table s.line
in_pieces s (piece ∷ pieces) = printed_by s piece ++ in_pieces (after_piece s piece) pieces

unfoldable pub after_pieces : InHand → List (List ℕ) → InHand
after_pieces s [] = s
after_pieces s (piece ∷ pieces) = after_pieces (after_piece s piece) pieces

unfoldable pub joined : List (List ℕ) → List ℕ
joined [] = []
joined (piece ∷ pieces) = piece ++ joined pieces

-- Lines (document 01, "Frames"): "A line ends with byte 0A, read or printed. A last line of one byte or more without its line end
-- counts as a line." Only byte 0A ends a line, any other byte is part of it; an empty line is a line; the end of input right after
-- 0A adds none, and an empty input has none.
use Rattle.std.specs.Prelude.{cond, List, [], ◌∷◌, ℕ, eqb}
use Rattle.replies.specs.ReplyLine.{line_end}

-- a byte in front of the first line
unfoldable pub in_front : ℕ → List (List ℕ) → List (List ℕ)
in_front byte [] = (byte ∷ []) ∷ []
in_front byte (line ∷ lines) = (byte ∷ line) ∷ lines

unfoldable pub lines_of : List ℕ → List (List ℕ)
lines_of [] = []
lines_of (byte ∷ rest) = cond (eqb byte line_end) ([] ∷ lines_of rest) (in_front byte (lines_of rest))

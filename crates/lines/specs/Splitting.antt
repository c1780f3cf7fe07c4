-- Where lines end in a piece of input. A reader of the claims needs `after_piece` and `printed_by`; proofs/Stretches.antt has what they
-- give for the stretch up to a line end (`ended_stretch`) and up to the end of the piece (`cut_stretch`).
use Rattle.std.specs.Prelude.{cond, List, [], ◌∷◌, ℕ, ◌+◌, ◌-◌, eqb, length, take, drop}
use Rattle.replies.specs.ReplyLine.{line_end}

-- the bytes before the first line end
unfoldable pub lead : List ℕ → List ℕ
lead [] = []
lead (byte ∷ rest) = cond (eqb byte line_end) [] (byte ∷ lead rest)

-- the place of the next line end from a place on, or the end of the piece
unfoldable pub end_from : List ℕ → ℕ → ℕ
end_from piece at = at + length (lead (drop at piece))

-- the stretch of the piece from one place to another
abbrev pub stretch : List ℕ → ℕ → ℕ → List ℕ
stretch piece from to = take (to - from) (drop from piece)

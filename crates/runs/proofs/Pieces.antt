-- Lines and pieces of input.
use mathlib.Core.Path.{◌≡◌, refl, sym, ap, ◌∙◌}
use mathlib.Core.Bool.{Bool, true, false, cond}
use mathlib.Core.List.{List, [], ◌∷◌, ◌++◌, append_assoc, append-nil}
use Prim.Native.Nat.{ℕ, zero, suc}
use lib.Dec.{eqb}
use lib.ListN.{take}
use borrow.Author.Tests.{ne_eqb}
use Rattle.basics.proofs.Tests.{by_cases}
use Rattle.replies.specs.ReplyLine.{line_end}
use Rattle.runs.specs.Session.{reply_to, table_after, printed}
use Rattle.runs.specs.Lines.{in_front, lines_of}
use Rattle.runs.specs.Run.{answers, run}
use Rattle.runs.specs.Pieces.{enough, clip, InHand, start, next, printed_at, after_piece, printed_by}
use Rattle.runs.specs.Pieces.{printed_last, table_last, after_last, table_after_all, in_pieces, after_pieces, joined}
use Rattle.runs.specs.Claims.{NoEnd}
use Rattle.runs.proofs.Clipped.{call_byte_clip, call_clip}

-- ---- the lines of an input
pub ended_line : (line rest : List ℕ) → NoEnd line → lines_of (line ++ line_end ∷ rest) ≡ line ∷ lines_of rest
unfolding lines_of in_front
ended_line [] rest h = refl
ended_line (b ∷ line) rest h = rw (ne_eqb b line_end h.0, ended_line line rest h.1)

pub last_line : (byte : ℕ) (line : List ℕ) → NoEnd (byte ∷ line) → lines_of (byte ∷ line) ≡ (byte ∷ line) ∷ []
unfolding lines_of in_front
last_line byte [] h = rw (ne_eqb byte line_end h.0)
last_line byte (b ∷ line) h = rw (ne_eqb byte line_end h.0, last_line b line h.1)

-- ---- a long line can be cut
pub reply-clip : (t line : List ℕ) → reply_to t (clip line) ≡ reply_to t line
unfolding reply_to
reply-clip t line = rw (call_clip line)

pub table-clip : (t line : List ℕ) → table_after t (clip line) ≡ table_after t line
unfolding table_after
table-clip t line = rw (call_clip line)

pub printed-clip : (t line : List ℕ) → printed t (clip line) ≡ printed t line
unfolding printed
printed-clip t line = rw (call_byte_clip line, reply-clip t line)

-- what is left out of a line so far does not matter when more is joined
pub take-join : (n : ℕ) (xs ys : List ℕ) → take n (take n xs ++ ys) ≡ take n (xs ++ ys)
take-join zero xs ys = refl
take-join (suc n) [] ys = refl
take-join (suc n) (x ∷ xs) ys = ap (λ l. x ∷ l) (take-join n xs ys)

pub clip-join : (line more : List ℕ) → clip (clip line ++ more) ≡ clip (line ++ more)
unfolding clip
clip-join line more = take-join enough line more

-- ---- the lines of an input with a line so far in front
front : List ℕ → List (List ℕ) → List (List ℕ)
front [] lines = lines
front (b ∷ line) lines = in_front b (front line lines)

front_more : (line : List ℕ) (b : ℕ) (lines : List (List ℕ)) → front (line ++ (b ∷ [])) lines ≡ front line (in_front b lines)
unfolding front
front_more [] b lines = refl
front_more (x ∷ line) b lines = ap (in_front x) (front_more line b lines)

front_line : (line : List ℕ) (lines : List (List ℕ)) → front line ([] ∷ lines) ≡ line ∷ lines
unfolding front in_front
front_line [] lines = refl
front_line (x ∷ line) lines = rw (front_line line lines)

front_none : (b : ℕ) (line : List ℕ) → front (b ∷ line) [] ≡ (b ∷ line) ∷ []
unfolding front in_front
front_none b [] = refl
front_none b (x ∷ line) = rw (front_none x line)

-- ---- all input, from a table and a line so far on
abbrev whole : InHand → List ℕ → List ℕ
whole s input = printed_by s input ++ printed_last (after_piece s input).table (after_piece s input).line

abbrev pub keeps : List ℕ → List ℕ → InHand
keeps t line = record { table = t; line = clip line }

whole_end : (t line : List ℕ) → printed_last t (clip line) ≡ answers t (front line [])
unfolding clip answers front
whole_end t [] = refl
whole_end t (b ∷ line) = rw (front_none b line) (printed-clip t (b ∷ line) ∙ sym (append-nil (printed t (b ∷ line))))

pub next_line : (t line : List ℕ) (b : ℕ) → eqb b line_end ≡ true → next (keeps t line) b ≡ keeps (table_after t line) []
unfolding clip
next_line t line b e = λ i. record { table = (tables ∙ table-clip t line) i; line = lines i }
  where
    tables : cond (eqb b line_end) (table_after t (clip line)) t ≡ table_after t (clip line)
    tables = rw e

    lines : cond (eqb b line_end) [] (clip (clip line ++ (b ∷ []))) ≡ []
    lines = rw e

pub next_more : (t line : List ℕ) (b : ℕ) → eqb b line_end ≡ false → next (keeps t line) b ≡ keeps t (line ++ (b ∷ []))
next_more t line b e = λ i. record { table = tables i; line = (lines ∙ clip-join line (b ∷ [])) i }
  where
    tables : cond (eqb b line_end) (table_after t (clip line)) t ≡ t
    tables = rw e

    lines : cond (eqb b line_end) [] (clip (clip line ++ (b ∷ []))) ≡ clip (clip line ++ (b ∷ []))
    lines = rw e

whole_step : (s : InHand) (b : ℕ) (input : List ℕ) → whole s (b ∷ input) ≡ printed_at s b ++ whole (next s b) input
unfolding printed_by after_piece
whole_step s b input = append_assoc (printed_at s b) _ _

whole_lines : (t line input : List ℕ) → whole (keeps t line) input ≡ answers t (front line (lines_of input))
unfolding lines_of answers front printed_by after_piece
whole_lines t line [] = whole_end t line
whole_lines t line (b ∷ input) =
    let ended = whole_lines (table_after t line) [] input in
    let more = whole_lines t (line ++ (b ∷ [])) input in
    whole_step (keeps t line) b input
    ∙ by_cases
    (λ (e : Bool).
    eqb b line_end ≡ e
    → cond e (printed t (clip line)) [] ++ whole (next (keeps t line) b) input
    ≡ answers t (front line (cond e ([] ∷ lines_of input) (in_front b (lines_of input))))) (eqb b line_end)
    (λ _ e. rw (next_line t line b e, front_line line (lines_of input), printed-clip t line, ended))
    (λ _ e. rw (next_more t line b e, ← front_more line b (lines_of input)) more) refl

pub run_whole : (input : List ℕ) → whole start input ≡ run input
unfolding run front clip
run_whole input = whole_lines [] [] input

-- ---- the table at the end of input
table_end : (t line : List ℕ) → table_last t (clip line) ≡ table_after_all t (front line [])
unfolding clip table_after_all front
table_end t [] = refl
table_end t (b ∷ line) = rw (front_none b line) (table-clip t (b ∷ line))

table_lines : (t line input : List ℕ) → (after_last (after_piece (keeps t line) input)).table ≡ table_after_all t (front line (lines_of input))
unfolding lines_of table_after_all front after_piece
table_lines t line [] = table_end t line
table_lines t line (b ∷ input) =
    let ended = table_lines (table_after t line) [] input in
    let more = table_lines t (line ++ (b ∷ [])) input in
    by_cases
    (λ (e : Bool).
    eqb b line_end ≡ e
    → (after_last (after_piece (next (keeps t line) b) input)).table
    ≡ table_after_all t (front line (cond e ([] ∷ lines_of input) (in_front b (lines_of input))))) (eqb b line_end)
    (λ _ e. rw (next_line t line b e, front_line line (lines_of input)) ended)
    (λ _ e. rw (next_more t line b e, ← front_more line b (lines_of input)) more) refl

table_whole : (input : List ℕ) → (after_last (after_piece start input)).table ≡ table_after_all [] (lines_of input)
unfolding front clip
table_whole input = table_lines [] [] input

-- ---- pieces
pub after-append : (s : InHand) (a b : List ℕ) → after_piece s (a ++ b) ≡ after_piece (after_piece s a) b
unfolding after_piece
after-append s [] b = refl
after-append s (x ∷ a) b = after-append (next s x) a b

pub printed-append : (s : InHand) (a b : List ℕ) → printed_by s (a ++ b) ≡ printed_by s a ++ printed_by (after_piece s a) b
unfolding printed_by after_piece
printed-append s [] b = refl
printed-append s (x ∷ a) b =
    rw (printed-append (next s x) a b) (sym (append_assoc (printed_at s x) (printed_by (next s x) a) (printed_by (after_piece (next s x) a) b)))

pieces_whole : (s : InHand) (pieces : List (List ℕ)) → in_pieces s pieces ≡ whole s (joined pieces)
unfolding in_pieces joined printed_by after_piece
pieces_whole s [] = refl
pieces_whole s (piece ∷ pieces) =
    let regrouped = sym (append_assoc (printed_by s piece) _ _) in
    rw (pieces_whole (after_piece s piece) pieces, after-append s piece (joined pieces), printed-append s piece (joined pieces)) regrouped

pub in_pieces_lem : (pieces : List (List ℕ)) → in_pieces start pieces ≡ run (joined pieces)
in_pieces_lem pieces = pieces_whole start pieces ∙ run_whole (joined pieces)

after_pieces_lem : (s : InHand) (pieces : List (List ℕ)) → after_pieces s pieces ≡ after_piece s (joined pieces)
unfolding after_pieces joined after_piece
after_pieces_lem s [] = refl
after_pieces_lem s (piece ∷ pieces) = after_pieces_lem (after_piece s piece) pieces ∙ sym (after-append s piece (joined pieces))

pub table_at_the_end : (pieces : List (List ℕ)) → (after_last (after_pieces start pieces)).table ≡ table_after_all [] (lines_of (joined pieces))
table_at_the_end pieces = rw (after_pieces_lem start pieces) (table_whole (joined pieces))

-- Feeding a piece into an empty output, over and over, goes forward, and comes to what the definition has for the piece.
use mathlib.Core.Path.{◌≡◌, refl, sym, ap, ◌∙◌}
use mathlib.Core.List.{List, [], ◌++◌}
use mathlib.Core.Logic.{◌⊎◌, inl, inr}
use Prim.Native.Nat.{ℕ, ◌+◌, ◌-◌, ◌≤◌, ◌<◌}
use native.Mathlib.Omega.{arith}
use lib.Dec.{ltb}
use lib.ListN.{length, take, drop}
use lib.Seq.{take-add, take_at}
use borrow.Author.Tests.{ltb-true, ltb-false}
use Rattle.basics.specs.Bytes.{over}
use Rattle.basics.proofs.Tests.{either}
use Rattle.replies.specs.ReplyLine.{reply_line_size}
use Rattle.runs.specs.Pieces.{InHand, start, after_piece, printed_by}
use Rattle.runs.proofs.Pieces.{after-append}
use Rattle.lines.specs.Splitting.{stretch}
use Rattle.feeding.specs.Buffers.{in_hand, Fits, Takes}
use Rattle.feeding.specs.declared.Fed.{Fed}
use Rattle.reading.specs.Between.{AnswersPiece, AfterInput}
use Rattle.reading.specs.declared.AfterRead.{AfterRead}

-- from h on the piece was answered up to a place
abbrev pub UpTo : InHand → List ℕ → List ℕ → List ℕ → Fed → Type 0
UpTo h piece table line s = in_hand table s.used line s.len ≡ after_piece h (take s.at piece)

module _ (piece table line out : List ℕ) (s : Fed) (table' line' out' : List ℕ) (r : Fed) (t : Takes piece table line out s table' line' out' r)
  where
    -- nothing taken, nothing printed
    nothing : r.at - s.at ≡ 0 → r.out ≡ s.out
    unfolding printed_by
    nothing e = let x = rw e at t.out_end in omega arith

    pub forward : s.out ≡ 0 → reply_line_size ≤ length out → s.at < length piece
        → (length piece ≤ r.at) ⊎ (length out < r.out + reply_line_size) → s.at < r.at
    forward z room more (inl e) = omega arith
    forward z room more (inr e) =
        either (ltb s.at r.at) (λ q. ltb-true _ _ q)
        (λ q. let x : r.at ≤ s.at = ltb-false _ _ q in let y = nothing (omega arith) in absurd (omega arith))

    pub up_to_more : (h : InHand) → UpTo h piece table line s → UpTo h piece table' line' r
    up_to_more h so_far =
        let n : r.at ≡ s.at + (r.at - s.at) = omega (arith, t.forward) in
        let cut : take r.at piece ≡ take s.at piece ++ stretch piece s.at r.at =
        ap (λ k. take k piece) n ∙ take-add s.at (r.at - s.at) piece
        in
        t.state ∙ rw (so_far, cut) (sym (after-append h (take s.at piece) (stretch piece s.at r.at)))

-- the buffers fit with an empty output, wherever the piece is taken up, and with no line
pub fits_at : {table line out : List ℕ} {s : Fed} (at : ℕ) → Fits table line out s
    → Fits table line out (record { at = at; len = s.len; used = s.used; out = 0 })
fits_at at f =
    record {
      table_length_lem = f.table_length_lem;
      table_fits = f.table_fits;
      line_length = f.line_length;
      line_fits = f.line_fits;
      out_fits = omega arith;
    }

pub up_to_none : (piece table line : List ℕ) (s : Fed) → s.at ≡ 0
    → UpTo (in_hand table s.used line s.len) piece table line s
unfolding after_piece
up_to_none piece table line s z = rw z

-- ---- reads, one after the other
pub reached_none : (input table line : List ℕ) (s : AfterRead) → s.used ≡ 0 → s.len ≡ 0 → s.read ≡ 0 → AfterInput input table line s
unfolding after_piece
reached_none input table line s u l r = record { earlier = []; state = rw (u, l, r) }

pub reached_more : (input table line : List ℕ) (s : AfterRead) (input' table' line' : List ℕ) (r : AfterRead) → AfterInput input table line s
    → AnswersPiece (take r.read input') table line s table' line' r → AfterInput input' table' line' r
reached_more input table line s input' table' line' r h a =
    let before = h.earlier ++ take s.read input in
    record {
      earlier = before;
      state = a ∙ rw h.state (sym (after-append start before (take r.read input')));
    }

-- ---- the last reply line, at the front of the output
pub in_front_lem : (out line : List ℕ) → take (length line) (over out 0 line) ≡ line
unfolding over
in_front_lem out line = take_at line (drop (0 + length line) out) (length line) refl

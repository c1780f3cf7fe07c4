-- Known bytes, moved one piece after the other.
use Rattle.std.proofs.Common.{◌≡◌, true, Option, Some, None, Result, Ok, Err, OnOk, is_ok, IfSome}
use Rattle.std.proofs.Common.{List, [], ◌++◌, ℕ, ◌+◌, ◌-◌, ◌≤◌, length, take, sym, ap, ◌∙◌, append-nil, arith}
use lib.Seq.{take-add}
use Rattle.std.specs.Io.KnownBytes.{Appends, IsAtEnd}
use Rattle.std.proofs.KnownBytes.{Appends-nil, Appends-trans, Consumes-nil, Consumes-trans}
use Rattle.runs.specs.Pieces.{InHand, start, after_piece, printed_by, printed_last}
use Rattle.runs.specs.Run.{run}
use Rattle.runs.proofs.Pieces.{after-append, printed-append, run_whole}
use Rattle.lines.specs.Splitting.{stretch}
use Rattle.feeding.specs.Buffers.{in_hand, Takes}
use Rattle.feeding.specs.declared.Fed.{Fed}
use Rattle.reading.specs.Between.{AnswersPiece, Moved, RunSoFar}
use Rattle.reading.specs.declared.AfterRead.{AfterRead}
use Rattle.reading.proofs.Progress.{UpTo, in_front_lem}

-- what was fed into an empty output is at its front
pub at_the_front : (piece table line out : List ℕ) (s : Fed) (table' line' out' : List ℕ) (r : Fed) → Takes piece table line out s table' line' out' r
    → s.out ≡ 0 → take r.out out' ≡ printed_by (in_hand table s.used line s.len) (stretch piece s.at r.at)
at_the_front piece table line out s table' line' out' r t z =
    let p = printed_by (in_hand table s.used line s.len) (stretch piece s.at r.at) in
    let n : r.out ≡ length p = omega (arith, t.out_end) in
    rw (n, t.shown, z) (in_front_lem out p)

stretch_of : (piece : List ℕ) (a b : ℕ) → a ≤ b → take b piece ≡ take a piece ++ stretch piece a b
stretch_of piece a b h =
    let n : b ≡ a + (b - a) = omega arith in
    ap (λ k. take k piece) n ∙ take-add a (b - a) piece

-- and so all that was printed for the piece so far
pub printed_more : (h : InHand) (piece table line out : List ℕ) (s : Fed) (table' line' out' : List ℕ) (r : Fed)
    → Takes piece table line out s table' line' out' r → s.out ≡ 0 → UpTo h piece table line s
    → printed_by h (take s.at piece) ++ take r.out out' ≡ printed_by h (take r.at piece)
printed_more h piece table line out s table' line' out' r t z so_far =
    let front = at_the_front piece table line out s table' line' out' r t z in
    rw (front, so_far, stretch_of piece s.at r.at t.forward) (sym (printed-append h (take s.at piece) (stretch piece s.at r.at)))

pub written_none : (a : Option (List ℕ)) (h : InHand) → Appends a a (printed_by h [])
unfolding printed_by
written_none a h = Appends-nil a

-- what was sent is there
pub sent : {E P : Type 0} (r : Result Unit E) → OnOk r P → is_ok r ≡ true → P
sent (Err e) h ok = cc
sent (Ok x) h ok = h

pub written_more : (a b c : Option (List ℕ)) (h : InHand) (piece table line out : List ℕ) (s : Fed) (table' line' out' : List ℕ) (r : Fed)
    → Takes piece table line out s table' line' out' r → s.out ≡ 0 → UpTo h piece table line s
    → Appends a b (printed_by h (take s.at piece)) → Appends b c (take r.out out') → Appends a c (printed_by h (take r.at piece))
written_more a b c h piece table line out s table' line' out' r t z so_far before last =
    let w = Appends-trans a b c _ _ before last in
    rw (printed_more h piece table line out s table' line' out' r t z so_far) at w

-- before the first read, and after one more
pub run_none : (a p : Option (List ℕ)) (h : InHand) → h ≡ start → RunSoFar a a p p h
unfolding after_piece printed_by
run_none a p h e = record { all = []; taken = Consumes-nil a; written = Appends-nil p; state = e }

pub run_more : (a b c p q r : Option (List ℕ)) (input table line : List ℕ) (s : AfterRead) (table' line' : List ℕ) (x : AfterRead)
    → RunSoFar a b p q (in_hand table s.used line s.len) → Moved b c q r (in_hand table s.used line s.len) input x.read
    → AnswersPiece (take x.read input) table line s table' line' x → RunSoFar a c p r (in_hand table' x.used line' x.len)
run_more a b c p q r input table line s table' line' x before moved answered =
    let last = take x.read input in
    let h = in_hand table s.used line s.len in
    let w : Appends p r (printed_by start before.all ++ printed_by h last) = Appends-trans p q r _ _ before.written moved.written in
    record {
      all = before.all ++ last;
      taken = Consumes-trans a b c _ _ before.taken moved.taken;
      written = rw (printed-append start before.all last, ← before.state) w;
      state = answered ∙ rw before.state (sym (after-append start before.all last));
    }

-- at the end of input, after its last line
pub whole_run : (a b p q r : Option (List ℕ)) (h : InHand) → RunSoFar a b p q h → IsAtEnd b → Appends q r (printed_last h.table h.line)
    → IfSome a (λ input. Appends p r (run input))
whole_run None b p q r h so_far ended last = tt
whole_run (Some xs) None p q r h so_far ended last = absurd so_far.taken
whole_run (Some xs) (Some ys) p q r h so_far ended last =
    let all : xs ≡ so_far.all = so_far.taken ∙ ap (λ l. so_far.all ++ l) ended ∙ append-nil so_far.all in
    let w : Appends p r (printed_by start so_far.all ++ printed_last h.table h.line) = Appends-trans p q r _ _ so_far.written last in
    let e : printed_by start so_far.all ++ printed_last h.table h.line ≡ run xs = rw (so_far.state, all) (run_whole so_far.all) in
    rw e at w

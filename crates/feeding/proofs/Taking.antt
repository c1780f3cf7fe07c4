-- Stretches of input taken one after the other.
use mathlib.Core.Path.{◌≡◌, refl, sym, ap, ◌∙◌}
use mathlib.Core.List.{List, [], ◌∷◌, ◌++◌}
use Prim.Native.Nat.{ℕ, ◌+◌, ◌-◌, ◌≤◌, ◌<◌}
use native.Mathlib.Omega.{arith}
use lib.ListN.{length, take, drop, length-append, length-take}
use lib.Seq.{take-add, drop-drop}
use Rattle.basics.specs.Bytes.{over}
use Rattle.basics.proofs.Parts.{over-nil, over-append}
use Rattle.runs.specs.Session.{table_after, printed}
use Rattle.replies.specs.ReplyLine.{reply_line_size}
use Rattle.runs.specs.Pieces.{enough, clip, after_piece, printed_by, printed_last, table_last}
use Rattle.lines.specs.Splitting.{end_from, stretch}
use Rattle.feeding.specs.Buffers.{in_hand, Fits, HasRoom, AnswersLine, Takes, Ends}
use Rattle.feeding.specs.declared.Fed.{Fed}
use Rattle.replies.proofs.ReplyLine.{reply_length}
use Rattle.runs.proofs.Clipped.{clip-all}
use Rattle.runs.proofs.Pieces.{keeps, after-append, printed-append, table-clip, printed-clip}
use Rattle.lines.proofs.Stretches.{end_forward, ended_stretch, cut_stretch}

pub printed-length : (t l : List ℕ) → length (printed t l) ≡ reply_line_size
unfolding printed
printed-length t l = reply_length _ _

-- ---- no stretch, and two stretches
pub takes_none : (piece table line out : List ℕ) (s : Fed) → Fits table line out s → Takes piece table line out s table line out s
unfolding after_piece printed_by
takes_none piece table line out s fits =
    let z : s.at - s.at ≡ 0 = omega arith in
    record {
      forward = omega arith;
      state = rw z;
      shown = rw z (sym (over-nil out s.out));
      out_end = rw z (omega arith);
      out_kept = refl;
      fits = fits;
    }

stretch-add : (piece : List ℕ) (a b c : ℕ) → a ≤ b → b ≤ c → stretch piece a c ≡ stretch piece a b ++ stretch piece b c
stretch-add piece a b c h k =
    let e : c - a ≡ (b - a) + (c - b) = omega arith in
    let f : a + (b - a) ≡ b = omega arith in
    rw (e, take-add (b - a) (c - b) (drop a piece), drop-drop (b - a) a piece, f)

pub takes_more : (piece table line out : List ℕ) (s : Fed) (table' line' out' : List ℕ) (r : Fed) (table'' line'' out'' : List ℕ) (q : Fed)
    → Takes piece table line out s table' line' out' r → Takes piece table' line' out' r table'' line'' out'' q
    → Takes piece table line out s table'' line'' out'' q
takes_more piece table line out s table' line' out' r table'' line'' out'' q x y =
    let s0 = in_hand table s.used line s.len in
    let one = stretch piece s.at r.at in
    let two = stretch piece r.at q.at in
    let p = printed_by s0 one in
    let p' = printed_by (in_hand table' r.used line' r.len) two in
    let cut = stretch-add piece s.at r.at q.at x.forward y.forward in
    let all : printed_by s0 (one ++ two) ≡ p ++ p' = printed-append s0 one two ∙ rw (← x.state) in
    let room : s.out + length (p ++ p') ≤ length out =
    omega (arith, length-append p p', x.out_end, y.out_end, y.fits.out_fits, x.out_kept, y.out_kept)
    in
    record {
      forward = omega (arith, x.forward, y.forward);
      state = rw (cut, after-append s0 one two, ← x.state) y.state;
      shown = rw (cut, all, over-append out s.out p p' room, ← x.out_end, ← x.shown) y.shown;
      out_end = rw (cut, all, length-append) (omega (arith, x.out_end, y.out_end));
      out_kept = y.out_kept ∙ x.out_kept;
      fits = y.fits;
    }

-- ---- the stretch to the end that the search finds
-- lines of which as much is kept have the same reply
module _ (t bytes line : List ℕ) (same : clip bytes ≡ clip line) where
  same_table : table_after t bytes ≡ table_after t line
  same_table = sym (table-clip t bytes) ∙ ap (table_after t) same ∙ table-clip t line

  same_printed : printed t bytes ≡ printed t line
  same_printed = sym (printed-clip t bytes) ∙ ap (printed t) same ∙ printed-clip t line

module _ (piece table line out : List ℕ) (s : Fed) (end : ℕ) (found : end ≡ end_from piece s.at) (fits : Fits table line out s) where
  -- the line so far, with the stretch
  abbrev so_far : List ℕ
  so_far = take s.len line ++ stretch piece s.at end

  begins : keeps (take s.used table) (take s.len line) ≡ in_hand table s.used line s.len
  begins =
      let short : length (take s.len line) ≤ enough = rw length-take (omega (arith, fits.line_fits)) in
      λ i. record { table = take s.used table; line = clip-all (take s.len line) short i }

  -- up to the end of the piece: what is kept of the line is in hand
  pub took_part : (line' : List ℕ) (len' : ℕ) → len' ≤ enough → take len' line' ≡ clip so_far → length line' ≡ length line
      → Takes piece table line out s table line' out (record { at = end; len = len'; used = s.used; out = s.out })
  took_part line' len' short now kept =
      let both = rw begins at (cut_stretch piece s.at end found (take s.used table) (take s.len line)) in
      record {
        forward = end_forward piece s.at end found;
        state = (λ i. record { table = take s.used table; line = now i }) ∙ sym both.0;
        shown = rw both.1 (sym (over-nil out s.out));
        out_end = rw both.1 (omega arith);
        out_kept = refl;
        fits =
            record {
              table_length_lem = fits.table_length_lem;
              table_fits = fits.table_fits;
              line_length = kept ∙ fits.line_length;
              line_fits = short;
              out_fits = fits.out_fits;
            };
      }

  -- past a line end: the line is answered, from bytes of which as much is kept as of the line
  pub took_line : (bytes table' line' out' : List ℕ) (r : Fed) → end < length piece → HasRoom out s → clip bytes ≡ clip so_far
      → AnswersLine bytes table out s table' out' r → r.at ≡ end + 1
      → length table' ≡ length table → length line' ≡ length line → length out' ≡ length out
      → Takes piece table line out s table' line' out' r
  unfolding clip
  took_line bytes table' line' out' r inside room same h past table_kept Line-kept out_kept =
      let t = take s.used table in
      let both = rw begins at (ended_stretch piece s.at end found t (take s.len line) inside) in
      let tables : take r.used table' ≡ table_after t so_far = h.table_now.table ∙ same_table t bytes so_far same in
      let no_line : take r.len line' ≡ [] = rw h.no_line in
      record {
        forward = omega (arith, end_forward piece s.at end found);
        state = rw past ((λ i. record { table = tables i; line = no_line i }) ∙ sym both.0);
        shown = rw (past, both.1) (h.shown ∙ ap (over out s.out) (same_printed t bytes so_far same));
        out_end = rw (past, both.1, printed-length t so_far) h.out_end;
        out_kept = out_kept;
        fits =
            record {
              table_length_lem = table_kept ∙ fits.table_length_lem;
              table_fits = h.table_now.room;
              line_length = Line-kept ∙ fits.line_length;
              line_fits = rw h.no_line (omega arith);
              out_fits = rw (h.out_end, out_kept) room;
            };
      }

-- ---- the end of input
pub ends_none : (table line out : List ℕ) (s : Fed) → Fits table line out s → s.len ≡ 0 → Ends table line out s table out s
ends_none table line out s fits none =
    record {
      state = rw none;
      shown = rw none (sym (over-nil out s.out));
      out_end = rw none (omega arith);
      out_kept = refl;
      fits = fits;
    }

printed-last : (t l : List ℕ) → 0 < length l → printed_last t l ≡ printed t l
printed-last t [] h = absurd (omega arith)
printed-last t (b ∷ l) h = refl

table-last : (t l : List ℕ) → 0 < length l → table_last t l ≡ table_after t l
table-last t [] h = absurd (omega arith)
table-last t (b ∷ l) h = refl

pub ends_line : (table line out : List ℕ) (s : Fed) (table' out' : List ℕ) (r : Fed) → Fits table line out s → HasRoom out s
    → 0 < s.len → AnswersLine (take s.len line) table out s table' out' r → length table' ≡ length table → length out' ≡ length out
    → Ends table line out s table' out' r
ends_line table line out s table' out' r fits room some h table_kept out_kept =
    let t = take s.used table in
    let l = take s.len line in
    let one : 0 < length l = rw length-take (omega (arith, fits.line_length)) in
    let tables : take r.used table' ≡ table_last t l = h.table_now.table ∙ sym (table-last t l one) in
    let no_line : take r.len line ≡ [] = rw h.no_line in
    record {
      state = λ i. record { table = tables i; line = no_line i };
      shown = h.shown ∙ rw (printed-last t l one);
      out_end = rw (printed-last t l one, printed-length t l) h.out_end;
      out_kept = out_kept;
      fits =
          record {
            table_length_lem = table_kept ∙ fits.table_length_lem;
            table_fits = h.table_now.room;
            line_length = fits.line_length;
            line_fits = rw h.no_line (omega arith);
            out_fits = rw (h.out_end, out_kept) room;
          };
    }

-- What a stretch of input up to a line end, or to the end of a piece, does to what is in hand, and what is printed there.
use mathlib.Core.Path.{◌≡◌, refl, sym, ap, ◌∙◌}
use mathlib.Core.Bool.{Bool, cond}
use mathlib.Core.List.{List, [], ◌∷◌, ◌++◌, append-nil}
use Prim.Native.Nat.{ℕ, suc, ◌+◌, ◌-◌, ◌≤◌, ◌<◌}
use native.Mathlib.Omega.{arith}
use lib.Dec.{eqb}
use Rattle.std.specs.Prelude.{Some, None, ◌==◌, nat_lt, position}
use Rattle.std.specs.List.{position_or_len}
use Rattle.std.proofs.lemmas.List.Recursion.{is_position_or_len}
use lib.ListN.{length, take, drop, length-drop}
use lib.Seq.{append_snoc, take_all}
use borrow.Author.Tests.{eqb-true, eqb-false, ne_eqb, ltb-true, ltb-false}
use Rattle.basics.proofs.Tests.{by_cases}
use Rattle.replies.specs.ReplyLine.{line_end}
use Rattle.runs.specs.Session.{table_after, printed}
use Rattle.runs.specs.Pieces.{clip, after_piece, printed_by}
use Rattle.runs.specs.Claims.{NoEnd}
use Rattle.runs.proofs.Pieces.{keeps, next_more, next_line, after-append, printed-append, printed-clip, clip-join}
use Rattle.lines.specs.Splitting.{lead, end_from, stretch}

-- ---- bytes that end no line
plain_state : (t line l : List ℕ) → NoEnd l → after_piece (keeps t line) l ≡ keeps t (line ++ l)
unfolding after_piece
plain_state t line [] h = ap (keeps t) (sym (append-nil line))
plain_state t line (b ∷ l) h =
    rw (next_more t line b (ne_eqb b line_end h.0)) (plain_state t (line ++ (b ∷ [])) l h.1 ∙ ap (keeps t) (append_snoc line b l))

plain_printed : (t line l : List ℕ) → NoEnd l → printed_by (keeps t line) l ≡ []
unfolding printed_by
plain_printed t line [] h = refl
plain_printed t line (b ∷ l) h =
    rw (ne_eqb b line_end h.0, clip-join line (b ∷ [])) (plain_printed t (line ++ (b ∷ [])) l h.1)

-- ---- a line end behind them
ended_state : (t line l : List ℕ) → NoEnd l → after_piece (keeps t line) (l ++ (line_end ∷ [])) ≡ keeps (table_after t (line ++ l)) []
unfolding after_piece
ended_state t line l h =
    after-append (keeps t line) l (line_end ∷ []) ∙ rw (plain_state t line l h) (next_line t (line ++ l) line_end refl)

ended_printed : (t line l : List ℕ) → NoEnd l → printed_by (keeps t line) (l ++ (line_end ∷ [])) ≡ printed t (line ++ l)
unfolding printed_by
ended_printed t line l h =
    printed-append (keeps t line) l (line_end ∷ [])
    ∙ rw (plain_printed t line l h, plain_state t line l h) (append-nil (printed t (clip (line ++ l))) ∙ printed-clip t (line ++ l))

-- ---- the bytes before a line end
lead_plain : (xs : List ℕ) → NoEnd (lead xs)
unfolding lead
lead_plain [] = tt
lead_plain (b ∷ xs) =
    let r = lead_plain xs in
    by_cases (λ (e : Bool). eqb b line_end ≡ e → NoEnd (cond e [] (b ∷ lead xs))) (eqb b line_end) (λ _ e. tt) (λ _ e. (eqb-false b line_end e, r)) refl

pub lead-length : (xs : List ℕ) → length (lead xs) ≤ length xs
unfolding lead
lead-length [] = omega arith
lead-length (b ∷ xs) =
    by_cases (λ (e : Bool). length (cond e [] (b ∷ lead xs)) ≤ suc (length xs)) (eqb b line_end) (λ _. omega arith)
    (λ _. omega (arith, lead-length xs))

lead_front : (xs : List ℕ) → take (length (lead xs)) xs ≡ lead xs
unfolding lead
lead_front [] = refl
lead_front (b ∷ xs) =
    by_cases (λ (e : Bool). take (length (cond e [] (b ∷ lead xs))) (b ∷ xs) ≡ cond e [] (b ∷ lead xs)) (eqb b line_end) (λ _. refl)
    (λ _. ap (λ l. b ∷ l) (lead_front xs))

lead_end : (xs : List ℕ) → length (lead xs) < length xs → take (length (lead xs) + 1) xs ≡ lead xs ++ (line_end ∷ [])
unfolding lead
lead_end [] h = absurd (omega arith)
lead_end (b ∷ xs) h =
    let n : suc (length (lead xs)) + 1 ≡ suc (length (lead xs) + 1) = omega arith in
    by_cases
    (λ (e : Bool).
    eqb b line_end ≡ e → length (cond e [] (b ∷ lead xs)) < suc (length xs)
    → take (length (cond e [] (b ∷ lead xs)) + 1) (b ∷ xs) ≡ cond e [] (b ∷ lead xs) ++ (line_end ∷ [])) (eqb b line_end)
    (λ _ e q. ap (λ x. x ∷ []) (eqb-true b line_end e)) (λ _ e q. rw n (ap (λ l. b ∷ l) (lead_end xs (omega arith)))) refl h

-- ---- the place of the first line end, if there is one
lead_is : (xs : List ℕ) → length (lead xs) ≡ position_or_len (λ b. b == line_end) xs
unfolding lead
lead_is xs =
    is_position_or_len (λ l. length (lead l)) (λ b. b == line_end) refl
    (λ x l.
    by_cases (λ (e : Bool). length (cond e [] (x ∷ lead l)) ≡ cond e 0 (1 + length (lead l))) (eqb x line_end) (λ _. refl) (λ _. omega arith)) xs

module _ (piece : List ℕ) (at : ℕ) (within : at ≤ length piece) where
  -- the rest of the piece, lent as a part
  pub rest_is : take (length piece - at) (drop at piece) ≡ drop at piece
  rest_is = take_all (length piece - at) (drop at piece) (simp length-drop (omega arith))

  pub end_at : {n : ℕ} → Some n ≡ position (λ b. b == line_end) (drop at piece) → (at + n ≡ end_from piece at) × (at + n < length piece)
  unfolding end_from
  end_at {n} e =
      let rest = drop at piece in
      let p = position_or_len (λ b. b == line_end) rest in
      by_cases
      (λ (b : Bool). nat_lt p (length rest) ≡ b → Some n ≡ cond b (Some p) None → (at + n ≡ at + length (lead rest)) × (at + n < length piece))
      (nat_lt p (length rest))
      (λ _ d q.
      let same : n ≡ p = cc in
      let less : p < length rest = ltb-true _ _ d in
      (rw (lead_is rest, same), omega (arith, length-drop at piece)))
      (λ _ d q. let no : ⊥ = cc in absurd no) refl e

  pub no_end : None ≡ position (λ b. b == line_end) (drop at piece) → length piece ≡ end_from piece at
  unfolding end_from
  no_end e =
      let rest = drop at piece in
      let p = position_or_len (λ b. b == line_end) rest in
      by_cases (λ (b : Bool). nat_lt p (length rest) ≡ b → None ≡ cond b (Some p) None → length piece ≡ at + length (lead rest)) (nat_lt p (length rest))
      (λ _ d q. let no : ⊥ = cc in absurd no)
      (λ _ d q.
      let most : length rest ≤ p = ltb-false _ _ d in
      omega (arith, lead_is rest, lead-length rest, length-drop at piece)) refl e

-- ---- the stretch from a place of a piece to the end that the search finds; the line so far is one that a runner keeps
module _ (piece : List ℕ) (at end : ℕ) (found : end ≡ end_from piece at) where
  to_end : stretch piece at end ≡ lead (drop at piece)
  unfolding end_from
  to_end =
      let n : end - at ≡ length (lead (drop at piece)) = omega (arith, found) in
      rw n (lead_front (drop at piece))

  past_end : end < length piece → stretch piece at (end + 1) ≡ lead (drop at piece) ++ (line_end ∷ [])
  unfolding end_from
  past_end h =
      let n : end + 1 - at ≡ length (lead (drop at piece)) + 1 = omega (arith, found) in
      let l : length (lead (drop at piece)) < length (drop at piece) = rw length-drop (omega (arith, found)) in
      rw n (lead_end (drop at piece) l)

  pub end_forward : at ≤ end
  unfolding end_from
  end_forward = omega (arith, found)

  module _ (t line : List ℕ) where
    -- up to a line end, which answers the line
    pub ended_stretch : end < length piece
        → (after_piece (keeps t line) (stretch piece at (end + 1)) ≡ keeps (table_after t (line ++ stretch piece at end)) [])
        × (printed_by (keeps t line) (stretch piece at (end + 1)) ≡ printed t (line ++ stretch piece at end))
    ended_stretch h =
        let l = lead (drop at piece) in
        rw (past_end h, to_end) (ended_state t line l (lead_plain (drop at piece)), ended_printed t line l (lead_plain (drop at piece)))

    -- up to the end of the piece, which cuts the line
    pub cut_stretch : (after_piece (keeps t line) (stretch piece at end) ≡ keeps t (line ++ stretch piece at end))
        × (printed_by (keeps t line) (stretch piece at end) ≡ [])
    cut_stretch =
        let l = lead (drop at piece) in
        rw to_end (plain_state t line l (lead_plain (drop at piece)), plain_printed t line l (lead_plain (drop at piece)))

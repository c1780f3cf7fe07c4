-- Reading a frame two characters at a time.
use mathlib.Core.Path.{◌≡◌, refl, sym, ap, ◌∙◌}
use mathlib.Core.Bool.{Bool, true, false, cond, ◌&&◌, and-true}
use mathlib.Core.List.{List, [], ◌∷◌, ◌++◌}
use mathlib.Core.Option.{none}
use Prim.Native.Nat.{ℕ, zero, suc, ◌+◌, ◌-◌, ◌*◌, ◌≤◌, ◌<◌}
use native.Mathlib.Omega.{arith}
use native.Mathlib.Numerals.{add-one}
use lib.ListN.{length, get_or, take, drop, set, length-drop, take-append-drop}
use lib.Seq.{take_all, take-suc-set, drop-cons}
use Rattle.std.specs.Prelude.{Option, Some, None}
use Rattle.std.specs.Simd.{first_chunks}
use Rattle.basics.proofs.Tests.{by_cases, clash, and_left, and_right}
use Rattle.dispatch.specs.Dispatch.{lengths, frame_length, call_at}
use Rattle.dispatch.proofs.Codes.{no_code, unread}
use Rattle.frames.specs.Hex.{is_digit, all_digits, value_of, byte_of, bytes_in}
use Rattle.frames.specs.Frame.{call_byte, arguments_in, is_frame, call_of}
use Rattle.frames.specs.Reading.{byte_in, code_in, Leads}
use Rattle.frames.proofs.Digits.{byte_given, byte_none}
use Rattle.frames.proofs.FrameLines.{Framed, framed, is_frame_lem, not_frame}

-- places two apart
abbrev dbl : ℕ → ℕ
dbl zero = 0
dbl (suc k) = suc (suc (dbl k))

dbl_twice : (k : ℕ) → dbl k ≡ 2 * k
dbl_twice zero = refl
dbl_twice (suc k) = let e = dbl_twice k in omega arith

-- two characters more: the digits, and the byte
and_turn : (a b x y z : Bool) → (a && (b && (x && y && z))) ≡ (a && (b && x) && y && z)
and_turn true true x y z = refl
and_turn true false x y z = refl
and_turn false b x y z = refl

digits_dbl : (k : ℕ) (text : List ℕ) → suc (dbl k) < length text
    → all_digits (take (dbl (suc k)) text)
    ≡ (all_digits (take (dbl k) text) && is_digit (get_or text (dbl k) 0) && is_digit (get_or text (suc (dbl k)) 0))
unfolding all_digits
digits_dbl k [] h = absurd (omega arith)
digits_dbl k (a ∷ []) h = absurd (omega arith)
digits_dbl zero (a ∷ b ∷ rest) h = ap (λ x. is_digit a && x) (and-true (is_digit b))
digits_dbl (suc k) (a ∷ b ∷ rest) h =
    rw (digits_dbl k rest (omega arith)) (and_turn (is_digit a) (is_digit b) (all_digits (take (dbl k) rest)) _ _)

bytes_dbl : (k : ℕ) (text : List ℕ) → suc (dbl k) < length text
    → bytes_in (take (dbl (suc k)) text) ≡ bytes_in (take (dbl k) text) ++ (byte_of (get_or text (dbl k) 0) (get_or text (suc (dbl k)) 0) ∷ [])
unfolding bytes_in
bytes_dbl k [] h = absurd (omega arith)
bytes_dbl k (a ∷ []) h = absurd (omega arith)
bytes_dbl zero (a ∷ b ∷ rest) h = refl
bytes_dbl (suc k) (a ∷ b ∷ rest) h = ap (λ l. byte_of a b ∷ l) (bytes_dbl k rest (omega arith))

length_dbl : (k : ℕ) (text : List ℕ) → length text ≡ dbl k → length (bytes_in text) ≡ k
unfolding bytes_in
length_dbl zero [] h = refl
length_dbl zero (a ∷ rest) h = absurd (omega arith)
length_dbl (suc k) [] h = absurd (omega arith)
length_dbl (suc k) (a ∷ []) h = absurd (omega arith)
length_dbl (suc k) (a ∷ b ∷ rest) h = ap suc (length_dbl k rest (omega arith))

pub bytes_in_length : (text : List ℕ) (n : ℕ) → length text ≡ 2 * n → length (bytes_in text) ≡ n
bytes_in_length text n e = length_dbl n text (e ∙ sym (dbl_twice n))

-- the characters of a text, two by two
pairs : (text : List ℕ) (n k : ℕ) (d : List ℕ) → k < n → 2 * n ≤ length text
    → (get_or (get_or (first_chunks 2 n text) k d) 0 0 ≡ get_or text (dbl k) 0)
    × (get_or (get_or (first_chunks 2 n text) k d) 1 0 ≡ get_or text (suc (dbl k)) 0)
pairs text zero k d h l = absurd (omega arith)
pairs [] (suc n) k d h l = absurd (omega arith)
pairs (a ∷ []) (suc n) k d h l = absurd (omega arith)
pairs (a ∷ b ∷ rest) (suc n) zero d h l = (refl, refl)
pairs (a ∷ b ∷ rest) (suc n) (suc k) d h l = pairs rest n k d (omega arith) (omega arith)

pub byte_at : (text : List ℕ) {chunks : List (List ℕ)} (n k : ℕ) (d : List ℕ) {o : Option ℕ} → chunks ≡ first_chunks 2 n text → k < n → 2 * n ≤ length text
    → o ≡ byte_in (get_or (get_or chunks k d) 0 0) (get_or (get_or chunks k d) 1 0) → o ≡ byte_in (get_or text (2 * k) 0) (get_or text (2 * k + 1) 0)
byte_at text n k d cut h l is =
    let e = dbl_twice k in
    let f : suc (dbl k) ≡ 2 * k + 1 = omega arith in
    let p = pairs text n k d h l in
    is ∙ rw (cut, p.0, p.1, f, e)

-- ---- k bytes of a text are read: all were digits, and the bytes lead the buffer
abbrev pub SoFar : List ℕ → ℕ → List ℕ → Type 0
SoFar text k bytes = (all_digits (take (2 * k) text) ≡ true) × (take k bytes ≡ bytes_in (take (2 * k) text))

pub read_start : (text bytes : List ℕ) → SoFar text 0 bytes
unfolding all_digits bytes_in
read_start text bytes = (refl, refl)

-- each character of digits is one
digits_at : (text : List ℕ) (i : ℕ) → i < length text → all_digits text ≡ true → is_digit (get_or text i 0) ≡ true
unfolding all_digits
digits_at [] i h d = absurd (omega arith)
digits_at (c ∷ rest) zero h d = and_left (is_digit c) (all_digits rest) d
digits_at (c ∷ rest) (suc i) h d = digits_at rest i (omega arith) (and_right (is_digit c) (all_digits rest) d)

module _ (text : List ℕ) (k : ℕ) (h : 2 * k + 1 < length text) where
  places : (dbl k ≡ 2 * k) × (suc (dbl k) ≡ 2 * k + 1) × (dbl (suc k) ≡ 2 * (k + 1))
  places = let e = dbl_twice k in omega arith

  digits_more : all_digits (take (2 * (k + 1)) text)
      ≡ (all_digits (take (2 * k) text) && is_digit (get_or text (2 * k) 0) && is_digit (get_or text (2 * k + 1) 0))
  digits_more = rw (← places.2, ← places.1, ← places.0) (digits_dbl k text (omega (arith, places.1)))

  bytes_more : bytes_in (take (2 * (k + 1)) text)
      ≡ bytes_in (take (2 * k) text) ++ (byte_of (get_or text (2 * k) 0) (get_or text (2 * k + 1) 0) ∷ [])
  bytes_more = rw (← places.2, ← places.1, ← places.0) (bytes_dbl k text (omega (arith, places.1)))

  pub read_turn : (bytes : List ℕ) {b : ℕ} → k < length bytes → SoFar text k bytes → Some b ≡ byte_in (get_or text (2 * k) 0) (get_or text (2 * k + 1) 0)
      → SoFar text (k + 1) (set bytes k b)
  read_turn bytes l s e =
      let given = byte_given _ _ e in (
        rw (digits_more, s.0, given.0, given.1),
        rw (given.2, bytes_more, ← s.1, add-one k) (take-suc-set bytes k _ l),
      )

  pub read_stop : None ≡ byte_in (get_or text (2 * k) 0) (get_or text (2 * k + 1) 0) → false ≡ all_digits text
  read_stop e =
      by_cases (λ (b : Bool). all_digits text ≡ b → false ≡ b) (all_digits text)
      (λ _ d.
      let two : (is_digit (get_or text (2 * k) 0) && is_digit (get_or text (2 * k + 1) 0)) ≡ true =
      rw (digits_at text (2 * k) (omega arith) d, digits_at text (2 * k + 1) (omega arith) d)
      in
      clash two (byte_none _ _ e))
      (λ _ d. refl) refl

pub read_end : (text : List ℕ) (n k : ℕ) (bytes : List ℕ) → length text ≡ 2 * n → k ≤ n → n ≤ k → SoFar text k bytes
    → (true ≡ all_digits text) × Leads (bytes_in text) bytes
read_end text n k bytes e a b s =
    let t : take (2 * k) text ≡ text = take_all (2 * k) text (omega arith) in
    let l : length (bytes_in text) ≡ k = bytes_in_length text k (omega arith) in
    (sym (rw t at s.0), rw l (rw t at s.1))

-- ---- the frame in a line: two digits lead it, and the arguments stand behind them
-- a line with a call byte that has frames is led by two digits
led : (a b : ℕ) (rest : List ℕ) → 0 < frame_length (call_byte (a ∷ b ∷ rest)) → (is_digit a && is_digit b) ≡ true
unfolding call_byte bytes_in byte_of frame_length
led a b rest h =
    by_cases
    (λ (d : Bool). (is_digit a && is_digit b) ≡ d → 0 < get_or lengths (cond d (16 * value_of a + value_of b) 0) 0 → d ≡ true) (is_digit a && is_digit b)
    (λ _ e q. refl) (λ _ e q. absurd (omega arith)) refl h

pub digits_behind : (line : List ℕ) → 0 < frame_length (call_byte line) → 2 ≤ length line → all_digits line ≡ all_digits (drop 2 line)
unfolding all_digits
digits_behind [] h l = absurd (omega arith)
digits_behind (a ∷ []) h l = absurd (omega arith)
digits_behind (a ∷ b ∷ rest) h l =
    let d = led a b rest h in
    rw (and_left (is_digit a) (is_digit b) d, and_right (is_digit a) (is_digit b) d)

pub arguments_behind : (line : List ℕ) → 2 ≤ length line → arguments_in line ≡ bytes_in (drop 2 line)
unfolding bytes_in
arguments_behind [] l = absurd (omega arith)
arguments_behind (a ∷ []) l = absurd (omega arith)
arguments_behind (a ∷ b ∷ rest) l = refl

-- what the reader hands over for a line, as its contract names the two
abbrev pub Read : List ℕ → ℕ → List ℕ → Type 0
Read line code buffer = record { value : code ≡ code_in line; leads : is_frame line ≡ true → Leads (arguments_in line) buffer }

pub no_frame_read : (line buffer : List ℕ) → (Framed line → ⊥) → Read line 0 buffer
unfolding code_in
no_frame_read line buffer f = record { value = rw (not_frame line f); leads = λ e. absurd (f (framed line e)) }

module _ (line : List ℕ) (n : ℕ) (has : 0 < n) (is : n ≡ frame_length (call_byte line)) (long : length line ≡ 2 * n) where
  -- the characters behind the first two, lent as a part
  pub behind : take (length line - 2) (drop 2 line) ≡ drop 2 line
  behind = take_all (length line - 2) (drop 2 line) (simp length-drop (omega arith))

  pub frame_read : (buffer : List ℕ) → all_digits (drop 2 line) ≡ true → Leads (bytes_in (drop 2 line)) buffer → Read line (call_byte line) buffer
  unfolding code_in
  frame_read buffer d leads =
      let digits = digits_behind line (rw is at has) (omega arith) ∙ d in
      let f = is_frame_lem line (record { has_call = rw is at has; its_length = long ∙ ap (λ n. 2 * n) is; digits = digits }) in
      record { value = rw f; leads = λ _. rw (arguments_behind line (omega arith)) leads }

  pub false_digit_read : (buffer : List ℕ) → all_digits (drop 2 line) ≡ false → Read line 0 buffer
  false_digit_read buffer d =
      no_frame_read line buffer (λ f. clash (sym (digits_behind line f.has_call (omega arith)) ∙ f.digits) d)

-- ---- the code and the arguments at the front of a buffer stand for the line's call
pub arguments_length : (line : List ℕ) → Framed line → length (arguments_in line) + 1 ≡ frame_length (call_byte line)
arguments_length line f =
    let l = bytes_in_length line (frame_length (call_byte line)) f.its_length in
    let h = f.has_call in
    simp length-drop (omega arith)

pub first_of : (line : List ℕ) → Framed line → bytes_in line ≡ call_byte line ∷ arguments_in line
unfolding call_byte
first_of line f =
    let l = bytes_in_length line (frame_length (call_byte line)) f.its_length in
    let h = f.has_call in
    drop-cons (bytes_in line) 0 0 (omega arith)

pub frame_call : (line buffer : List ℕ) → (is_frame line ≡ true → Leads (arguments_in line) buffer) → call_at (code_in line) buffer ≡ call_of line
unfolding code_in call_of
frame_call line buffer leads =
    by_cases
    (λ (f : Bool). is_frame line ≡ f → call_at (cond f (call_byte line) 0) buffer ≡ cond f (call_at (call_byte line) (arguments_in line)) none)
    (is_frame line)
    (λ _ e.
    let n = length (arguments_in line) in
    let l = arguments_length line (framed line e) in
    let split : arguments_in line ++ drop n buffer ≡ buffer = ap (λ x. x ++ drop n buffer) (sym (leads e)) ∙ take-append-drop n buffer in
    ap (call_at (call_byte line)) (sym split) ∙ unread (arguments_in line) (drop n buffer) (call_byte line) (omega arith))
    (λ _ e. no_code buffer) refl

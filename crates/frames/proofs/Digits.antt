-- Hexadecimal digits and bytes: what is known of a digit, and both ways back.
use mathlib.Core.Path.{◌≡◌, refl, ◌∙◌}
use mathlib.Core.Bool.{Bool, true, false, cond, ◌&&◌, and-false}
use mathlib.Core.List.{List, [], ◌∷◌}
use Prim.Native.Nat.{ℕ, ◌+◌, ◌-◌, ◌*◌, ◌/◌, ◌%◌, ◌≤◌, ◌<◌}
use native.Mathlib.Omega.{arith}
use lib.Dec.{ltb, leb}
use lib.ListN.{length}
use borrow.Author.Tests.{le-leb, lt-leb, lt-ltb, le-ltb, leb-true, ltb-true, ltb-false}
use Rattle.std.specs.Prelude.{Some, None, unwrap_or}
use Rattle.basics.specs.Bytes.{AreBytes}
use Rattle.basics.proofs.Tests.{by_cases, and_left, and_right, or_cases, or_right, either}
use Rattle.frames.specs.Hex.{is_digit, all_digits, value_of, byte_of, bytes_in, digit_of, hex_of}
use Rattle.frames.specs.Reading.{value_in, byte_in}

-- ---- one digit: a number or a letter
pub digit_cases : {A : Type 0} (c : ℕ) → is_digit c ≡ true → (48 ≤ c → c ≤ 57 → A) → (65 ≤ c → c ≤ 70 → A) → A
unfolding is_digit
digit_cases c e f g =
    or_cases (leb 48 c && leb c 57) (leb 65 c && leb c 70) e
    (λ h. f (leb-true 48 c (and_left (leb 48 c) (leb c 57) h)) (leb-true c 57 (and_right (leb 48 c) (leb c 57) h)))
    (λ h. g (leb-true 65 c (and_left (leb 65 c) (leb c 70) h)) (leb-true c 70 (and_right (leb 65 c) (leb c 70) h)))

pub number_is_digit : (c : ℕ) → 48 ≤ c → c ≤ 57 → is_digit c ≡ true
unfolding is_digit
number_is_digit c a b = rw (le-leb 48 c a, le-leb c 57 b)

pub letter_is_digit : (c : ℕ) → 65 ≤ c → c ≤ 70 → is_digit c ≡ true
unfolding is_digit
letter_is_digit c a b = or_right (leb 48 c && leb c 57) (leb 65 c && leb c 70) (rw (le-leb 65 c a, le-leb c 70 b))

pub value_number : (c : ℕ) → c ≤ 57 → value_of c ≡ c - 48
unfolding value_of
value_number c h = rw (le-leb c 57 h)

pub value_letter : (c : ℕ) → 57 < c → value_of c ≡ c - 55
unfolding value_of
value_letter c h = rw (lt-leb c 57 h)

pub value_lt : (c : ℕ) → is_digit c ≡ true → value_of c < 16
value_lt c e =
    digit_cases c e (λ a b. rw (value_number c b) (omega arith))
    (λ a b. let l : 57 < c = omega arith in rw (value_letter c l) (omega arith))

pub digit_number : (v : ℕ) → v < 10 → digit_of v ≡ 48 + v
unfolding digit_of
digit_number v h = rw (lt-ltb v 10 h)

pub digit_letter : (v : ℕ) → 10 ≤ v → digit_of v ≡ 55 + v
unfolding digit_of
digit_letter v h = rw (le-ltb v 10 h)

-- a value below 16, as a number or a letter
value_cases : {A : Type 0} (v : ℕ) → (v < 10 → A) → (10 ≤ v → A) → A
value_cases {A} v f g =
    either (ltb v 10) (λ e. f (ltb-true v 10 e)) (λ e. g (ltb-false v 10 e))

pub digit_is_digit : (v : ℕ) → v < 16 → is_digit (digit_of v) ≡ true
digit_is_digit v h =
    value_cases v (λ l. rw (digit_number v l) (number_is_digit (48 + v) (omega arith) (omega arith)))
    (λ l. rw (digit_letter v l) (letter_is_digit (55 + v) (omega arith) (omega arith)))

value_of_digit : (v : ℕ) → v < 16 → value_of (digit_of v) ≡ v
value_of_digit v h =
    value_cases v (λ l. rw (digit_number v l, value_number (48 + v) (omega arith)) (omega arith))
    (λ l. rw (digit_letter v l, value_letter (55 + v) (omega arith)) (omega arith))

digit_of_value : (c : ℕ) → is_digit c ≡ true → digit_of (value_of c) ≡ c
digit_of_value c e =
    digit_cases c e (λ a b. rw (value_number c b, digit_number (c - 48) (omega arith)) (omega arith))
    (λ a b. let l : 57 < c = omega arith in rw (value_letter c l, digit_letter (c - 55) (omega arith)) (omega arith))

-- ---- bytes
pub byte_digits : (high low : ℕ) → is_digit high ≡ true → is_digit low ≡ true → byte_of high low ≡ 16 * value_of high + value_of low
unfolding byte_of
byte_digits high low p q = rw (p, q)

pub byte_lt : (high low : ℕ) → byte_of high low < 256
unfolding byte_of
byte_lt high low =
    by_cases (λ (b : Bool). (is_digit high && is_digit low) ≡ b → cond b (16 * value_of high + value_of low) 0 < 256) (is_digit high && is_digit low)
    (λ _ e. omega (arith, value_lt high (and_left (is_digit high) (is_digit low) e), value_lt low (and_right (is_digit high) (is_digit low) e)))
    (λ _ e. omega arith) refl

pub byte_halves : (b : ℕ) → b < 256 → byte_of (digit_of (b / 16)) (digit_of (b % 16)) ≡ b
byte_halves b h =
    let high = digit_is_digit (b / 16) (omega arith) in
    let low = digit_is_digit (b % 16) (omega arith) in
    byte_digits (digit_of (b / 16)) (digit_of (b % 16)) high low
    ∙ rw (value_of_digit (b / 16) (omega arith), value_of_digit (b % 16) (omega arith)) (omega arith)

pub bytes_in_lem : (line : List ℕ) → AreBytes (bytes_in line)
unfolding bytes_in
bytes_in_lem [] = tt
bytes_in_lem (c ∷ []) = tt
bytes_in_lem (a ∷ b ∷ rest) = (byte_lt a b, bytes_in_lem rest)

pub hex_length : (bytes : List ℕ) → length (hex_of bytes) ≡ 2 * length bytes
unfolding hex_of
hex_length [] = refl
hex_length (b ∷ rest) = let e = hex_length rest in omega arith

pub read_back : (bytes : List ℕ) → AreBytes bytes → bytes_in (hex_of bytes) ≡ bytes
unfolding hex_of bytes_in
read_back [] h = refl
read_back (b ∷ rest) h = rw (byte_halves b h.0, read_back rest h.1)

pub shown_again : (line : List ℕ) (n : ℕ) → length line ≡ 2 * n → all_digits line ≡ true → hex_of (bytes_in line) ≡ line
unfolding hex_of bytes_in all_digits
shown_again [] n e d = refl
shown_again (c ∷ []) n e d = absurd (omega arith)
shown_again (a ∷ b ∷ rest) n e d =
    let p = and_left (is_digit a) (is_digit b && all_digits rest) d in
    let q = and_right (is_digit a) (is_digit b && all_digits rest) d in
    let r = and_left (is_digit b) (all_digits rest) q in
    let u : (16 * value_of a + value_of b) / 16 ≡ value_of a = omega (arith, value_lt b r) in
    let v : (16 * value_of a + value_of b) % 16 ≡ value_of b = omega (arith, value_lt b r) in
    rw (byte_digits a b p r, u, v, digit_of_value a p, digit_of_value b r, shown_again rest (n - 1) (omega arith) (and_right (is_digit b) (all_digits rest) q))

-- ---- a character that is a digit or none
module _ (c : ℕ) where
  pub value_given : {v : ℕ} → Some v ≡ value_in c → (is_digit c ≡ true) × (v ≡ value_of c)
  unfolding value_in
  value_given {v} e =
      by_cases (λ (b : Bool). is_digit c ≡ b → Some v ≡ cond b (Some (value_of c)) None → (is_digit c ≡ true) × (v ≡ value_of c)) (is_digit c)
      (λ _ d q. (d, cc)) (λ _ d q. (cc, cc)) refl e

  pub value_none : None ≡ value_in c → is_digit c ≡ false
  unfolding value_in
  value_none e =
      by_cases (λ (b : Bool). is_digit c ≡ b → None ≡ cond b (Some (value_of c)) None → is_digit c ≡ false) (is_digit c)
      (λ _ d q. cc) (λ _ d q. d) refl e

-- ---- two characters: a byte, or none
module _ (high low : ℕ) where
  pub byte_given : {b : ℕ} → Some b ≡ byte_in high low → (is_digit high ≡ true) × (is_digit low ≡ true) × (b ≡ byte_of high low)
  unfolding byte_in
  byte_given {b} e =
      by_cases
      (λ (d : Bool).
      (is_digit high && is_digit low) ≡ d → Some b ≡ cond d (Some (byte_of high low)) None
      → (is_digit high ≡ true) × (is_digit low ≡ true) × (b ≡ byte_of high low)) (is_digit high && is_digit low)
      (λ _ d q. (and_left (is_digit high) (is_digit low) d, and_right (is_digit high) (is_digit low) d, cc)) (λ _ d q. (cc, cc, cc)) refl e

  pub byte_none : None ≡ byte_in high low → (is_digit high && is_digit low) ≡ false
  unfolding byte_in
  byte_none e =
      by_cases
      (λ (d : Bool). (is_digit high && is_digit low) ≡ d → None ≡ cond d (Some (byte_of high low)) None → (is_digit high && is_digit low) ≡ false)
      (is_digit high && is_digit low) (λ _ d q. cc) (λ _ d q. d) refl e

  pub of_values : {h l : ℕ} → Some h ≡ value_in high → Some l ≡ value_in low → Some (16 * h + l) ≡ byte_in high low
  unfolding byte_in
  of_values p q =
      let x = value_given high p in
      let y = value_given low q in
      rw (x.0, y.0, byte_digits high low x.0 y.0, x.1, y.1)

  pub no_high : None ≡ value_in high → None ≡ byte_in high low
  unfolding byte_in
  no_high e = rw (value_none high e)

  pub no_low : None ≡ value_in low → None ≡ byte_in high low
  unfolding byte_in
  no_low e = rw (value_none low e, and-false (is_digit high))

pub byte_or_zero : (high low : ℕ) → unwrap_or (byte_in high low) 0 ≡ byte_of high low
unfolding byte_in byte_of
byte_or_zero high low =
    by_cases
    (λ (d : Bool). unwrap_or (cond d (Some (cond d (16 * value_of high + value_of low) 0)) None) 0 ≡ cond d (16 * value_of high + value_of low) 0)
    (is_digit high && is_digit low) (λ _. refl) (λ _. refl)

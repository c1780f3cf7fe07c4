-- Bytes written as characters.
use mathlib.Core.Path.{◌≡◌, refl, sym, ap, ◌∙◌}
use mathlib.Core.List.{List, [], ◌∷◌, ◌++◌}
use Prim.Native.Nat.{ℕ, suc, ◌+◌, ◌*◌, ◌/◌, ◌%◌, ◌≤◌, ◌<◌}
use native.Mathlib.Omega.{arith}
use native.Mathlib.Numerals.{add-one}
use lib.ListN.{length, get_or, take, drop, set, length-set, length-append, take-append-drop}
use lib.Seq.{take-suc, take_all, length-take-le}
use Rattle.basics.specs.Bytes.{over}
use Rattle.basics.proofs.Parts.{length_over, over-cons, over-nil, over-append}
use Rattle.frames.specs.Hex.{digit_of, hex_of}
use Rattle.frames.proofs.Digits.{hex_length}

-- ---- bytes as characters: those of k bytes are written
abbrev pub Shown : List ℕ → ℕ → List ℕ → ℕ → List ℕ → Type 0
Shown old at bytes k out = (length out ≡ length old) × (out ≡ over old at (hex_of (take k bytes)))

hex_append : (xs ys : List ℕ) → hex_of (xs ++ ys) ≡ hex_of xs ++ hex_of ys
unfolding hex_of
hex_append [] ys = refl
hex_append (x ∷ xs) ys = ap (λ l. digit_of (x / 16) ∷ digit_of (x % 16) ∷ l) (hex_append xs ys)

-- one or two bytes written at a place
pub over_one : (t : List ℕ) (a x : ℕ) → a < length t → over t a (x ∷ []) ≡ set t a x
over_one t a x h = over-cons t a x [] h ∙ over-nil (set t a x) (suc a)

over_two : (t : List ℕ) (a x y : ℕ) → a + 1 < length t → over t a (x ∷ y ∷ []) ≡ set (set t a x) (a + 1) y
over_two t a x y h =
    let e : suc a ≡ a + 1 = omega arith in
    let l : a + 1 < length (set t a x) = rw length-set h in
    over-cons t a x (y ∷ []) (omega arith) ∙ rw e (over_one (set t a x) (a + 1) y l)

pub show_start : (old : List ℕ) (at : ℕ) (bytes : List ℕ) → Shown old at bytes 0 old
unfolding hex_of
show_start old at bytes = (refl, sym (over-nil old at))

module _ (old : List ℕ) (at : ℕ) (bytes : List ℕ) (room : at + 2 * length bytes ≤ length old) where
  shown-length : (k : ℕ) → k ≤ length bytes → length (hex_of (take k bytes)) ≡ 2 * k
  shown-length k l = hex_length (take k bytes) ∙ ap (λ n. 2 * n) (length-take-le k bytes l)

  pub show_turn : (k : ℕ) (out : List ℕ) → k < length bytes → Shown old at bytes k out
      → Shown old at bytes (k + 1) (set (set out (at + 2 * k) (digit_of (get_or bytes k 0 / 16))) (at + 2 * k + 1) (digit_of (get_or bytes k 0 % 16)))
  unfolding hex_of
  show_turn k out l s =
      let h = hex_of (take k bytes) in
      let x = digit_of (get_or bytes k 0 / 16) in
      let y = digit_of (get_or bytes k 0 % 16) in
      let n : length h ≡ 2 * k = shown-length k (omega arith) in
      let fits : at + length (h ++ (x ∷ y ∷ [])) ≤ length old = omega (arith, length-append h (x ∷ y ∷ []), n) in
      let here : at + 2 * k + 1 < length out = omega (arith, s.0) in
      let e : over old at (hex_of (take (k + 1) bytes)) ≡ set (set out (at + 2 * k) x) (at + 2 * k + 1) y =
      rw (add-one k, take-suc bytes k 0 l, hex_append (take k bytes) (get_or bytes k 0 ∷ []), over-append old at h (x ∷ y ∷ []) fits, n, ← s.1)
      (over_two out (at + 2 * k) x y here)
      in
      (rw (length-set, length-set) s.0, sym e)

  pub show_end : (k : ℕ) (out : List ℕ) → length bytes ≤ k → Shown old at bytes k out → out ≡ over old at (hex_of bytes)
  show_end k out l s = rw (take_all k bytes l) at s.1

-- ---- a line: the characters of the first k bytes, those of the others, and the line end
module _ (t : List ℕ) (at k : ℕ) (bytes : List ℕ) (few : k ≤ length bytes) (room : at + 2 * length bytes < length t) where
  abbrev first : List ℕ
  first = hex_of (take k bytes)

  abbrev others : List ℕ
  others = hex_of (drop k bytes)

  whole : hex_of bytes ≡ first ++ others
  whole = ap hex_of (sym (take-append-drop k bytes)) ∙ hex_append (take k bytes) (drop k bytes)

  first-length : length first ≡ 2 * k
  first-length = hex_length (take k bytes) ∙ ap (λ n. 2 * n) (length-take-le k bytes few)

  pub bytes_shown : over (over t at first) (at + 2 * k) others ≡ over t at (hex_of bytes)
  bytes_shown =
      let fits : at + length (first ++ others) ≤ length t = rw (← whole, hex_length bytes) (omega arith) in
      rw whole (sym (over-append t at first others fits ∙ rw first-length))

  pub line_shown : (end : ℕ) → set (over (over t at first) (at + 2 * k) others) (at + 2 * length bytes) end ≡ over t at (hex_of bytes ++ (end ∷ []))
  line_shown end =
      let n = hex_length bytes in
      let fits : at + length (hex_of bytes ++ (end ∷ [])) ≤ length t = omega (arith, length-append (hex_of bytes) (end ∷ []), n) in
      let here : at + 2 * length bytes < length (over t at (hex_of bytes)) = rw (length_over t at (hex_of bytes) (omega arith)) room in
      rw bytes_shown (sym (over-append t at (hex_of bytes) (end ∷ []) fits ∙ rw n (over_one (over t at (hex_of bytes)) (at + 2 * length bytes) end here)))

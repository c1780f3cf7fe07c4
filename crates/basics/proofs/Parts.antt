-- Parts of a list of bytes, what a write leaves of them, and numbers in bytes.
use mathlib.Core.Path.{◌≡◌, refl, sym, ap, ◌∙◌}
use mathlib.Core.List.{List, [], ◌∷◌, ◌++◌, append_assoc}
use Prim.Native.Nat.{ℕ, zero, suc, ◌+◌, ◌-◌, ◌*◌, ◌/◌, ◌%◌, ◌^◌, ◌≤◌, ◌<◌}
use native.Mathlib.Omega.{arith}
use native.Mathlib.Nat.{one-le-pow, zero-lt-suc, add-zero}
use lib.ListN.{length, take, drop, set, replicate, length-append, length-take, length-drop, length-set, take-append-drop}
use lib.Seq.{take_at, drop_at, length-take-le, take-append-le, drop-append-le, drop-append-add, drop-drop, take_all, take-suc-set, drop-set-lt, append_snoc}
use Rattle.basics.specs.Bytes.{over, part, little_endian, number, AreBytes, bytes_of}

-- ---- parts
pub part_left : (xs ys : List ℕ) (a k : ℕ) → a + k ≤ length xs → part (xs ++ ys) a k ≡ part xs a k
part_left xs ys a k h =
    let h₁ : a ≤ length xs = omega arith in
    let h₂ : k ≤ length (drop a xs) = simp length-drop (omega arith) in
    rw (drop-append-le a xs ys h₁) (take-append-le k (drop a xs) ys h₂)

pub part_right : (xs ys : List ℕ) (n o k : ℕ) → length xs ≡ n → part (xs ++ ys) (n + o) k ≡ part ys o k
part_right xs ys n o k e = ap (take k) (rw e at (drop-append-add xs ys o))

pub part_length : (t : List ℕ) (a k : ℕ) → a + k ≤ length t → length (part t a k) ≡ k
part_length t a k h = simp (length-take, length-drop) (omega arith)

-- ---- a write, and the parts inside it, before it and after it
module _ (t : List ℕ) (a : ℕ) (l : List ℕ) (fits : a + length l ≤ length t) where
  front : length (take a t) ≡ a
  front = length-take-le a t (omega arith)

  pub length_over : length (over t a l) ≡ length t
  unfolding over
  length_over = simp (length-append, length-drop, front) (omega arith)

  pub part_inside : (o k : ℕ) → o + k ≤ length l → part (over t a l) (a + o) k ≡ part l o k
  unfolding over
  part_inside o k h = part_right (take a t) (l ++ drop (a + length l) t) a o k front ∙ part_left l (drop (a + length l) t) o k h

  pub part_whole : (k : ℕ) → length l ≡ k → part (over t a l) a k ≡ l
  part_whole k e = rw (add-zero a) at (part_inside 0 k (omega arith)) ∙ take_all k l (omega arith)

  pub part_before : (b k : ℕ) → b + k ≤ a → part (over t a l) b k ≡ part t b k
  unfolding over
  part_before b k h =
      let q : b + k ≤ length (take a t) = rw front h in
      part_left (take a t) _ b k q ∙ sym (part_left (take a t) (drop a t) b k q) ∙ ap (λ u. part u b k) (take-append-drop a t)

  pub part-after : (b k : ℕ) → a + length l ≤ b → part (over t a l) b k ≡ part t b k
  unfolding over
  part-after b k h =
      let o = b - (a + length l) in
      let e : b ≡ a + length l + o = omega arith in
      let f : length (take a t ++ l) ≡ a + length l = simp (length-append, front) in
      rw (e, ← append_assoc (take a t) l (drop (a + length l) t))
      (part_right (take a t ++ l) (drop (a + length l) t) (a + length l) o k f ∙ ap (take k) (drop-drop o (a + length l) t))

-- other bytes written over those that were written, as many, and the same bytes once more
pub over-over : (t : List ℕ) (a : ℕ) (l r : List ℕ) → length r ≡ length l → a + length l ≤ length t → over (over t a l) a r ≡ over t a r
unfolding over
over-over t a l r same fits =
    let d = drop (a + length l) t in
    let e : length (take a t ++ l) ≡ a + length l = simp (length-append, front t a l fits) in
    let f : drop (a + length l) (take a t ++ (l ++ d)) ≡ d = rw (← append_assoc (take a t) l d) (drop_at (take a t ++ l) d (a + length l) e) in
    rw (same, take_at (take a t) (l ++ d) a (front t a l fits), f)

pub over_again : (t : List ℕ) (a : ℕ) (l : List ℕ) → a + length l ≤ length t → over (over t a l) a l ≡ over t a l
over_again t a l fits = over-over t a l l refl fits

-- ---- numbers
pub length_bytes : (k x : ℕ) → length (bytes_of k x) ≡ k
unfolding bytes_of
length_bytes zero x = refl
length_bytes (suc k) x = ap suc (length_bytes k (x / 256))

-- a number is read back from its bytes
pub read_bytes : (k x : ℕ) → x < 256 ^ k → little_endian (bytes_of k x) ≡ x
unfolding bytes_of little_endian
read_bytes zero x h = omega arith
read_bytes (suc k) x h = let r = read_bytes k (x / 256) (omega arith) in rw r (omega arith)

pub read_zeros : (k : ℕ) → little_endian (replicate k 0) ≡ 0
unfolding little_endian
read_zeros zero = refl
read_zeros (suc k) = rw (read_zeros k)

-- ---- lists of bytes
pub bytes_append : (l r : List ℕ) → AreBytes l → AreBytes r → AreBytes (l ++ r)
bytes_append [] r h q = q
bytes_append (x ∷ l) r h q = (h.0, bytes_append l r h.1 q)

pub bytes_take : (k : ℕ) (l : List ℕ) → AreBytes l → AreBytes (take k l)
bytes_take zero l h = tt
bytes_take (suc k) [] h = tt
bytes_take (suc k) (x ∷ l) h = (h.0, bytes_take k l h.1)

pub bytes_drop : (k : ℕ) (l : List ℕ) → AreBytes l → AreBytes (drop k l)
bytes_drop zero l h = h
bytes_drop (suc k) [] h = tt
bytes_drop (suc k) (x ∷ l) h = bytes_drop k l h.1

pub bytes_part : (t : List ℕ) (a k : ℕ) → AreBytes t → AreBytes (part t a k)
bytes_part t a k h = bytes_take k (drop a t) (bytes_drop a t h)

pub bytes_of_lem : (k x : ℕ) → AreBytes (bytes_of k x)
unfolding bytes_of
bytes_of_lem zero x = tt
bytes_of_lem (suc k) x = (omega arith, bytes_of_lem k (x / 256))

pub bytes_zeros : (k : ℕ) → AreBytes (replicate k 0)
bytes_zeros zero = tt
bytes_zeros (suc k) = (omega arith, bytes_zeros k)

pub bytes_over : (t : List ℕ) (a : ℕ) (l : List ℕ) → AreBytes t → AreBytes l → AreBytes (over t a l)
unfolding over
bytes_over t a l h q =
    bytes_append (take a t) (l ++ drop (a + length l) t) (bytes_take a t h) (bytes_append l _ q (bytes_drop (a + length l) t h))

-- the number in k bytes is below 256 ^ k
take-lt : (k : ℕ) (l : List ℕ) → AreBytes l → little_endian (take k l) < 256 ^ k
unfolding little_endian
take-lt zero l h = omega arith
take-lt (suc k) [] h = one-le-pow (suc k) 256 (zero-lt-suc 255)
take-lt (suc k) (x ∷ l) h = let r = take-lt k l h.1 in let q = h.0 in omega arith

pub number_lt : (t : List ℕ) (a k : ℕ) → AreBytes t → number t a k < 256 ^ k
number_lt t a k h = take-lt k (drop a t) (bytes_drop a t h)

-- ---- a list written byte by byte
pub over-cons : (t : List ℕ) (a x : ℕ) (l : List ℕ) → a < length t → over t a (x ∷ l) ≡ over (set t a x) (suc a) l
unfolding over
over-cons t a x l h =
    let e : a + suc (length l) ≡ suc a + length l = omega arith in
    let q : a < suc a + length l = omega arith in
    rw (take-suc-set t a x h, drop-set-lt (suc a + length l) t a x q, e) (sym (append_snoc (take a t) x (l ++ drop (suc a + length l) t)))

pub over-nil : (t : List ℕ) (a : ℕ) → over t a [] ≡ t
unfolding over
over-nil t a = rw (add-zero a) (take-append-drop a t)

-- two writes, one after the other
pub over-append : (t : List ℕ) (a : ℕ) (l r : List ℕ) → a + length (l ++ r) ≤ length t → over t a (l ++ r) ≡ over (over t a l) (a + length l) r
over-append t a [] r h = rw (over-nil t a, add-zero a)
over-append t a (x ∷ l) r h =
    let q : a < length t = omega (arith, length-append (x ∷ l) r) in
    let f : suc a + length (l ++ r) ≤ length (set t a x) = rw (length-set) (omega arith) in
    let e : suc a + length l ≡ a + suc (length l) = omega arith in
    rw (over-cons t a x (l ++ r) q, over-cons t a x l q, ← e) (over-append (set t a x) (suc a) l r f)

-- bytes that are written where they stand change nothing
pub own_bytes : (l : List ℕ) → AreBytes l → bytes_of (length l) (little_endian l) ≡ l
unfolding bytes_of little_endian
own_bytes [] b = refl
own_bytes (x ∷ l) b =
    let low : (x + 256 * little_endian l) % 256 ≡ x = omega (arith, b.0) in
    let high : (x + 256 * little_endian l) / 256 ≡ little_endian l = omega (arith, b.0) in
    rw (low, high, own_bytes l b.1)

pub over-own : (t : List ℕ) (a k : ℕ) → a + k ≤ length t → over t a (part t a k) ≡ t
unfolding over
over-own t a k h =
    rw (part_length t a k h, ← drop-drop k a t, take-append-drop k (drop a t), take-append-drop a t)

-- the bytes of a number that stands in them
pub number_bytes : (t : List ℕ) (a k : ℕ) → AreBytes t → a + k ≤ length t → bytes_of k (number t a k) ≡ part t a k
number_bytes t a k b h = rw (part_length t a k h) at (own_bytes (part t a k) (bytes_part t a k b))

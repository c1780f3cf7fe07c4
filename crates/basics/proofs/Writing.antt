-- Bytes written one after the other: by hand, and by a loop that writes a list byte by byte.
use mathlib.Core.Path.{◌≡◌, refl, sym, ◌∙◌}
use mathlib.Core.List.{List, [], ◌∷◌, ◌++◌, append-nil}
use Prim.Native.Nat.{ℕ, suc, ◌+◌, ◌-◌, ◌/◌, ◌%◌, ◌≤◌, ◌<◌}
use native.Mathlib.Omega.{arith}
use native.Mathlib.Nat.{zero-add, add-zero, add_assoc}
use native.Mathlib.Numerals.{add-one}
use lib.ListN.{length, get_or, drop, set, replicate, length-append, length-set, drop_of_length-le}
use lib.Seq.{drop-cons, get_or-take, get_or-drop}
use Rattle.basics.specs.Bytes.{over, part, bytes_of}
use Rattle.basics.proofs.Parts.{part_length, length_bytes, over-cons, over-nil, over-append}

-- two bytes, and a list behind them
pub over_pair : (t : List ℕ) (a x y : ℕ) (l : List ℕ) → a + 1 < length t → over (set (set t a x) (a + 1) y) (a + 2) l ≡ over t a (x ∷ y ∷ l)
over_pair t a x y l h =
    let q : a < length t = omega arith in
    let r : suc a < length (set t a x) = rw length-set (omega arith) in
    let e : a + 2 ≡ suc (suc a) = omega arith in
    rw (add-one a, e, over-cons t a x (y ∷ l) q, over-cons (set t a x) (suc a) y l r)

-- a number, and a list or a number behind it
pub over-number : (t : List ℕ) (a k x : ℕ) (r : List ℕ) → a + k + length r ≤ length t → over (over t a (bytes_of k x)) (a + k) r ≡ over t a (bytes_of k x ++ r)
over-number t a k x r h =
    let e = length_bytes k x in
    let f = length-append (bytes_of k x) r in
    sym (over-append t a (bytes_of k x) r (omega arith) ∙ rw e)

pub over-numbers : (t : List ℕ) (a k x j y : ℕ) → a + k + j ≤ length t
    → over (over t a (bytes_of k x)) (a + k) (bytes_of j y) ≡ over t a (bytes_of k x ++ bytes_of j y)
over-numbers t a k x j y h = over-number t a k x (bytes_of j y) (rw (length_bytes j y) h)

-- a list that is written whole
pub over-all : (t l : List ℕ) → length l ≡ length t → over t 0 l ≡ l
unfolding over
over-all t l e = rw (zero-add (length l), drop_of_length-le t {i = length l} (omega arith)) (append-nil l)

-- ---- a loop: what holds at its start, at each turn and at its end
-- t is t₀ with the first k bytes of the whole written from a place on; what is left is still to be written
pub record Writing (t₀ t : List ℕ) (at k : ℕ) (whole left : List ℕ) : Type 0 where
  pub same : length t ≡ length t₀
  pub going : over t₀ at whole ≡ over t (at + k) left

pub writing_start : (t : List ℕ) (at : ℕ) (whole : List ℕ) → Writing t t at 0 whole whole
writing_start t at whole = record { same = refl; going = rw (add-zero at) }

module _ {t₀ t : List ℕ} {at k : ℕ} {whole left : List ℕ} (w : Writing t₀ t at k whole left) where
  pub writing_turn : (p b : ℕ) (rest : List ℕ) → p ≡ at + k → p < length t → left ≡ b ∷ rest → Writing t₀ (set t p b) at (k + 1) whole rest
  writing_turn p b rest e h l =
      record {
        same = length-set t p b ∙ w.same;
        going = w.going ∙ rw (← e, l, over-cons t p b rest h, ← add_assoc at k 1, ← e, add-one p);
      }

  pub writing_end : left ≡ [] → t ≡ over t₀ at whole
  writing_end l = sym (w.going ∙ rw (l, over-nil t (at + k)))

-- ---- what is left of the bytes of a number, of zeros, and of a list
module _ (n k : ℕ) where
  pub number-next : (x : ℕ) → k < n → bytes_of (n - k) x ≡ x % 256 ∷ bytes_of (n - (k + 1)) (x / 256)
  unfolding bytes_of
  number-next x h = let e : n - k ≡ suc (n - (k + 1)) = omega arith in rw e

  pub number-done : (x : ℕ) → n ≤ k → bytes_of (n - k) x ≡ []
  unfolding bytes_of
  number-done x h = let e : n - k ≡ 0 = omega arith in rw e

  pub zeros_next : k < n → replicate {A = ℕ} (n - k) 0 ≡ 0 ∷ replicate (n - (k + 1)) 0
  zeros_next h = let e : n - k ≡ suc (n - (k + 1)) = omega arith in rw e

  pub zeros_done : n ≤ k → replicate {A = ℕ} (n - k) 0 ≡ []
  zeros_done h = let e : n - k ≡ 0 = omega arith in rw e

pub list_next : (l : List ℕ) (k : ℕ) → k < length l → drop k l ≡ get_or l k 0 ∷ drop (k + 1) l
list_next l k h = rw (add-one k) (drop-cons l k 0 h)

pub list_done : (l : List ℕ) (k : ℕ) → length l ≤ k → drop k l ≡ []
list_done l k h = drop_of_length-le l h

pub part-next : (t : List ℕ) (at n k : ℕ) → at + n ≤ length t → k < n → drop k (part t at n) ≡ get_or t (at + k) 0 ∷ drop (k + 1) (part t at n)
part-next t at n k h q =
    let e = part_length t at n h in
    let long : k < length (part t at n) = omega arith in
    let f : get_or (part t at n) k 0 ≡ get_or t (at + k) 0 = get_or-take n (drop at t) k 0 q ∙ get_or-drop at t k 0 in
    rw (← f) (list_next (part t at n) k long)

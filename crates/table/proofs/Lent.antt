-- The table lent from a place on, `&mut t[a..]`, and between two places: what is written there, said of the whole.
use mathlib.Core.Path.{◌≡◌, ◌∙◌}
use mathlib.Core.List.{List, ◌++◌, append_assoc, append-nil}
use Prim.Native.Nat.{ℕ, ◌+◌, ◌-◌}
use native.Mathlib.Nat.{le_of_eq, add_assoc}
use native.Mathlib.Omega.{arith}
use lib.ListN.{length, take, drop, length-drop, drop_of_length-le}
use lib.Seq.{take_all, take-add, drop-drop}
use borrow.Rule.Slice.PartMut.{mid_of, put_mid}
use Rattle.basics.specs.Bytes.{over}

-- the part that is lent, and the whole when the part is back
lent : (t : List ℕ) (a : ℕ) → mid_of a (length t - a) t ≡ drop a t
lent t a = take_all (length t - a) (drop a t) (le_of_eq (length-drop a t))

back : (t : List ℕ) (a : ℕ) (l : List ℕ) → put_mid a (length t - a) t l ≡ take a t ++ l
back t a l = rw (drop_of_length-le (drop a t) (le_of_eq (length-drop a t)), append-nil l)

-- bytes written into the part from its place o on are written into the whole from a + o on
pub over-lent : (t : List ℕ) (a o : ℕ) (l : List ℕ) → put_mid a (length t - a) t (over (mid_of a (length t - a) t) o l) ≡ over t (a + o) l
unfolding over
over-lent t a o l =
    let e = append_assoc (take a t) (take o (drop a t)) (l ++ drop (a + (o + length l)) t) in
    back t a (over (mid_of a (length t - a) t) o l)
    ∙ rw (lent t a, take-add a o t, drop-drop (o + length l) a t, add_assoc a o (length l), e)

-- a part as long as what is written into it
pub over-part : (t : List ℕ) (a n : ℕ) (l : List ℕ) → length l ≡ n → put_mid a (a + n - a) t l ≡ over t a l
unfolding over
over-part t a n l e = let k : a + n - a ≡ length l = omega arith in rw (k, drop-drop (length l) a t)

-- What commit and lay write, as lists of bytes.
use mathlib.Core.Path.{◌≡◌, refl, sym, ◌∙◌}
use mathlib.Core.Bool.{Bool, true, false, cond, ◌||◌}
use mathlib.Core.List.{List, ◌∷◌, ◌++◌, append_assoc, append-nil}
use Prim.Native.Nat.{ℕ, zero, suc, ◌+◌, ◌-◌, ◌*◌, ◌≤◌}
use native.Mathlib.Omega.{arith}
use native.Mathlib.Nat.{le_of_eq, add-zero, zero-add, suc-add, mul-le-mul, not-suc-le-zero}
use lib.ListN.{length, take, drop, replicate, length-append}
use lib.Seq.{take_all, take-append-le}
use Rattle.quorum.specs.Sets.{member, unite, full}
use Rattle.basics.specs.Bytes.{part, bytes_of, over}
use Rattle.quorum.proofs.Promise.{promise}
use Rattle.quorum.specs.Configurations.{config_size}
use Rattle.layout.specs.Layout.{head_size, off_at, copies_at, copy_size, address, table_length}
use Rattle.layout.specs.Fields.{Copy, Round}
use Rattle.table.specs.ItemCopies.{InTable}
use Rattle.layout.specs.Updates.{set_off, put_data, put_config, copy_bytes, repeated, laid_head, laid, put_copy, put_copies}
use Rattle.basics.proofs.Parts.{part_left, part_length, length_over, part_inside, part_whole, length_bytes, over_again, over-append, over-own}
use Rattle.basics.proofs.Writing.{over-all}
use Rattle.layout.proofs.Fields.{address_head, copy_length}
use Rattle.layout.proofs.Along.{along}
use Rattle.layout.proofs.Stored.{repeated-length}

-- ---- commit
-- what the puts of station s do to the bytes
abbrev pub put_station : ℕ → Round → Copy → ℕ → List ℕ → List ℕ
put_station n r new s t = put_copy t (address n r.item s) (member r.data_puts s) (member r.config_puts s) new

-- every put takes effect, by a walk over the stations that have one: at the others nothing is put
pub puts_along : (t : List ℕ) (n : ℕ) (r : Round) (new : Copy) (k : ℕ)
    → along (put_station n r new) t (unite r.data_puts r.config_puts) k ≡ put_copies t n r new k
unfolding put_copies along
puts_along t n r new zero = refl
puts_along t n r new (suc k) =
    rw (puts_along t n r new k, promise.member_unite r.data_puts r.config_puts k) (either_put (member r.data_puts k) (member r.config_puts k))
  where
    u : List ℕ
    u = put_copies t n r new k

    either_put : (d c : Bool) → cond (d || c) (put_copy u (address n r.item k) d c new) u ≡ put_copy u (address n r.item k) d c new
    either_put true c = refl
    either_put false true = refl
    either_put false false = refl

-- bytes that have the copies of an item have a head
pub head_fits : (t : List ℕ) (n item : ℕ) → InTable t n item → head_size ≤ length t
head_fits t n item h = omega (arith, address_head n item n, h.2)

-- the puts of a station take effect
pub put_turn : (n : ℕ) (r : Round) (new : Copy) (s : ℕ) (u₀ : List ℕ) {u₁ u₂ target : List ℕ} {at : ℕ} {d c : Bool}
    → at ≡ address n r.item s → d ≡ member r.data_puts s → c ≡ member r.config_puts s → target ≡ new.config
    → u₁ ≡ cond d (put_data u₀ at new.version new.value) u₀ → u₂ ≡ cond c (put_config u₁ at new.generation target) u₁
    → u₂ ≡ put_station n r new s u₀
put_turn n r new s u₀ place data? config? stores first second = second ∙ rw (first, place, data?, config?, stores)

-- ---- lay
-- both halves of a copy, one after the other, are the whole copy
pub whole_copy : (t : List ℕ) (at version value generation : ℕ) (config : List ℕ) → at + copy_size ≤ length t → length config ≡ config_size
    → put_config (put_data t at version value) at generation config ≡ over t at (copy_bytes version value generation config)
unfolding put_data put_config copy_bytes
whole_copy t at x v g config fits long =
    let front = bytes_of 8 x ++ bytes_of 8 v in
    let back = bytes_of 8 g ++ config in
    let e : length front ≡ 16 = rw (length-append, length_bytes 8 x, length_bytes 8 v) in
    let f : length back ≡ 40 = rw (length-append, length_bytes 8 g, long) in
    rw (add-zero at, ← append_assoc (bytes_of 8 x) (bytes_of 8 v) back)
    (sym (over-append t at front back (rw (length-append front back, e, f) fits) ∙ rw e))

-- bytes written over the first of them
over_first : (t : List ℕ) (a : ℕ) (l r : List ℕ) → a + length (l ++ r) ≤ length t → over (over t a l) a (l ++ r) ≡ over t a (l ++ r)
over_first t a l r fits =
    let q : a + length l ≤ length t = omega (arith, length-append l r) in
    let long : a + length (l ++ r) ≤ length (over t a l) = rw (length_over t a l q) fits in
    over-append (over t a l) a l r long ∙ rw (over_again t a l q) (sym (over-append t a l r fits))

-- bytes that went through a block are what they were
pub through_block : (t block : List ℕ) (a k : ℕ) {x y : List ℕ} → a + k ≤ length t → x ≡ take (a + k - a) (drop a t) → y ≡ take k (x ++ drop k block)
    → y ≡ part t a k
through_block t block a k {x} h p q =
    let e : a + k - a ≡ k = omega arith in
    let same = rw e at p in
    let long : length x ≡ k = rw same (part_length t a k h) in
    q ∙ take-append-le k x (drop k block) (le_of_eq (sym long)) ∙ take_all k x (le_of_eq long) ∙ same

-- copies, one after the other
pub lay_start : (t : List ℕ) (a : ℕ) → a + copy_size ≤ length t → t ≡ over t a (repeated 1 (part t a copy_size))
unfolding repeated
lay_start t a h = rw (append-nil (part t a copy_size)) (sym (over-own t a copy_size h))

module _ (copy : List ℕ) (size : length copy ≡ copy_size) where
  repeated-add : (j k : ℕ) → repeated (j + k) copy ≡ repeated j copy ++ repeated k copy
  unfolding repeated
  repeated-add zero k = rw (zero-add k)
  repeated-add (suc j) k = rw (suc-add j k, repeated-add j k) (sym (append_assoc copy (repeated j copy) (repeated k copy)))

  repeated-part : (k s : ℕ) → s ≤ k → part (repeated k copy) 0 (copy_size * s) ≡ repeated s copy
  repeated-part k s h =
      let e : k ≡ s + (k - s) = omega arith in
      let long = repeated-length s copy size in
      rw (e, repeated-add s (k - s))
      (part_left (repeated s copy) (repeated (k - s) copy) 0 (copy_size * s) (omega arith) ∙ take_all (copy_size * s) (repeated s copy) (omega arith))

  -- k copies from a place on, and the first s of them once more behind them
  pub lay_turn : (t u : List ℕ) (a k s : ℕ) → s ≤ k → a + copy_size * (k + s) ≤ length t → u ≡ over t a (repeated k copy)
      → over u (a + copy_size * k) (part u a (copy_size * s)) ≡ over t a (repeated (k + s) copy)
  lay_turn t u a k s h fits so_far =
      let long = repeated-length k copy size in
      let more = repeated-length s copy size in
      let f : a + length (repeated k copy) ≤ length t = rw long (omega arith) in
      let e = rw (add-zero a) at (part_inside t a (repeated k copy) f 0 (copy_size * s) (rw long (omega arith))) in
      rw (so_far, e, repeated-part k s h, ← long, repeated-add k s)
      (sym (over-append t a (repeated k copy) (repeated s copy) (rw (length-append, long, more) (omega arith))))

-- a table of n stations and m items has from one to 512 copies
pub some_copies : {n m : ℕ} → 1 ≤ n → n ≤ 16 → 1 ≤ m → m ≤ 32 → (1 ≤ n * m) × (n * m ≤ 512)
some_copies p q r s = (mul-le-mul p r, mul-le-mul q s)

-- the first copy and all copies, one after the other
all_copies : (t : List ℕ) (k : ℕ) (copy : List ℕ) → 1 ≤ k → length copy ≡ copy_size → copies_at + copy_size * k ≤ length t
    → over (over t copies_at copy) copies_at (repeated k copy) ≡ over t copies_at (repeated k copy)
unfolding repeated
all_copies t zero copy some size fits = absurd (not-suc-le-zero some)
all_copies t (suc k) copy some size fits =
    over_first t copies_at copy (repeated k copy) (rw (length-append, repeated-length k copy size, size) (omega arith))

-- two bytes and zeros, and the off set written over the first of these, are the head
pub head_off : (t : List ℕ) (n m : ℕ) → set_off (over t 0 (n ∷ m ∷ replicate (head_size - off_at) 0)) (full n) ≡ over t 0 (laid_head n m)
unfolding set_off over bytes_of
head_off t n m = refl

-- the head, the first copy and all copies, one after the other, are the whole table
pub lay_all : (t : List ℕ) (n m value : ℕ) (config : List ℕ) → 1 ≤ n * m → length t ≡ table_length n m → length config ≡ config_size
    → {h u : List ℕ} → h ≡ over t 0 (laid_head n m) → u ≡ over h copies_at (copy_bytes 0 value 0 config)
    → over u copies_at (repeated (n * m) (part u copies_at copy_size)) ≡ laid n m value config
unfolding table_length bytes_of
lay_all t n m value config some size long {h} {u} first second =
    let head = laid_head n m in
    let copy = copy_bytes 0 value 0 config in
    let copies = repeated (n * m) copy in
    let e = copy_length 0 value 0 config long in
    let f = repeated-length (n * m) copy e in
    let same : length h ≡ length t = rw first (length_over t 0 head (omega arith)) in
    rw (second, part_whole h copies_at copy (omega arith) copy_size e, all_copies h (n * m) copy some e (omega arith), first)
    (sym (over-append t 0 head copies (rw length-append (omega arith))) ∙ over-all t (head ++ copies) (rw length-append (omega arith)))

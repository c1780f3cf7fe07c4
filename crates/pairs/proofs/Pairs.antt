-- What the code's test of validity comes to: its pairs of filled places, and its four sets in one number.
use mathlib.Core.Path.{◌≡◌, refl, sym, ap, ◌∙◌}
use mathlib.Core.Bool.{Bool, true, false, not, cond, ◌&&◌}
use mathlib.Core.List.{List}
use mathlib.Core.Logic.{◌⊎◌, inl, inr, ⊎_elim}
use Prim.Native.Nat.{ℕ, zero, suc, ◌+◌, ◌-◌, ◌*◌, ◌^◌, ◌≤◌, ◌<◌}
use native.Mathlib.Nat.{zero-add, add-zero, le_refl}
use native.Mathlib.Omega.{arith}
use lib.ListN.{length, get_or}
use lib.Dec.{eqb, ltb}
use lib.Bits.{bit_and, bit_or, or_add_and, and_le_r, or_zero_l, and_block}
use borrow.Author.Tests.{eq-eqb, ne_eqb, eqb-true, eqb-false, ltb-true, ltb-false, lt-ltb, not-true, not-false}
use Rattle.basics.specs.Tests.{all_below}
use Rattle.quorum.specs.Sets.{member, used, holds, shares, within, minus, full}
use Rattle.quorum.specs.Configurations.{set_at, read_set, write_set, valid, config_size}
use Rattle.pairs.specs.Pairs.{filled, filled_side, row_ok, pairs_ok, four, FourFit, outside_of, four_within}
use Rattle.quorum.specs.Promise.{Side, Valid}
use Rattle.basics.proofs.Tests.{clash, fails, same_test, and_left, and_right, and_both, all-below, below_all, either}
use Rattle.quorum.proofs.Promise.{promise}
use Rattle.sets.proofs.Folds.{fold_all, fold_all_back}

-- a configuration without the facts of a valid one fails the test
pub invalid : (n : ℕ) (c : List ℕ) → (Valid n c → ⊥) → false ≡ valid n c
invalid n c h = sym (fails (valid n c) (λ e. h ((promise.valid_exactly n c).0 e)))

-- ---- a filled place
unused : (a : ℕ) → used a ≡ false → a ≡ 0
unfolding used
unused a e = eqb-true a 0 (not-false _ e)

-- a used one is its set
filled-used : (a b : ℕ) → used a ≡ true → filled a b ≡ a
unfolding filled used
filled-used a b u =
    let h : a ≡ 0 → ⊥ = eqb-false a 0 (not-true _ u) in
    rw (ne_eqb (bit_or a b) 0 (λ e. h (omega (arith, or_add_and a b, and_le_r a b))))

-- an unused one that a used one follows is empty
filled-gap : (a b : ℕ) → used a ≡ false → used b ≡ true → filled a b ≡ 0
unfolding filled used
filled-gap a b e u =
    let h : b ≡ 0 → ⊥ = eqb-false b 0 (not-true _ u) in
    rw (unused a e, or_zero_l b, ne_eqb b 0 h)

-- any other unused one is all stations
filled_end : (a b : ℕ) → used a ≡ false → used b ≡ false → filled a b ≡ 65535
unfolding filled
filled_end a b e f = rw (unused a e, unused b f, or_zero_l)

every_station : (i : ℕ) → i < 16 → member 65535 i ≡ true
every_station i l = ap (λ x. member x i) promise.full_16 ∙ promise.member_full 16 i (le_refl 16) ∙ lt-ltb i 16 l

-- ---- the places of a side, filled
abbrev after : (ℕ → ℕ) → ℕ → ℕ
after side k = cond (eqb k 7) 0 (side (suc k))

abbrev place : (ℕ → ℕ) → ℕ → ℕ
place side k = filled (side k) (after side k)

filled_at : (side : ℕ → ℕ) (k : ℕ) → k < 8 → get_or (filled_side side) k 0 ≡ place side k
unfolding filled_side
filled_at side zero l = refl
filled_at side (suc zero) l = refl
filled_at side (suc (suc zero)) l = refl
filled_at side (suc (suc (suc zero))) l = refl
filled_at side (suc (suc (suc (suc zero)))) l = refl
filled_at side (suc (suc (suc (suc (suc zero))))) l = refl
filled_at side (suc (suc (suc (suc (suc (suc zero)))))) l = refl
filled_at side (suc (suc (suc (suc (suc (suc (suc zero))))))) l = refl
filled_at side (suc (suc (suc (suc (suc (suc (suc (suc k)))))))) l = absurd (omega arith)

-- a place that has a member has no gap behind it
no_gap : (side : ℕ → ℕ) (k : ℕ) → k < 7 → (i : ℕ) → member (place side k) i ≡ true → used (side (suc k)) ≡ true → used (side k) ≡ true
no_gap side k l i m u =
    let ne : eqb k 7 ≡ false = ne_eqb k 7 (λ e. omega arith) in
    either (used (side k)) (λ e. e)
    (λ e. clash m (rw (ne, filled-gap (side k) (side (suc k)) e u) (promise.member_empty i)))

module _ (n : ℕ) (side : ℕ → ℕ) (l : n ≤ 16) (s : Side n side) where
  -- in a valid side an unused place stands for all stations
  nothing_after : (k : ℕ) → k < 8 → used (side k) ≡ false → used (after side k) ≡ false
  unfolding used
  nothing_after k h e =
      either (eqb k 7) (λ q. rw q)
      (λ q. let ne : k ≡ 7 → ⊥ = eqb-false k 7 q in
      rw q (either (used (side (suc k))) (λ u. clash (s.packed k (omega arith) u) e) (λ f. f)))

  used-or-all : (k : ℕ) → k < 8 → ((used (side k) ≡ true) × (place side k ≡ side k)) ⊎ (place side k ≡ 65535)
  used-or-all k h =
      either (used (side k)) (λ u. inl (u, filled-used (side k) (after side k) u))
      (λ e. inr (filled_end (side k) (after side k) e (nothing_after k h e)))

  -- so each filled place has one of the 16 stations
  some_station : (k : ℕ) → k < 8 → (i : ℕ) × (i < 16) × (member (place side k) i ≡ true)
  some_station k h =
      ⊎_elim
      (λ p. let m = (promise.used_member (side k)).0 p.0 in let r = s.in_range k h m.0 m.1 in (m.0, omega arith, rw p.1 m.1))
      (λ e. (0, omega arith, rw e (every_station 0 (omega arith)))) (used-or-all k h)

-- ---- all pairs
module _ (c : List ℕ) where
  abbrev Pairs : Type 0
  Pairs = (j k : ℕ) → j < 8 → k < 8 → shares (place (read_set c) j) (place (write_set c) k) ≡ true

  by_places : pairs_ok c ≡ all_below (λ j. all_below (λ k. shares (get_or (filled_side (read_set c)) (7 - j) 0) (get_or (filled_side (write_set c)) k 0)) 8) 8
  unfolding filled_side all_below
  by_places =
      let reads = filled_side (read_set c) in
      let writes = filled_side (write_set c) in
      sym (fold_all_back {f = row_ok writes} (λ read. fold_all {f = shares read} (λ x. refl) true writes) reads)

  pairs-all : pairs_ok c ≡ true → Pairs
  pairs-all e j k h l =
      let row = all-below _ 8 (sym by_places ∙ e) (7 - j) (omega arith) in
      let q : 7 - (7 - j) ≡ j = omega arith in
      rw (q, filled_at (read_set c) j h) at (rw (filled_at (write_set c) k l) at (all-below _ 8 row k l))

  all-pairs : Pairs → pairs_ok c ≡ true
  all-pairs f =
      by_places ∙ below_all _ 8 (λ j h. below_all _ 8 (λ k l.
      rw (filled_at (read_set c) (7 - j) (omega arith), filled_at (write_set c) k l) (f (7 - j) k (omega arith) l)))

  module _ (n : ℕ) (v : Valid n c) (j k : ℕ) (h : j < 8) (l : k < 8) where
    abbrev r : ℕ
    r = place (read_set c) j

    abbrev w : ℕ
    w = place (write_set c) k

    all_reads : r ≡ 65535 → shares r w ≡ true
    all_reads e =
        let m = some_station n (write_set c) v.small v.writes k l in (promise.shares_member r w).1 (m.0, rw e (every_station m.0 m.1), m.2)

    all-writes : w ≡ 65535 → shares r w ≡ true
    all-writes e =
        let m = some_station n (read_set c) v.small v.reads j h in (promise.shares_member r w).1 (m.0, m.2, rw e (every_station m.0 m.1))

    valid_pair : shares r w ≡ true
    valid_pair =
        ⊎_elim
        (λ p. ⊎_elim (λ q. rw (p.1, q.1) ((promise.shares_member (read_set c j) (write_set c k)).1 (v.meet j k h l p.0 q.0))) all-writes
        (used-or-all n (write_set c) v.small v.writes k l)) all_reads (used-or-all n (read_set c) v.small v.reads j h)

-- ---- four sets in one number
-- the stations of 16 that n do not have
member_outside : (n i : ℕ) → n ≤ 16 → member (65535 - full n) i ≡ (ltb i 16 && not (ltb i n))
unfolding minus holds
member_outside n i l =
    ap (λ x. member (65535 - x) i) (sym inner) ∙ promise.member_minus 65535 (full n) i
    ∙ ap (λ b. b && not (member (full n) i)) (ap (λ x. member x i) promise.full_16 ∙ promise.member_full 16 i (le_refl 16))
    ∙ ap (λ b. ltb i 16 && not b) (promise.member_full n i l)
  where
    inner : bit_and 65535 (full n) ≡ full n
    inner =
        eqb-true _ _ ((promise.holds_members 65535 (full n)).1
        (λ j m. let h = ltb-true j n (sym (promise.member_full n j l) ∙ m) in every_station j (omega arith)))

-- a set of 16 bits has none of them exactly if it lies within n
module _ (n s : ℕ) (l : n ≤ 16) (h : s < 65536) where
  abbrev rest : ℕ
  rest = 65535 - full n

  outer : (i : ℕ) → member s i ≡ true → ltb i n ≡ false → member rest i ≡ true
  unfolding within
  outer i m f =
      let q = promise.within_member 16 s i (lt-ltb s (2 ^ 16) h) m in
      member_outside n i l ∙ and_both (ltb i 16) (not (ltb i n)) (lt-ltb i 16 q) (ap not f)

  lane_within : eqb (bit_and s rest) 0 ≡ within n s
  unfolding shares
  lane_within =
      same_test _ _
      (λ e. promise.member_within n s (λ i m. either (ltb i n) (ltb-true i n)
      (λ f. clash ((promise.shares_member s rest).1 (i, m, outer i m f)) (ap not e))))
      (λ w. either (eqb (bit_and s rest) 0) (λ e. e)
      (λ e. let m = (promise.shares_member s rest).0 (ap not e) in
      let q = promise.within_member n s m.0 w m.1 in
      clash (and_right (ltb m.0 16) (not (ltb m.0 n)) (sym (member_outside n m.0 l) ∙ m.2)) (ap not (lt-ltb m.0 n q))))

-- numbers of which each has 16 bits more
two_lanes : (x y r s : ℕ) → r < 65536 → s < 65536 → eqb (bit_and (x * 65536 + r) (y * 65536 + s)) 0 ≡ (eqb (bit_and x y) 0 && eqb (bit_and r s) 0)
two_lanes x y r s p q = ap (λ a. eqb a 0) (and_block 16 x y r s p q) ∙ none (bit_and x y) (bit_and r s)
  where
    none : (a b : ℕ) → eqb (a * 65536 + b) 0 ≡ (eqb a 0 && eqb b 0)
    none a b =
        same_test (eqb (a * 65536 + b) 0) (eqb a 0 && eqb b 0)
        (λ e. let h = eqb-true (a * 65536 + b) 0 e in and_both (eqb a 0) (eqb b 0) (eq-eqb a 0 (omega arith)) (eq-eqb b 0 (omega arith)))
        (λ e. let h = eqb-true a 0 (and_left (eqb a 0) (eqb b 0) e) in let g = eqb-true b 0 (and_right (eqb a 0) (eqb b 0) e) in
        eq-eqb (a * 65536 + b) 0 (omega arith))

-- the test of four sets at once is that of each
four_sets : (n a b d e : ℕ) → n ≤ 16 → a < 65536 → b < 65536 → d < 65536 → e < 65536
    → eqb (bit_and (((e * 65536 + d) * 65536 + b) * 65536 + a)
    ((((65535 - full n) * 65536 + (65535 - full n)) * 65536 + (65535 - full n)) * 65536 + (65535 - full n))) 0
    ≡ (within n e && within n d && within n b && within n a)
four_sets n a b d e l ha hb hd he =
    let o = 65535 - full n in
    let ho : o < 65536 = omega arith in
    rw (
      two_lanes ((e * 65536 + d) * 65536 + b) ((o * 65536 + o) * 65536 + o) a o ha ho,
      two_lanes (e * 65536 + d) (o * 65536 + o) b o hb ho,
      two_lanes e o d o hd ho,
      lane_within n a l ha,
      lane_within n b l hb,
      lane_within n d l hd,
      lane_within n e l he,
    )

pub four_lanes : (n : ℕ) (c : List ℕ) (place : ℕ) → n ≤ 16 → FourFit c place
    → eqb (bit_and (four c place) (outside_of n)) 0 ≡ four_within n c place
unfolding outside_of four_within
four_lanes n c place l h =
    let o = 65535 - full n in
    let number : four c place ≡ ((set_at c (place + 3) * 65536 + set_at c (place + 2)) * 65536 + set_at c (place + 1)) * 65536 + set_at c place = omega arith in
    let mask : 281479271743489 * o ≡ ((o * 65536 + o) * 65536 + o) * 65536 + o = omega arith in
    rw (number, mask) (four_sets n (set_at c place) (set_at c (place + 1)) (set_at c (place + 2)) (set_at c (place + 3)) l
    h.0 h.1 h.2 h.3)

-- ---- validity
module _ (n : ℕ) (c : List ℕ) where
  abbrev pub inside : Bool
  inside = four_within n c 0 && four_within n c 4 && four_within n c 8 && four_within n c 12

  abbrev at : ℕ → ℕ → Bool
  at p k = within n (set_at c (p + k))

  -- the four sets from a place on, each
  each_of : (p : ℕ) → four_within n c p ≡ true → (k : ℕ) → k < 4 → at p k ≡ true
  unfolding four_within
  each_of p e zero l = rw (add-zero p) (and_right (at p 3 && at p 2 && at p 1) _ e)
  each_of p e (suc zero) l = and_right (at p 3 && at p 2) _ (and_left (at p 3 && at p 2 && at p 1) _ e)
  each_of p e (suc (suc zero)) l = and_right (at p 3) _ (and_left (at p 3 && at p 2) _ (and_left (at p 3 && at p 2 && at p 1) _ e))
  each_of p e (suc (suc (suc zero))) l = and_left (at p 3) _ (and_left (at p 3 && at p 2) _ (and_left (at p 3 && at p 2 && at p 1) _ e))
  each_of p e (suc (suc (suc (suc k)))) l = absurd (omega arith)

  of_each : (p : ℕ) → ((k : ℕ) → k < 4 → at p k ≡ true) → four_within n c p ≡ true
  unfolding four_within
  of_each p f =
      and_both (at p 3 && at p 2 && at p 1) _
      (and_both (at p 3 && at p 2) _ (and_both (at p 3) _ (f 3 (omega arith)) (f 2 (omega arith))) (f 1 (omega arith)))
      (rw (add-zero p) at (f 0 (omega arith)))

  -- the sixteen sets, each
  all_inside : inside ≡ true → (k : ℕ) → k < 16 → within n (set_at c k) ≡ true
  all_inside e k l =
      let abd = and_left (four_within n c 0 && four_within n c 4 && four_within n c 8) _ e in
      let ab = and_left (four_within n c 0 && four_within n c 4) _ abd in
      either (ltb k 8)
      (λ q. let h = ltb-true k 8 q in either (ltb k 4)
      (λ r. rw (zero-add k) at (each_of 0 (and_left (four_within n c 0) _ ab) k (ltb-true k 4 r)))
      (λ r. let g = ltb-false k 4 r in let z : 4 + (k - 4) ≡ k = omega arith in
      rw z at (each_of 4 (and_right (four_within n c 0) _ ab) (k - 4) (omega arith))))
      (λ q. let h = ltb-false k 8 q in either (ltb k 12)
      (λ r. let g = ltb-true k 12 r in let z : 8 + (k - 8) ≡ k = omega arith in
      rw z at (each_of 8 (and_right (four_within n c 0 && four_within n c 4) _ abd) (k - 8) (omega arith)))
      (λ r. let g = ltb-false k 12 r in let z : 12 + (k - 12) ≡ k = omega arith in
      rw z at (each_of 12 (and_right (four_within n c 0 && four_within n c 4 && four_within n c 8) _ e) (k - 12) (omega arith))))

  inside_all : ((k : ℕ) → k < 16 → within n (set_at c k) ≡ true) → inside ≡ true
  inside_all f =
      let four-from : (p : ℕ) → p ≤ 12 → four_within n c p ≡ true = λ p h. of_each p (λ k l. f (p + k) (omega arith)) in
      and_both (four_within n c 0 && four_within n c 4 && four_within n c 8) _
      (and_both (four_within n c 0 && four_within n c 4) _
      (and_both (four_within n c 0) _ (four-from 0 (omega arith)) (four-from 4 (omega arith))) (four-from 8 (omega arith))) (four-from 12 (omega arith))

  -- what a valid configuration passes
  pub valid_is_paired : Valid n c → pairs_ok c ≡ true
  valid_is_paired v = all-pairs c (valid_pair c n v)

  pub valid_is_inside : Valid n c → inside ≡ true
  unfolding read_set write_set
  valid_is_inside v =
      inside_all (λ k l. either (ltb k 8) (λ q. promise.member_within n (set_at c k) (v.reads.in_range k (ltb-true k 8 q)))
      (λ q. let h = ltb-false k 8 q in let z : 8 + (k - 8) ≡ k = omega arith in
      rw z at (promise.member_within n (set_at c (8 + (k - 8))) (v.writes.in_range (k - 8) (omega arith)))))

  -- and what passes is valid if its first two sets share a station
  module _ (p : 1 ≤ n) (l : n ≤ 16) (long : length c ≡ config_size) (paired : pairs_ok c ≡ true) (in_range_lem : inside ≡ true) where
    abbrev pair : (j k : ℕ) → j < 8 → k < 8 → (i : ℕ) × (member (place (read_set c) j) i ≡ true) × (member (place (write_set c) k) i ≡ true)
    pair j k h m = (promise.shares_member (place (read_set c) j) (place (write_set c) k)).0 (pairs-all c paired j k h m)

    paired_valid : shares (set_at c 0) (set_at c 8) ≡ true → Valid n c
    unfolding read_set write_set
    paired_valid e =
        let first = (promise.shares_member (set_at c 0) (set_at c 8)).0 e in
        record {
          positive = p;
          small = l;
          long = long;
          reads = record {
            packed = λ k h. let m = pair k 0 (omega arith) (omega arith) in no_gap (read_set c) k h m.0 m.1;
            some = (0, omega arith, (promise.used_member (set_at c 0)).1 (first.0, first.1));
            in_range = λ k h. λ i. promise.within_member n (set_at c k) i (all_inside in_range_lem k (omega arith));
          };
          writes = record {
            packed = λ k h. let m = pair 0 k (omega arith) (omega arith) in no_gap (write_set c) k h m.0 m.2;
            some = (0, omega arith, (promise.used_member (set_at c 8)).1 (first.0, first.2));
            in_range = λ k h. λ i. promise.within_member n (set_at c (8 + k)) i (all_inside in_range_lem (8 + k) (omega arith));
          };
          meet = λ j k h m u v. let s = pair j k h m in (s.0, rw (filled-used (set_at c j) _ u) at s.1, rw (filled-used (set_at c (8 + k)) _ v) at s.2);
        }

    pub paired_is_valid : shares (set_at c 0) (set_at c 8) ≡ valid n c
    unfolding read_set write_set
    paired_is_valid =
        same_test _ _ (λ e. (promise.valid_exactly n c).1 (paired_valid e))
        (λ e. let v = (promise.valid_exactly n c).0 e in
        let r = promise.first_used n (read_set c) v.reads in
        let w = promise.first_used n (write_set c) v.writes in
        (promise.shares_member (set_at c 0) (set_at c 8)).1 (v.meet 0 0 (omega arith) (omega arith) r w))

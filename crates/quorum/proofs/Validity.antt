-- A valid configuration, as facts about its places, and the places of a side that a set holds.
use mathlib.Core.Path.{◌≡◌, refl, ap}
use mathlib.Core.Bool.{Bool, true, false, not, cond, ◌||◌, true≢false, false≢true}
use mathlib.Core.List.{List}
use mathlib.Core.Logic.{◌↔◌, ◌⊎◌, inl, inr, ⊎_elim}
use Prim.Native.Nat.{ℕ, zero, suc, ◌+◌, ◌≤◌, ◌<◌}
use native.Mathlib.Nat.{not-suc-le-zero}
use native.Mathlib.Numerals.{add-one}
use native.Mathlib.Omega.{arith}
use lib.ListN.{length}
use Rattle.std.specs.Prelude.{Option, None, Some}
use lib.Dec.{leb, eqb}
use borrow.Author.Tests.{leb-true, le-leb, eqb-true, eqb-false, eq-eqb, not-true}
use Rattle.quorum.specs.Sets.{listed_stations, used}
use Rattle.quorum.specs.Configurations.{read_set, write_set, used_first, some_used, all_within, shares_all, all_share, validity, valid, config_size}
use Rattle.quorum.specs.Configurations.{holds_place, first_place, or_else, place_figure, is_place}
use Rattle.quorum.specs.Promise.{LiesIn, Side, Valid}
use Rattle.basics.proofs.Tests.{◌also◌, clash, and_left, and_right, and_both, implies, implied, or_cases, either}
use Rattle.basics.proofs.Tests.{all_true, true-all, all-below, below_all, any_below_lem, below-any, below_suc}
use Rattle.quorum.proofs.Members.{holds-member, member-holds, shares_members, within_members}

or_swap : (a b : Bool) → (a || not b) ≡ true → b ≡ true → a ≡ true
or_swap a b e h = or_cases a (not b) e (λ p. p) (λ q. clash h (not-true b q))

swap_or : (a b : Bool) → (b ≡ true → a ≡ true) → (a || not b) ≡ true
swap_or true b h = refl
swap_or false true h = h refl
swap_or false false h = refl

-- ---- the tests of a side and of a configuration, and their facts
side_facts : (n : ℕ) (side : ℕ → ℕ) → used_first side ≡ true → some_used side ≡ true → all_within n side ≡ true → Side n side
unfolding used_first some_used all_within
side_facts n side p q r =
    record {
      packed = λ k l. or_swap _ _ (all-below _ 7 p k l);
      some = any_below_lem _ 8 q;
      in_range = λ k l. (within_members n (side k)).0 (all-below _ 8 r k l);
    }

facts_side : (n : ℕ) (side : ℕ → ℕ) → Side n side → (used_first side ≡ true) × (some_used side ≡ true) × (all_within n side ≡ true)
unfolding used_first some_used all_within
facts_side n side s = (
  below_all _ 7 (λ k l. swap_or _ _ (s.packed k l)),
  below-any _ 8 s.some.0 s.some.1 s.some.2,
  below_all _ 8 (λ k l. (within_members n (side k)).1 (s.in_range k l)),
)

pub listed_stations_lem : (n : ℕ) → (listed_stations n ≡ true) ↔ ((1 ≤ n) × (n ≤ 16))
listed_stations_lem n = (
  λ e. (leb-true 1 n (and_left _ (leb n 16) e), leb-true n 16 (and_right (leb 1 n) _ e)),
  λ h. and_both _ _ (le-leb 1 n h.0) (le-leb n 16 h.1),
)

pub valid_facts : (n : ℕ) (c : List ℕ) → valid n c ≡ true → Valid n c
unfolding valid validity all_share shares_all
valid_facts n c e =
    let t = all_true (validity n c) e in
    let stations = (listed_stations_lem n).0 t.0 in
    let u = t.1.1 in
    let v = u.1.1.1.1 in
    record {
      positive = stations.0;
      small = stations.1;
      long = eqb-true _ _ t.1.0;
      reads = side_facts n (read_set c) u.0 u.1.1.0 v.0;
      writes = side_facts n (write_set c) u.1.0 u.1.1.1.0 v.1.0;
      meet = λ i j l m p q. (shares_members (read_set c i) (write_set c j)).0
          (implies _ _ (all-below _ 8 (implies _ _ (all-below _ 8 v.1.1.0 i l) p) j m) q);
    }

pub facts_valid : (n : ℕ) (c : List ℕ) → Valid n c → valid n c ≡ true
unfolding valid validity all_share shares_all
facts_valid n c v =
    let r = facts_side n (read_set c) v.reads in
    let w = facts_side n (write_set c) v.writes in
    true-all (validity n c)
    ((listed_stations_lem n).1 (v.positive, v.small)
    also eq-eqb (length c) config_size v.long
    also r.0
    also w.0
    also r.1
    also w.1
    also r.2
    also w.2
    also below_all _ 8 (λ i l. implied _ _ (λ p. below_all _ 8 (λ j m. implied _ _ (λ q.
    (shares_members (read_set c i) (write_set c j)).1 (v.meet i j l m p q)))))
    also tt)

-- the first place of a valid side is used
pub first_used : (n : ℕ) (side : ℕ → ℕ) → Side n side → used (side 0) ≡ true
first_used n side s = go s.some.0 s.some.1 s.some.2
  where
    go : (k : ℕ) → k < 8 → used (side k) ≡ true → used (side 0) ≡ true
    go zero l e = e
    go (suc k) l e = go k (omega arith) (s.packed k (omega arith) e)

-- ---- the places that a set holds
pub place_lies : (side : ℕ → ℕ) (set k : ℕ) → holds_place side set k ≡ true → LiesIn side set k
unfolding holds_place
place_lies side set k e = (and_left _ _ e, holds-member set (side k) (and_right (used (side k)) _ e))

pub lies_place : (side : ℕ → ℕ) (set k : ℕ) → LiesIn side set k → holds_place side set k ≡ true
unfolding holds_place
lies_place side set k h = and_both _ _ h.0 (member-holds set (side k) h.1)

-- ---- the first place
first_step : (p : ℕ → Bool) (k : ℕ) → first_place p (suc k) ≡ or_else (first_place p k) (cond (p k) (Some k) None)
unfolding first_place
first_step p k = refl

-- at its start, where it goes on, and where it finds
first-start : (p : ℕ → Bool) → first_place p 0 ≡ None
unfolding first_place
first-start p = refl

first_on : (p : ℕ → Bool) (k : ℕ) → first_place p k ≡ None → p k ≡ false → first_place p (k + 1) ≡ None
first_on p k e f = rw (add-one, first_step, e, f)

first_hit : (p : ℕ → Bool) (n k : ℕ) → k < n → first_place p k ≡ None → p k ≡ true → first_place p n ≡ Some k
first_hit p zero k l e f = absurd (not-suc-le-zero l)
first_hit p (suc n) k l e f =
    either (eqb k n)
    (λ q. let h = eqb-true k n q in rw (first_step, ← h, e, f))
    (λ q. let h : k ≡ n → ⊥ = eqb-false k n q in rw (first_step, first_hit p n k (omega arith) e f))

-- the search over the numbers below n: of none does p hold, or i is the first
abbrev NoneBelow : (ℕ → Bool) → ℕ → Type 0
NoneBelow p n = (j : ℕ) → j < n → p j ≡ false

abbrev First : (ℕ → Bool) → ℕ → ℕ → Type 0
First p n i = (i < n) × (p i ≡ true) × NoneBelow p i

abbrev Scanned : (ℕ → Bool) → ℕ → Type 0
Scanned p n = ((first_place p n ≡ None) × NoneBelow p n) ⊎ ((i : ℕ) × (first_place p n ≡ Some i) × First p n i)

scan : (p : ℕ → Bool) (n : ℕ) → Scanned p n
scan p zero = inl (first-start p, λ j l. absurd (not-suc-le-zero l))
scan p (suc n) = ⊎_elim stop on (scan p n)
  where
    stop : (first_place p n ≡ None) × NoneBelow p n → Scanned p (suc n)
    stop h =
        either (p n)
        (λ e. inr (n, first_hit p (suc n) n (omega arith) h.0 e, (omega arith, e, h.1)))
        (λ e. inl (rw add-one at (first_on p n h.0 e), below_suc (λ (j : ℕ). p j ≡ false) n h.1 e))

    on : (i : ℕ) × (first_place p n ≡ Some i) × First p n i → Scanned p (suc n)
    on r = let l = r.2.0 in inr (r.0, rw (first_step, r.1), (omega arith, r.2.1, r.2.2))

pub first_exactly : (p : ℕ → Bool) (n k : ℕ) → (first_place p n ≡ Some k) ↔ First p n k
first_exactly p n k = (
  λ e. ⊎_elim (λ h. let z : ◌≡◌ {A = ℕ} 0 1 = cc h.0 in absurd (omega arith)) (λ r. let q : r.0 ≡ k = cc r.1 in rw q at r.2) (scan p n),
  λ f. first_hit p n k f.0 (⊎_elim (λ h. h.0) (λ r. clash r.2.1 (f.2 r.0 r.2.0)) (scan p k)) f.1,
)

pub first_nowhere : (p : ℕ → Bool) (n : ℕ) → (first_place p n ≡ None) ↔ NoneBelow p n
first_nowhere p n = (
  λ e. ⊎_elim (λ h. h.1) (λ r. let z : ◌≡◌ {A = ℕ} 0 1 = cc r.1 in absurd (omega arith)) (scan p n),
  λ e. ⊎_elim (λ h. h.0) (λ r. clash r.2.1 (e r.0 r.2.0)) (scan p n),
)

-- ---- whether there is a place, and its figure
pub no_place : (place : Option ℕ) → (is_place place ≡ false) ↔ (place ≡ None)
no_place (Some k) = (λ e. absurd (true≢false e), λ e. let z : ◌≡◌ {A = ℕ} 0 1 = cc e in absurd (omega arith))
no_place None = (λ _. refl, λ _. refl)

pub a_place : (place : Option ℕ) → (is_place place ≡ true) ↔ ((k : ℕ) × (place ≡ Some k))
a_place (Some k) = (λ _. (k, refl), λ _. refl)
a_place None = (λ e. absurd (false≢true e), λ s. let z : ◌≡◌ {A = ℕ} 0 1 = cc s.1 in absurd (omega arith))

pub figure_at : (place : Option ℕ) (k : ℕ) → (place_figure place ≡ suc k) ↔ (place ≡ Some k)
unfolding place_figure
figure_at (Some j) k = (λ e. let q : j ≡ k = omega (arith, e) in ap Some q, λ e. let q : j ≡ k = cc e in omega (arith, q))
figure_at None k = (λ e. absurd (omega (arith, e)), λ e. let z : ◌≡◌ {A = ℕ} 0 1 = cc e in absurd (omega arith))

pub figure_nowhere : (place : Option ℕ) → (place_figure place ≡ 0) ↔ (place ≡ None)
unfolding place_figure
figure_nowhere (Some j) = (λ e. absurd (omega (arith, e)), λ e. let z : ◌≡◌ {A = ℕ} 0 1 = cc e in absurd (omega arith))
figure_nowhere None = (λ _. refl, λ _. refl)

pub figure_place : (place : Option ℕ) → (1 ≤ place_figure place) ↔ (is_place place ≡ true)
unfolding place_figure
figure_place (Some k) = (λ _. refl, λ _. omega arith)
figure_place None = (λ l. absurd (omega arith), λ e. absurd (false≢true e))

pub figure_none : (place : Option ℕ) → (place_figure place ≡ 0) ↔ (is_place place ≡ false)
unfolding place_figure
figure_none (Some k) = (λ e. absurd (omega (arith, e)), λ e. absurd (true≢false e))
figure_none None = (λ _. refl, λ _. refl)

pub first_same : (p q : ℕ → Bool) (n : ℕ) → ((k : ℕ) → k < n → p k ≡ q k) → first_place p n ≡ first_place q n
unfolding first_place
first_same p q zero h = refl
first_same p q (suc k) h = rw (first_same p q k (λ j l. h j (omega arith)), h k (omega arith))

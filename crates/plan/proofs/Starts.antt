-- Starts of an order: their stations, and the first that passes a test.
use mathlib.Core.Path.{◌≡◌, refl, sym, ap, ◌∙◌}
use mathlib.Core.Bool.{Bool, true, false, ◌||◌}
use mathlib.Core.List.{List, [], ◌∷◌}
use mathlib.Core.Logic.{◌↔◌}
use Prim.Native.Nat.{ℕ, zero, suc, ◌≤◌, ◌<◌}
use native.Mathlib.Nat.{not-suc-le-zero}
use native.Mathlib.Omega.{arith}
use lib.Dec.{eqb, leb}
use lib.ListN.{length, take, get_or}
use Rattle.std.specs.Prelude.{Option}
use lib.Seq.{take_all}
use borrow.Author.Tests.{eqb-true, eq-eqb, leb-true, leb-false}
use Rattle.basics.specs.Tests.{Some}
use Rattle.basics.proofs.Tests.{clash, either, fails, or_left, or_right, or_cases}
use Rattle.basics.proofs.Listing.{listing}
use Rattle.quorum.specs.Sets.{member, join}
use Rattle.quorum.specs.Configurations.{place_figure}
use Rattle.quorum.specs.Promise.{◌⊆◌}
use Rattle.quorum.proofs.Promise.{promise}
use Rattle.plan.specs.Starts.{among, joined, rising, start, first_start, Starts}

-- ---- stations that join one after the other
or_none : (b : Bool) → b ≡ (b || false)
or_none true = refl
or_none false = refl

or_three : (a b c : Bool) → ((a || b) || c) ≡ (a || (b || c))
or_three true b c = refl
or_three false b c = refl

member-joined : (order : List ℕ) (a i : ℕ) → ((s : ℕ) → among order s ≡ true → s < 16) → member (joined a order) i ≡ (member a i || among order i)
member-joined [] a i few = or_none (member a i)
member-joined (s ∷ order) a i few =
    member-joined order (join a s) i (λ k m. few k (or_right (eqb k s) (among order k) m))
    ∙ ap (λ b. b || among order i) (promise.member_join a i s (few s (or_left (eqb s s) (among order s) (eq-eqb s s refl))))
    ∙ or_three (member a i) (eqb i s) (among order i)

pub member_of : (order : List ℕ) (i : ℕ) → ((s : ℕ) → among order s ≡ true → s < 16) → member (joined 0 order) i ≡ among order i
member_of order i few = member-joined order 0 i few ∙ ap (λ b. b || among order i) (promise.member_empty i)

-- ---- the stations of a start
-- among the first k of a list is what stands at a place below k
among_first : (order : List ℕ) (k s : ℕ) → (among (take k order) s ≡ true) ↔ Some (length order) (λ j. (j < k) × (get_or order j 0 ≡ s))
among_first [] zero s = (λ e. clash e refl, λ p. absurd (not-suc-le-zero p.1))
among_first [] (suc k) s = (λ e. clash e refl, λ p. absurd (not-suc-le-zero p.1))
among_first (x ∷ order) zero s = (λ e. clash e refl, λ p. absurd (not-suc-le-zero p.2.0))
among_first (x ∷ order) (suc k) s = (
  λ e. or_cases (eqb s x) (among (take k order) s) e
      (λ q. (0, omega arith, (omega arith, sym (eqb-true s x q))))
      (λ m. let p = (among_first order k s).0 m in let l = p.1 in let h = p.2.0 in (suc p.0, omega arith, (omega arith, p.2.1))),
  λ p. back (among_first order k s).1 p.0 p.1 p.2.0 p.2.1,
)
  where
    back : (Some (length order) (λ j. (j < k) × (get_or order j 0 ≡ s)) → among (take k order) s ≡ true)
        → (j : ℕ) → j < suc (length order) → j < suc k → get_or (x ∷ order) j 0 ≡ s → (eqb s x || among (take k order) s) ≡ true
    back rest zero l h e = or_left (eqb s x) (among (take k order) s) (eq-eqb s x (sym e))
    back rest (suc j) l h e = or_right (eqb s x) (among (take k order) s) (rest (j, omega arith, (omega arith, e)))

module _ (set : ℕ) where
  abbrev order : List ℕ
  order = rising set

  abbrev Placed : ℕ → ℕ → Type 0
  Placed k s = Some (length order) (λ j. (j < k) × (get_or order j 0 ≡ s))

  placed : (k s : ℕ) → Placed k s → (s < 16) × (member set s ≡ true)
  placed k s p = let x = (listing (member set) 16).only p.0 p.1 in rw p.2.1 at x

  pub has : (k s : ℕ) → (member (start order k) s ≡ true) ↔ Placed k s
  has k s =
      let low : (i : ℕ) → among (take k order) i ≡ true → i < 16 = λ i m.
      (placed k i ((among_first order k i).0 m)).0 in
      let e = member_of (take k order) s low in
      (λ m. (among_first order k s).0 (sym e ∙ m), λ p. e ∙ (among_first order k s).1 p)

  -- who stands in the order is in the set
  pub in_set_lem : (k s : ℕ) → among (take k order) s ≡ true → member set s ≡ true
  in_set_lem k s m = (placed k s ((among_first order k s).0 m)).1

  -- it is a part of the set, and of every longer start
  pub start-part : (k : ℕ) → start order k ⊆ set
  start-part k s m = (placed k s ((has k s).0 m)).1

  pub start_more : (j k : ℕ) → j ≤ k → start order j ⊆ start order k
  start_more j k l s m = let p = (has j s).0 m in let h = p.2.0 in (has k s).1 (p.0, p.1, (omega arith, p.2.1))

  -- the longest has them all
  pub start_whole : (s : ℕ) → s < 16 → member set s ≡ true → member (start order (length order)) s ≡ true
  start_whole s l m = let p = (listing (member set) 16).every s (l, m) in (has (length order) s).1 (p.0, p.1, (p.1, p.2))

-- ---- the first start that passes a test
module _ (test : ℕ → Bool) (order : List ℕ) where
  abbrev first : Option ℕ
  first = first_start test order

  pub passes_first : (k : ℕ) → 1 ≤ k → (place_figure first ≡ k)
      ↔ ((k ≤ length order) × (test (start order k) ≡ true) × ((j : ℕ) → 1 ≤ j → j < k → test (start order j) ≡ false))
  passes_first zero l = absurd (not-suc-le-zero l)
  passes_first (suc k) l = (
    λ e. let p = (promise.first_exactly _ (length order) k).0 ((promise.figure_at first k).0 e) in (p.0, p.1, λ j. sooner j p.2),
    λ h. (promise.figure_at first k).1 ((promise.first_exactly _ (length order) k).1 (h.0, h.1, λ j m. h.2 (suc j) (omega arith) (omega arith))),
  )
    where
      sooner : (j : ℕ) → ((i : ℕ) → i < k → test (start order (suc i)) ≡ false) → 1 ≤ j → j < suc k → test (start order j) ≡ false
      sooner zero h m b = absurd (not-suc-le-zero m)
      sooner (suc j) h m b = h j (omega arith)

  pub none_passes : (place_figure first ≡ 0) ↔ ((k : ℕ) → 1 ≤ k → k ≤ length order → test (start order k) ≡ false)
  none_passes = (
    λ e k. none k ((promise.first_nowhere _ (length order)).0 ((promise.figure_nowhere first).0 e)),
    λ h. (promise.figure_nowhere first).1 ((promise.first_nowhere _ (length order)).1 (λ k l. h (suc k) (omega arith) l)),
  )
    where
      none : (k : ℕ) → ((i : ℕ) → i < length order → test (start order (suc i)) ≡ false) → 1 ≤ k → k ≤ length order → test (start order k) ≡ false
      none zero h m b = absurd (not-suc-le-zero m)
      none (suc k) h m b = h k b

  -- of a test that nothing passes with no station
  module _ (empty : test 0 ≡ false) where
    abbrev count : ℕ
    count = place_figure first

    -- every start is one of the stations that there are
    passing-start : (k : ℕ) → test (start order k) ≡ true → (j : ℕ) × (1 ≤ j) × (j ≤ length order) × (j ≤ k) × (test (start order j) ≡ true)
    passing-start zero e = clash e empty
    passing-start (suc k) e =
        either (leb (suc k) (length order))
        (λ l. let q = leb-true (suc k) (length order) l in (suc k, omega arith, q, omega arith, e))
        (λ l. let q = leb-false (suc k) (length order) l in longest (length order) refl (omega arith) (rw (take_all (suc k) order (omega arith)) at e))
      where
        longest : (m : ℕ) → length order ≡ m → m ≤ suc k → test (joined 0 order) ≡ true
            → (j : ℕ) × (1 ≤ j) × (j ≤ length order) × (j ≤ suc k) × (test (start order j) ≡ true)
        longest zero z l h = clash h (rw (none_there order z) empty)
          where
            none_there : (o : List ℕ) → length o ≡ 0 → joined 0 o ≡ 0
            none_there [] q = refl
            none_there (x ∷ o) q = absurd (omega arith)
        longest (suc m) z l h = (suc m, omega arith, omega arith, l, rw (take_all (suc m) order (omega arith)) h)

    never : count ≡ 0 → (k : ℕ) → test (start order k) ≡ false
    never z k = fails (test (start order k)) (λ e. let p = passing-start k e in clash p.4 (none_passes.0 z p.0 p.1 p.2))

    pub at_first : 1 ≤ count → test (start order count) ≡ true
    at_first l = ((passes_first count l).0 refl).1

    pub before_first : (k : ℕ) → k < count → test (start order k) ≡ false
    before_first zero l = empty
    before_first (suc k) l = ((passes_first count (omega arith)).0 refl).2 (suc k) (omega arith) l

    pub in_order : count ≤ length order
    in_order = go count refl
      where
        go : (m : ℕ) → count ≡ m → count ≤ length order
        go zero e = omega arith
        go (suc m) e = ((passes_first count (omega arith)).0 refl).0

    -- a start that passes is as long as the first, or longer
    pub passes_late : (k : ℕ) → test (start order k) ≡ true → (1 ≤ count) × (count ≤ k)
    passes_late k e = go count refl
      where
        go : (m : ℕ) → count ≡ m → (1 ≤ count) × (count ≤ k)
        go zero z = clash e (never z k)
        go (suc m) z =
            either (leb count k) (λ l. (omega arith, leb-true count k l)) (λ l. clash e (before_first k (leb-false count k l)))

pub starts : Starts
starts =
    record {
      rises = λ set. listing (member set) 16;
      has = has;
      passes_first = passes_first;
      none_passes = none_passes;
    }

-- Laws of the votes of station sets, and of the smallest sets that reach a threshold.
use mathlib.Core.Path.{◌≡◌, refl, sym, ap, ◌∙◌}
use mathlib.Core.Bool.{Bool, true, false, not, cond, ◌&&◌, and-true}
use mathlib.Core.List.{List}
use mathlib.Core.Logic.{◌↔◌}
use Prim.Native.Nat.{ℕ, zero, suc, ◌+◌, ◌^◌, ◌≤◌, ◌<◌}
use native.Mathlib.Nat.{not-suc-le-zero}
use native.Mathlib.Omega.{arith}
use lib.Dec.{ltb, eqb}
use lib.ListN.{length, get_or, get_or-eq_default}
use borrow.Author.Tests.{ltb-true, ltb-false, lt-ltb, leb-true, le-leb, eqb-true, eqb-false, eq-eqb, ne_eqb, not-true, not-false}
use Rattle.basics.specs.Tests.{any_below, Some}
use Rattle.basics.proofs.Tests.{clash, either, fails, and_left, and_right, and_both, implies, implied, all-below, below_all, any_below_lem, below-any}
use Rattle.quorum.specs.Sets.{member, within, minus, remove, full}
use Rattle.quorum.specs.Promise.{◌⊆◌}
use Rattle.quorum.proofs.Promise.{promise}
use Rattle.votes.specs.Votes.{sum_below, votes_of, total, reaches, smallest}
use Rattle.votes.specs.Claims.{Reaches, Smallest}

-- ---- sums
pub sum_same : (f g : ℕ → ℕ) (n : ℕ) → ((i : ℕ) → i < n → f i ≡ g i) → sum_below f n ≡ sum_below g n
unfolding sum_below
sum_same f g zero e = refl
sum_same f g (suc n) e = rw (sum_same f g n (λ i l. e i (omega arith)), e n (omega arith))

pub sum_zero : (f : ℕ → ℕ) (n : ℕ) → ((i : ℕ) → i < n → f i ≡ 0) → sum_below f n ≡ 0
unfolding sum_below
sum_zero f zero h = refl
sum_zero f (suc n) h = omega (arith, sum_zero f n (λ i l. h i (omega arith)), h n (omega arith))

sum_grows : (f g : ℕ → ℕ) (n : ℕ) → ((i : ℕ) → i < n → f i ≤ g i) → sum_below f n ≤ sum_below g n
unfolding sum_below
sum_grows f g zero h = omega arith
sum_grows f g (suc n) h = omega (arith, sum_grows f g n (λ i l. h i (omega arith)), h n (omega arith))

-- two sums that share the addends of a third
pub sum_shared : (f g h : ℕ → ℕ) (n : ℕ) → ((i : ℕ) → i < n → f i + g i ≤ h i) → sum_below f n + sum_below g n ≤ sum_below h n
unfolding sum_below
sum_shared f g h zero e = omega arith
sum_shared f g h (suc n) e = omega (arith, sum_shared f g h n (λ i l. e i (omega arith)), e n (omega arith))

-- two sums that differ in one addend
pub sum_but_one : (f g : ℕ → ℕ) (n k x : ℕ) → k < n → ((i : ℕ) → i < n → (i ≡ k → ⊥) → f i ≡ g i) → f k + x ≡ g k
    → sum_below f n + x ≡ sum_below g n
unfolding sum_below
sum_but_one f g zero k x l same at-k = absurd (not-suc-le-zero l)
sum_but_one f g (suc n) k x l same at-k =
    either (eqb k n)
    (λ e. omega (arith, sum_same f g n (λ i m. same i (omega arith) (λ q. omega (arith, eqb-true k n e))), rw (eqb-true k n e) at at-k))
    (λ e.
    let other : k ≡ n → ⊥ = eqb-false k n e in
    omega (arith, sum_but_one f g n k x (omega arith) (λ i m. same i (omega arith)) at-k, same n (omega arith) (λ q. other (sym q))))

-- ---- the votes of a set
-- a set with more stations has no fewer votes
pub votes_grow : (votes : List ℕ) (a b : ℕ) → a ⊆ b → votes_of votes a ≤ votes_of votes b
unfolding votes_of
votes_grow votes a b h = sum_grows _ _ (length votes) (λ i l. go (member a i) (member b i) (get_or votes i 0) (h i))
  where
    go : (p q : Bool) (x : ℕ) → (p ≡ true → q ≡ true) → cond p x 0 ≤ cond q x 0
    go true q x f = rw (f refl) (omega arith)
    go false q x f = omega arith

-- sets that share no station have no more votes than there are
pub apart : (votes : List ℕ) (a b : ℕ) → ((i : ℕ) → i < length votes → member a i ≡ true → member b i ≡ true → ⊥)
    → votes_of votes a + votes_of votes b ≤ total votes
unfolding votes_of total
apart votes a b h = sum_shared _ _ _ (length votes) (λ i l. go (member a i) (member b i) (get_or votes i 0) (h i l))
  where
    go : (p q : Bool) (x : ℕ) → (p ≡ true → q ≡ true → ⊥) → cond p x 0 + cond q x 0 ≤ x
    go true true x f = absurd (f refl refl)
    go true false x f = omega arith
    go false true x f = omega arith
    go false false x f = omega arith

-- the votes of a station that is left out are missing
pub left_out : (votes : List ℕ) (set i : ℕ) → member set i ≡ true → i < length votes
    → votes_of votes (remove set i) + get_or votes i 0 ≡ votes_of votes set
unfolding votes_of
left_out votes set i m l =
    sum_but_one _ _ (length votes) i (get_or votes i 0) l (λ j _ other. rw (promise.member_remove set j i, ne_eqb j i other, and-true (member set j)))
    (rw (promise.member_remove set i i, m, eq-eqb i i refl) (omega arith))

-- one that is not on the sheet has none
not_listed : (votes : List ℕ) (set i : ℕ) → length votes ≤ i → votes_of votes (remove set i) ≡ votes_of votes set
unfolding votes_of
not_listed votes set i l =
    sum_same _ _ (length votes) (λ j h. rw (promise.member_remove set j i, ne_eqb j i (λ e. omega arith), and-true (member set j)))

pub its_votes : (votes : List ℕ) (set i : ℕ) → member set i ≡ true → votes_of votes set ≡ votes_of votes (remove set i) + get_or votes i 0
its_votes votes set i m =
    either (ltb i (length votes))
    (λ e. sym (left_out votes set i m (ltb-true i (length votes) e)))
    (λ e. let beyond = ltb-false i (length votes) e in omega (arith, not_listed votes set i beyond, get_or-eq_default votes 0 beyond))

pub no_votes : (votes : List ℕ) → votes_of votes 0 ≡ 0
unfolding votes_of
no_votes votes = sum_zero _ (length votes) (λ i _. rw (promise.member_empty i))

-- two sets that reach the two thresholds share a station
pub sets_share : (votes : List ℕ) (read write a b : ℕ) → total votes < read + write → Reaches votes read a → Reaches votes write b
    → Some (length votes) (λ i. (member a i ≡ true) × (member b i ≡ true))
sets_share votes read write a b exceed reads writes =
    let shared : ℕ → Bool = λ i. member a i && member b i in
    either (any_below shared (length votes))
    (λ e. let s = any_below_lem shared (length votes) e in (s.0, s.1, (and_left _ _ s.2, and_right (member a s.0) _ s.2)))
    (λ e. absurd (omega (arith, apart votes a b (λ i l p q. clash (below-any shared (length votes) i l (and_both _ _ p q)) e))))

-- all stations have all votes
pub votes_full : (votes : List ℕ) → length votes ≤ 16 → votes_of votes (full (length votes)) ≡ total votes
unfolding votes_of total
votes_full votes few =
    sum_same _ _ (length votes) (λ i l. rw (promise.member_full (length votes) i few, lt-ltb i (length votes) l))

-- ---- smallest sets
-- the numbers below 2 ^ n are the sets of stations below n
pub in_range_lem : (n set : ℕ) → (set < 2 ^ n) ↔ ((i : ℕ) → member set i ≡ true → i < n)
unfolding within
in_range_lem n set = (λ l i. promise.within_member n set i (lt-ltb set (2 ^ n) l), λ h. ltb-true set (2 ^ n) (promise.member_within n set h))

pub smallest_exactly : (votes : List ℕ) (threshold set : ℕ) → set < 2 ^ length votes
    → (smallest votes threshold set ≡ true) ↔ Smallest votes threshold set
unfolding smallest reaches
smallest_exactly votes threshold set l = (
  λ e. let tests = all-below _ (length votes) (and_right (reaches votes threshold set) _ e) in
      record {
        in_range = (in_range_lem (length votes) set).0 l;
        enough = leb-true threshold (votes_of votes set) (and_left _ _ e);
        least = λ i m r. clash (le-leb threshold _ r) (not-true _ (implies _ _ (tests i ((in_range_lem (length votes) set).0 l i m)) m));
      },
  λ s. and_both _ _ (le-leb threshold (votes_of votes set) s.enough)
      (below_all _ (length votes) (λ i _. implied _ _ (λ m. ap not (fails _ (λ r. s.least i m (leb-true threshold _ r)))))),
)

-- the stations of a set below n
abbrev first_of : ℕ → ℕ → ℕ
first_of n set = minus set (minus set (full n))

member-first : (n set i : ℕ) → n ≤ 16 → member (first_of n set) i ≡ (member set i && ltb i n)
member-first n set i few =
    rw (promise.member_minus set (minus set (full n)) i, promise.member_minus set (full n) i, promise.member_full n i few) (go (member set i) (ltb i n))
  where
    go : (p q : Bool) → (p && not (p && not q)) ≡ (p && q)
    go true true = refl
    go true false = refl
    go false q = refl

-- the others have no votes
votes_first : (votes : List ℕ) (set : ℕ) → length votes ≤ 16 → votes_of votes (first_of (length votes) set) ≡ votes_of votes set
unfolding votes_of
votes_first votes set few =
    sum_same _ _ (length votes) (λ i l. rw (member-first (length votes) set i few, lt-ltb i (length votes) l, and-true (member set i)))

remove-within : (set i : ℕ) → remove set i ⊆ set
remove-within set i j m = and_left (member set j) _ (sym (promise.member_remove set j i) ∙ m)

module _ (votes : List ℕ) (threshold : ℕ) where
  -- a smallest set within a set
  abbrev pub Holds : ℕ → Type 0
  Holds set = (a : ℕ) × Smallest votes threshold a × (a ⊆ set)

  -- a station that the set can do without
  abbrev spare : ℕ → ℕ → Bool
  spare set i = member set i && reaches votes threshold (remove set i)

  -- with no such station it is a smallest set
  none_spare : (set : ℕ) → ((i : ℕ) → member set i ≡ true → i < length votes) → Reaches votes threshold set
      → any_below (spare set) (length votes) ≡ false → Smallest votes threshold set
  unfolding reaches
  none_spare set ranged enough e =
      record {
        in_range = ranged;
        enough = enough;
        least = λ i m r. clash (below-any (spare set) (length votes) i (ranged i m) (and_both _ _ m (le-leb threshold _ r))) e;
      }

  -- while there is one, leave it out: the number falls
  leave_out : (bound set : ℕ) → set < bound → ((i : ℕ) → member set i ≡ true → i < length votes) → Reaches votes threshold set → Holds set
  unfolding reaches
  leave_out zero set l ranged enough = absurd (not-suc-le-zero l)
  leave_out (suc bound) set l ranged enough =
      either (any_below (spare set) (length votes))
      (λ e. let s = any_below_lem (spare set) (length votes) e in
      let i = s.0 in
      let less = promise.remove_less set i (and_left (member set i) _ s.2) in
      let still = leb-true threshold _ (and_right (member set i) _ s.2) in
      let h = leave_out bound (remove set i) (omega arith) (λ j m. ranged j (remove-within set i j m)) still in
      (h.0, h.1, λ j m. remove-within set i j (h.2 j m)))
      (λ e. (set, none_spare set ranged enough e, λ j m. m))

  -- a set that reaches the threshold holds a smallest set
  pub holds-smallest : (set : ℕ) → length votes ≤ 16 → Reaches votes threshold set → Holds set
  holds-smallest set few enough = (h.0, h.1, λ i m. and_left (member set i) _ (both i (h.2 i m)))
    where
      first : ℕ
      first = first_of (length votes) set

      both : (i : ℕ) → member first i ≡ true → (member set i && ltb i (length votes)) ≡ true
      both i m = sym (member-first (length votes) set i few) ∙ m

      h : Holds first
      h =
          leave_out (suc first) first (omega arith) (λ i m. ltb-true i (length votes) (and_right (member set i) _ (both i m)))
          (rw (votes_first votes set few) enough)

  -- no set within a smallest set reaches the threshold but itself
  pub no_less : (a b : ℕ) → Smallest votes threshold a → b ⊆ a → Reaches votes threshold b → b ≡ a
  no_less a b s lies enough = promise.same_members b a lies (λ i m. not-false _ (fails _ (λ e. s.least i m (without i (not-true _ e)))))
    where
      without : (i : ℕ) → member b i ≡ false → Reaches votes threshold (remove a i)
      without i e =
          let other : (j : ℕ) → member b j ≡ true → not (eqb j i) ≡ true = λ j m. ap not (ne_eqb j i (λ q. clash m (rw q e))) in
          omega (arith, votes_grow votes b (remove a i) (λ j m. promise.member_remove a j i ∙ and_both _ _ (lies j m) (other j m)))

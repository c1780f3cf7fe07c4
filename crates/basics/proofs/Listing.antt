-- The numbers below a bound that pass a test are listed: exactly these, each once, rising.
use mathlib.Core.Path.{◌≡◌, refl, sym, ap, ◌∙◌}
use mathlib.Core.Bool.{Bool, true, false, cond, ◌||◌}
use mathlib.Core.List.{List, [], ◌∷◌, ◌++◌, append-nil}
use mathlib.Core.Logic.{◌↔◌}
use Prim.Native.Nat.{ℕ, zero, suc, ◌+◌, ◌≤◌, ◌<◌}
use native.Mathlib.Nat.{not-suc-le-zero, le_antisymm}
use native.Mathlib.Numerals.{add-one}
use native.Mathlib.Omega.{arith}
use lib.Dec.{ltb, eqb}
use lib.ListN.{length, get_or, length-append, get_or-append, get_or-eq_default}
use lib.Seq.{get_or-append_seam}
use borrow.Author.Tests.{ltb-true, ltb-false, eqb-true, eqb-false}
use Rattle.basics.specs.Tests.{any_below, Some}
use Rattle.basics.specs.Listing.{passing, Listing}
use Rattle.basics.proofs.Tests.{clash, by_cases, either, below_suc}

pub same_listing : (P Q : ℕ → Type 0) (l : List ℕ) → ((x : ℕ) → P x ↔ Q x) → Listing P l → Listing Q l
same_listing P Q l same r =
    record { only = λ k h. (same _).0 (r.only k h); every = λ x q. r.every x ((same x).1 q); rises = r.rises }

-- ---- the numbers that pass a test
module _ (test : ℕ → Bool) where
  abbrev pub Passes : ℕ → ℕ → Type 0
  Passes n x = (x < n) × (test x ≡ true)

  -- the next number passes
  one_more : (n : ℕ) (l : List ℕ) → test n ≡ true → Listing (Passes n) l → Listing (Passes (suc n)) (l ++ (n ∷ []))
  one_more n l t r =
      record {
        only = λ k h. below_suc (λ (i : ℕ). Passes (suc n) (get_or more i 0)) (length l)
            (λ i m. let p = r.only i m in let q = p.0 in rw (before i m) (omega arith, p.1)) (rw last (omega arith, t)) k (rw long at h);
        every = λ x p. below_suc (λ (i : ℕ). test i ≡ true → Some (length more) (λ k. get_or more k 0 ≡ i)) n
            (λ i m u. let s = r.every i (m, u) in let q = s.1 in (s.0, omega (arith, long), before s.0 q ∙ s.2))
            (λ u. (length l, omega (arith, long), last)) x p.0 p.1;
        rises = λ j k m h. below_suc (λ (i : ℕ). j < i → get_or more j 0 < get_or more i 0) (length l)
            (λ i q u. rw (before i q, before j (omega arith)) (r.rises j i u q)) (λ u. rw (before j u, last) (r.only j u).0) k (rw long at h) m;
      }
    where
      more : List ℕ
      more = l ++ (n ∷ [])

      long : length more ≡ suc (length l)
      long = length-append l (n ∷ []) ∙ add-one (length l)

      before : (k : ℕ) → k < length l → get_or more k 0 ≡ get_or l k 0
      before k h = get_or-append l (n ∷ []) 0 k h

      last : get_or more (length l) 0 ≡ n
      last = get_or-append_seam l n [] 0

  -- it does not
  no_more : (n : ℕ) (l : List ℕ) → test n ≡ false → Listing (Passes n) l → Listing (Passes (suc n)) (l ++ [])
  no_more n l f r = rw (append-nil l) (same_listing (Passes n) (Passes (suc n)) l both r)
    where
      both : (x : ℕ) → Passes n x ↔ Passes (suc n) x
      both x = (
        λ p. let q = p.0 in (omega arith, p.1),
        λ p. (below_suc (λ (i : ℕ). test i ≡ true → i < n) n (λ i m t. m) (λ t. clash t f) x p.0 p.1, p.1),
      )

  pub listing : (n : ℕ) → Listing (Passes n) (passing test n)
  unfolding passing
  listing zero =
      record {
        only = λ k h. absurd (not-suc-le-zero h);
        every = λ x p. absurd (not-suc-le-zero p.0);
        rises = λ j k m h. absurd (not-suc-le-zero h);
      }
  listing (suc n) =
      by_cases (λ (b : Bool). Listing (Passes (suc n)) (passing test n ++ cond b (n ∷ []) [])) (test n)
      (λ t. one_more n (passing test n) t (listing n)) (λ f. no_more n (passing test n) f (listing n))

  -- one number more
  passing_step : (n : ℕ) → length (passing test (suc n)) ≡ length (passing test n) + cond (test n) 1 0
  unfolding passing
  passing_step n =
      length-append (passing test n) (cond (test n) (n ∷ []) [])
      ∙ ap (λ x. length (passing test n) + x) (by_cases (λ (b : Bool). length (cond b (n ∷ []) []) ≡ cond b 1 0) (test n) (λ _. refl) (λ _. refl))

  -- they are not more than the bound
  pub passing_few : (n : ℕ) → length (passing test n) ≤ n
  unfolding passing
  passing_few zero = omega arith
  passing_few (suc n) =
      rw (passing_step n)
      (by_cases (λ (b : Bool). length (passing test n) + cond b 1 0 ≤ suc n) (test n) (λ _. omega (arith, passing_few n)) (λ _. omega (arith, passing_few n)))

-- equal tests pass the same numbers
pub passing_same : (p q : ℕ → Bool) (n : ℕ) → ((x : ℕ) → p x ≡ q x) → passing p n ≡ passing q n
unfolding passing
passing_same p q zero e = refl
passing_same p q (suc n) e = rw (passing_same p q n e, e n)

-- ---- how many numbers pass
-- with a test that passes more often there are not fewer
pub passing_grows : (p q : ℕ → Bool) (n : ℕ) → ((x : ℕ) → p x ≡ true → q x ≡ true) → length (passing p n) ≤ length (passing q n)
unfolding passing
passing_grows p q zero h = omega arith
passing_grows p q (suc n) h = rw (passing_step p n, passing_step q n) (go (p n) (q n) (h n) (passing_grows p q n h))
  where
    go : (a b : Bool) → (a ≡ true → b ≡ true) → length (passing p n) ≤ length (passing q n)
        → length (passing p n) + cond a 1 0 ≤ length (passing q n) + cond b 1 0
    go true b f before = rw (f refl) (omega arith)
    go false true f before = omega arith
    go false false f before = omega arith

-- no more pass one of two tests than pass the one and the other
passing_either : (p q : ℕ → Bool) (n : ℕ) → length (passing (λ x. p x || q x) n) ≤ length (passing p n) + length (passing q n)
unfolding passing
passing_either p q zero = omega arith
passing_either p q (suc n) =
    rw (passing_step (λ x. p x || q x) n, passing_step p n, passing_step q n) (go (p n) (q n) (passing_either p q n))
  where
    go : (a b : Bool) → length (passing (λ x. p x || q x) n) ≤ length (passing p n) + length (passing q n)
        → length (passing (λ x. p x || q x) n) + cond (a || b) 1 0 ≤ (length (passing p n) + cond a 1 0) + (length (passing q n) + cond b 1 0)
    go true true before = omega arith
    go true false before = omega arith
    go false true before = omega arith
    go false false before = omega arith

-- one number is one number, and passes below no bound that it does not reach
passing_one : (a n : ℕ) → (length (passing (λ x. eqb a x) n) ≤ 1) × (n ≤ a → length (passing (λ x. eqb a x) n) ≡ 0)
unfolding passing
passing_one a zero = (omega arith, λ _. refl)
passing_one a (suc n) =
    let before = passing_one a n in
    rw (passing_step (λ x. eqb a x) n)
    (by_cases (λ (b : Bool). (length (passing (λ x. eqb a x) n) + cond b 1 0 ≤ 1) × (suc n ≤ a → length (passing (λ x. eqb a x) n) + cond b 1 0 ≡ 0)) (eqb a n)
    (λ e. let same = eqb-true a n e in (omega (arith, before.1 (omega arith)), λ l. absurd (omega arith)))
    (λ e. (omega (arith, before.0), λ l. omega (arith, before.1 (omega arith)))))

-- a test that nothing passes
passing_none : (n : ℕ) → length (passing (λ x. false) n) ≤ 0
unfolding passing
passing_none zero = omega arith
passing_none (suc n) = omega (arith, passing_step (λ x. false) n, passing_none n)

-- the numbers at so many places are not more than the places
pub passing-places : (side : ℕ → ℕ) (b n : ℕ) → length (passing (λ x. any_below (λ k. eqb (side k) x) b) n) ≤ b
unfolding any_below
passing-places side zero n = passing_none n
passing-places side (suc b) n =
    let p : ℕ → Bool = λ x. any_below (λ k. eqb (side k) x) b in
    omega (arith, passing_either p (λ x. eqb (side b) x) n, passing-places side b n, (passing_one (side b) n).0)

-- ---- rising lists
module _ (P : ℕ → Type 0) (l : List ℕ) (listed : Listing P l) where
  rises_weakly : (i j : ℕ) → i ≤ j → j < length l → get_or l i 0 ≤ get_or l j 0
  rises_weakly i j m h =
      either (eqb i j)
      (λ e. rw (eqb-true i j e) (omega arith))
      (λ e. let other : i ≡ j → ⊥ = eqb-false i j e in omega (arith, listed.rises i j (omega arith) h))

  -- rising numbers of the list have rising indices, so the one after k others is at k or behind
  pub at_or_behind : (bound : ℕ) (x : ℕ → ℕ) → ((k : ℕ) → k < bound → P (x k)) → ((j k : ℕ) → j < k → k < bound → x j < x k)
      → (k i : ℕ) → k < bound → i < length l → get_or l i 0 ≡ x k → k ≤ i
  at_or_behind bound x is rise zero i m h e = omega arith
  at_or_behind bound x is rise (suc k) i m h e =
      let before = listed.every (x k) (is k (omega arith)) in
      let j = before.0 in
      let ih = at_or_behind bound x is rise k j (omega arith) before.1 before.2 in
      let less = rise k (suc k) (omega arith) m in
      either (ltb j i)
      (λ q. omega (arith, ltb-true j i q))
      (λ q. absurd (omega (arith, before.2, rises_weakly i j (ltb-false j i q) before.1)))

-- two lists of the same numbers: neither has a greater number at a place, and neither is shorter
module _ (P : ℕ → Type 0) where
  no_greater : (l m : List ℕ) → Listing P l → Listing P m → (k : ℕ) → k < length l → (k < length m) × (get_or m k 0 ≤ get_or l k 0)
  no_greater l m a b k h =
      let at = b.every (get_or l k 0) (a.only k h) in
      let i : at.0 < length m = at.1 in
      let behind = at_or_behind P m b (length l) (λ j. get_or l j 0) a.only a.rises k at.0 h i at.2 in
      (omega arith, omega (arith, rises_weakly P m b k at.0 behind i, at.2))

  -- so they are one
  pub same_numbers : (l m : List ℕ) → Listing P l → Listing P m → (k : ℕ) → get_or l k 0 ≡ get_or m k 0
  same_numbers l m a b k =
      either (ltb k (length l))
      (λ e. let there = no_greater l m a b k (ltb-true k (length l) e) in le_antisymm (no_greater m l b a k there.0).1 there.1)
      (λ e. let past = ltb-false k (length l) e in
      either (ltb k (length m))
      (λ d. let there = (no_greater m l b a k (ltb-true k (length m) d)).0 in absurd (omega arith))
      (λ d. get_or-eq_default l 0 past ∙ sym (get_or-eq_default m 0 (ltb-false k (length m) d))))

-- Chains of refusals and lists of needs: the number of a chain whose tests decide the needs is the one that the needs give.
use mathlib.Core.Path.{◌≡◌, refl, sym, ◌∙◌}
use mathlib.Core.Bool.{Bool, true, false, cond}
use mathlib.Core.List.{List, [], ◌∷◌}
use mathlib.Core.Logic.{◌↔◌, inl, inr}
use Prim.Native.Nat.{ℕ, ◌≤◌, ◌<◌}
use native.Mathlib.Omega.{arith}
use Rattle.basics.proofs.Tests.{clash}
use Rattle.rules.specs.Rules.{Chain, first}
use Rattle.rules.specs.Needs.{Needs, Gets, Hold, Fails, numbers, Rise}

-- each test has the number of its need, and fails exactly if the need holds, where those before it do
abbrev pub Decides : Chain → Needs → Type 0
Decides [] [] = Unit {0}
Decides [] (y ∷ needs) = ⊥
Decides (x ∷ l) [] = ⊥
Decides (x ∷ l) (y ∷ needs) = (x.1 ≡ y.0) × ((x.0 ≡ false) ↔ y.1) × (y.1 → Decides l needs)

-- every number has P, and none is 0
abbrev pub Listed : (ℕ → Type 0) → List ℕ → Type 0
Listed P [] = Unit {0}
Listed P (k ∷ rest) = (1 ≤ k) × P k × Listed P rest

-- ---- the number of a chain
-- a test that fails gives no number, one that applies gives its own
pub first_fails : (x : Bool × ℕ) (l : Chain) → x.0 ≡ false → first (x ∷ l) ≡ first l
unfolding first
first_fails x l e = rw e

pub first_applies : (x : Bool × ℕ) (l : Chain) → x.0 ≡ true → first (x ∷ l) ≡ x.1
unfolding first
first_applies x l e = rw e

pub gets : (l : Chain) (needs : Needs) → Decides l needs → Gets needs (first l)
unfolding first
gets [] [] d = refl
gets [] (y ∷ needs) d = absurd d
gets (x ∷ l) [] d = absurd d
gets (x ∷ l) (y ∷ needs) d = go x.0 refl (λ h. gets l needs (d.2 h))
  where
    go : (b : Bool) → x.0 ≡ b → (y.1 → Gets needs (first l)) → Gets (y ∷ needs) (cond b x.1 (first l))
    go true e f = inl (λ h. clash e (d.1.1 h), d.0)
    go false e f = let h = d.1.0 e in inr (h, f h)

-- the needs give one number
pub one_number : (needs : Needs) (j k : ℕ) → Gets needs j → Gets needs k → j ≡ k
one_number [] j k p q = p ∙ sym q
one_number (y ∷ needs) j k (inl p) (inl q) = p.1 ∙ sym q.1
one_number (y ∷ needs) j k (inl p) (inr q) = absurd (p.0 q.0)
one_number (y ∷ needs) j k (inr p) (inl q) = absurd (q.0 p.0)
one_number (y ∷ needs) j k (inr p) (inr q) = one_number needs j k p.1 q.1

pub exactly : (l : Chain) (needs : Needs) → Decides l needs → (k : ℕ) → (first l ≡ k) ↔ Gets needs k
exactly l needs d k = (λ e. rw e at (gets l needs d), λ g. one_number needs (first l) k (gets l needs d) g)

-- ---- 0, and the other numbers
pub gets-zero : (P : ℕ → Type 0) (needs : Needs) → Listed P (numbers needs) → Gets needs 0 ↔ Hold needs
gets-zero P [] s = (λ e. tt, λ h. refl)
gets-zero P (y ∷ needs) s = let rest = gets-zero P needs s.2 in (go rest.0, λ h. inr (h.0, rest.1 h.1))
  where
    go : (Gets needs 0 → Hold needs) → Gets (y ∷ needs) 0 → Hold (y ∷ needs)
    go f (inl p) = let e = p.1 in let l = s.0 in absurd (omega arith)
    go f (inr p) = (p.0, f p.1)

pub gets-listed : (P : ℕ → Type 0) → P 0 → (needs : Needs) → Listed P (numbers needs) → (k : ℕ) → Gets needs k → P k
gets-listed P none [] s k e = rw e none
gets-listed P none (y ∷ needs) s k (inl p) = rw p.1 s.1
gets-listed P none (y ∷ needs) s k (inr p) = gets-listed P none needs s.2 k p.1

-- a number that is not 0 is that of a need that fails
pub gets_fails : (needs : Needs) (k : ℕ) → (k ≡ 0 → ⊥) → Gets needs k → Fails needs k
gets_fails [] k h e = h e
gets_fails (y ∷ needs) k h (inl p) = inl p
gets_fails (y ∷ needs) k h (inr p) = inr (gets_fails needs k h p.1)

-- where the numbers rise, no need of a lower number fails
past : (needs : Needs) (low k : ℕ) → Rise low (numbers needs) → Fails needs k → low < k
past [] low k r f = absurd f
past (y ∷ needs) low k r (inl p) = let e = p.1 in let l = r.0 in omega arith
past (y ∷ needs) low k r (inr p) = let h = past needs y.0 k r.1 p in let l = r.0 in omega arith

pub gets-lowest : (needs : Needs) (low j k : ℕ) → Rise low (numbers needs) → Gets needs j → Fails needs k → (low < j) × (j ≤ k)
gets-lowest [] low j k r g f = absurd f
gets-lowest (y ∷ needs) low j k r (inl p) (inl q) = let e = p.1 in let h = q.1 in let l = r.0 in (omega arith, omega arith)
gets-lowest (y ∷ needs) low j k r (inl p) (inr q) =
    let e = p.1 in let h = past needs y.0 k r.1 q in let l = r.0 in (omega arith, omega arith)
gets-lowest (y ∷ needs) low j k r (inr p) (inl q) = absurd (q.0 p.0)
gets-lowest (y ∷ needs) low j k r (inr p) (inr q) =
    let h = gets-lowest needs y.0 j k r.1 p.1 q in let l = r.0 in let a = h.0 in (omega arith, h.1)

-- and the first test's number tells that it applies
pub first_tells : (x : Bool × ℕ) (l : Chain) (needs : Needs) → Decides (x ∷ l) needs → Rise 0 (numbers needs) → first (x ∷ l) ≡ x.1 → x.0 ≡ true
first_tells x l [] d r e = absurd d
first_tells x l (y ∷ needs) d r e = go x.0 refl
  where
    go : (b : Bool) → x.0 ≡ b → b ≡ true
    go true p = refl
    go false p =
        let same : first l ≡ y.0 = sym (first_fails x l p) ∙ e ∙ d.0 in
        let above = r.0 in
        let f = gets_fails needs (first l) (λ z. omega arith) (gets l needs (d.2 (d.1.0 p))) in
        let less = past needs y.0 (first l) r.1 f in absurd (omega arith)

-- A fold that joins tests, as the code has it where no test may end it early, and whether a test holds of some element, or of each.
use mathlib.Core.Path.{◌≡◌, refl, ap, ◌∙◌}
use mathlib.Core.Bool.{Bool, true, false, ◌&&◌, ◌||◌}
use mathlib.Core.List.{List, [], ◌∷◌, reverse, reverse_aux}
use Prim.Native.Nat.{ℕ}
use native.Mathlib.Omega.{arith}
use Rattle.std.specs.Prelude.{is_some}
use Rattle.std.specs.List.{fold, list_any, list_all, position}
use Rattle.std.proofs.lemmas.Bool.Decides.{nat_tests}

pub fold_any : (p : ℕ → Bool) (any : Bool) (xs : List ℕ) → fold (λ any x. any || p x) any xs ≡ (any || list_any p xs)
fold_any p true [] = refl
fold_any p false [] = refl
fold_any p true (x ∷ xs) = fold_any p true xs
fold_any p false (x ∷ xs) = fold_any p (p x) xs

-- the tests may be told by others that are equal to them
pub fold_all : {f g : ℕ → Bool} → ((x : ℕ) → g x ≡ f x) → (ok : Bool) (xs : List ℕ) → fold (λ ok x. ok && g x) ok xs ≡ (ok && list_all f xs)
fold_all same true [] = refl
fold_all same false [] = refl
fold_all same false (x ∷ xs) = fold_all same false xs
fold_all {f = f} {g = g} same true (x ∷ xs) = fold_all same (g x) xs ∙ ap (λ b. b && list_all f xs) (same x)

-- the order of the elements does not matter
turned : (a b c : Bool) → (a && (b && c)) ≡ ((b && a) && c)
turned true true c = refl
turned true false c = refl
turned false true c = refl
turned false false c = refl

all_onto : (p : ℕ → Bool) (xs ys : List ℕ) → list_all p (reverse_aux xs ys) ≡ (list_all p xs && list_all p ys)
all_onto p [] ys = refl
all_onto p (x ∷ xs) ys = all_onto p xs (x ∷ ys) ∙ turned (list_all p xs) (p x) (list_all p ys)

and_true : (a : Bool) → (a && true) ≡ a
and_true true = refl
and_true false = refl

pub fold_all_back : {f g : ℕ → Bool} → ((x : ℕ) → g x ≡ f x) → (xs : List ℕ) → fold (λ ok x. ok && g x) true (reverse xs) ≡ list_all f xs
fold_all_back {f = f} same xs = fold_all same true (reverse xs) ∙ all_onto f xs [] ∙ and_true (list_all f xs)

-- one passes exactly if there is a first that does
pub any_first : (p : ℕ → Bool) (xs : List ℕ) → list_any p xs ≡ is_some (position p xs)
any_first p [] = refl
any_first p (x ∷ xs) = go (p x) refl (any_first p xs)
  where
    go : (t : Bool) → p x ≡ t → list_any p xs ≡ is_some (position p xs) → list_any p (x ∷ xs) ≡ is_some (position p (x ∷ xs))
    go true e rest = rw e (grind (arith, nat_tests))
    go false e rest = rw e (rest ∙ grind (arith, nat_tests))

-- A set by its two bytes, a side by its first place, and whether there is a place.
use mathlib.Core.Path.{◌≡◌, refl, sym, ◌∙◌}
use mathlib.Core.Bool.{Bool, false}
use mathlib.Core.List.{List, [], ◌∷◌}
use Prim.Native.Nat.{ℕ, zero, suc, ◌+◌, ◌*◌, ◌<◌}
use lib.ListN.{length, get_or}
use lib.Dec.{ltb}
use native.Mathlib.Omega.{arith}
use Rattle.std.specs.List.{position, position_or_len}
use Rattle.std.proofs.lemmas.List.Sums.{passes_at_first, fails_before_first}
use borrow.Author.Tests.{eq-eqb, ltb-true, ltb-false}
use Rattle.basics.specs.Tests.{any_below}
use Rattle.quorum.specs.Configurations.{set_at, read_set, write_set, holds_place, first_place, first_read}
use Rattle.quorum.specs.Configurations.{first_write, is_place, config_size, side_sets, side_start, holds_side}
use Rattle.quorum.specs.declared.Side.{Side}
use Rattle.quorum.specs.declared.Side.TheVariants.{Read, Write}
use Rattle.quorum.proofs.Promise.{promise}
use Rattle.sets.specs.Inner.{eight, is_held, any_held}
use Rattle.basics.proofs.Bytes.{number_two}
use Rattle.basics.proofs.Tests.{clash, either, same_test, any_below_lem, below-any}

-- ---- a set by its two bytes
pub set_bytes : (c : List ℕ) (place : ℕ) → length c ≡ config_size → set_at c place ≡ get_or c (2 * place) 0 + 256 * get_or c (2 * place + 1) 0
unfolding set_at
set_bytes c place l = rw (eq-eqb (length c) config_size l, number_two c (2 * place))

-- ---- there is a place exactly if the test holds of some number below the bound
pub some_place : (p : ℕ → Bool) (n : ℕ) → is_place (first_place p n) ≡ any_below p n
some_place p n =
    let place = first_place p n in
    same_test _ _
    (λ e. let s = (promise.a_place place).0 e in let f = (promise.first_exactly p n s.0).0 s.1 in below-any p n s.0 f.0 f.1)
    (λ e. let s = any_below_lem p n e in
    either (is_place place) (λ t. t) (λ t. clash s.2 ((promise.first_nowhere p n).0 ((promise.no_place place).0 t) s.0 s.1)))

-- ---- the sets of a side as they are loaded
pub loaded : (side : Side) (c : List ℕ) {start : ℕ} → start ≡ side_start side
    → set_at c start ∷ set_at c (start + 1) ∷ set_at c (start + 2) ∷ set_at c (start + 3) ∷ set_at c (start + 4) ∷ set_at c (start + 5)
    ∷ set_at c (start + 6) ∷ set_at c (start + 7) ∷ []
    ≡ eight (side_sets side c)
unfolding read_set write_set
loaded Read c e = rw e
loaded Write c e = rw e

-- the set at a place
pub at_place : (side : ℕ → ℕ) (k : ℕ) → k < 8 → get_or (eight side) k 0 ≡ side k
at_place side zero l = refl
at_place side (suc zero) l = refl
at_place side (suc (suc zero)) l = refl
at_place side (suc (suc (suc zero))) l = refl
at_place side (suc (suc (suc (suc zero)))) l = refl
at_place side (suc (suc (suc (suc (suc zero))))) l = refl
at_place side (suc (suc (suc (suc (suc (suc zero)))))) l = refl
at_place side (suc (suc (suc (suc (suc (suc (suc zero))))))) l = refl
at_place side (suc (suc (suc (suc (suc (suc (suc (suc k)))))))) l = absurd (omega arith)

-- the first of them that is held stands at the first place held
module _ (side : ℕ → ℕ) (set : ℕ) where
  abbrev test : ℕ → Bool
  test other = is_held other set

  abbrev n : ℕ
  n = position_or_len test (eight side)

  tested : (k : ℕ) → k < 8 → test (get_or (eight side) k 0) ≡ holds_place side set k
  unfolding holds_place
  tested k l = rw (at_place side k l)

  out_before : (k : ℕ) → k < 8 → k < n → holds_place side set k ≡ false
  out_before k l h = sym (tested k l) ∙ fails_before_first test (eight side) k 0 h

  pub first_at : position test (eight side) ≡ first_place (holds_place side set) 8
  first_at =
      either (ltb n 8)
      (λ e. let l = ltb-true n 8 e in
      rw e (sym ((promise.first_exactly _ 8 n).1 (l, sym (tested n l) ∙ passes_at_first test (eight side) 0 l, λ j h. out_before j (omega arith) h))))
      (λ e. let l = ltb-false n 8 e in rw e (sym ((promise.first_nowhere _ 8).1 (λ k h. out_before k h (omega arith)))))

pub side_held : (side : ℕ → ℕ) (set : ℕ) → any_held (eight side) set ≡ is_place (first_place (holds_place side set) 8)
side_held side set = rw (first_at side set)

-- ---- a side by its name
pub side_holds : (side : Side) (c : List ℕ) (set : ℕ) → any_held (eight (side_sets side c)) set ≡ holds_side side c set
unfolding first_read first_write
side_holds Read c set = side_held (read_set c) set
side_holds Write c set = side_held (write_set c) set

pub side_short : (side : Side) (c : List ℕ) (set : ℕ) → (length c ≡ config_size → ⊥) → holds_side side c set ≡ false
side_short Read c set h = promise.short_read c set h
side_short Write c set h = promise.short_write c set h

pub first_of_read : (c : List ℕ) (set : ℕ) {others d : List ℕ} → others ≡ eight (read_set d) → d ≡ c
    → position (λ other. is_held other set) others ≡ first_read c set
unfolding first_read
first_of_read c set e f = rw (e, f) (first_at (read_set c) set)

-- A walk over the stations of a set, the lowest first, that counts them: the needs of both functions, said once over any test.
use mathlib.Core.Path.{◌≡◌, refl, sym, ap, ◌∙◌}
use mathlib.Core.Bool.{Bool, true, false}
use mathlib.Core.List.{List, [], ◌∷◌, ◌++◌}
use Prim.Native.Nat.{ℕ, ◌+◌, ◌≤◌, ◌<◌}
use native.Mathlib.Omega.{arith}
use lib.Dec.{ltb, eqb}
use lib.ListN.{length, take, length-append}
use lib.Seq.{append_snoc, take_at}
use borrow.Author.Tests.{eqb-true, eqb-false, ltb-true, ltb-false}
use Rattle.basics.proofs.Tests.{clash, either, or_cases}
use Rattle.basics.proofs.Listing.{passing_few}
use Rattle.quorum.specs.Sets.{member, within, join, remove, lowest}
use Rattle.plan.specs.Starts.{joined}
use Rattle.quorum.specs.Configurations.{place_figure}
use Rattle.quorum.specs.Promise.{◌⊆◌}
use Rattle.quorum.proofs.Promise.{promise}
use Rattle.sets.proofs.Rising.{lowest-first, rising_empty}
use Rattle.layout.proofs.Along.{lowest_in, left_less, others, taken_out}
use Rattle.plan.specs.Starts.{rising, start, first_start}
use Rattle.plan.proofs.Starts.{passes_first, none_passes}

-- ---- the rising order
-- the last station of an order joins last
joined-last : (order : List ℕ) (set s : ℕ) → joined set (order ++ (s ∷ [])) ≡ join (joined set order) s
joined-last [] set s = refl
joined-last (x ∷ order) set s = joined-last order (join set x) s

-- ---- a walk that has taken count stations of the set `on`: they make the set `taken`, and `rest` is left
pub record Position (on count rest taken : ℕ) : Type 0 where
  -- those taken, in the order in which they were; with those left behind them they are the rising order
  pub front : List ℕ
  pub order : rising on ≡ front ++ rising rest
  pub long : length front ≡ count
  pub joins : taken ≡ joined 0 front
  pub small : rest < 65536
  pub part : rest ⊆ on
  pub apart : (i j : ℕ) → member taken i ≡ true → member rest j ≡ true → i < j

pub position_start : (on : ℕ) → on < 65536 → Position on 0 on 0
position_start on l =
    record {
      front = [];
      order = refl;
      long = refl;
      joins = refl;
      small = l;
      part = λ i m. m;
      apart = λ i j m. clash m (promise.member_empty i);
    }

module _ {on count rest taken : ℕ} (p : Position on count rest taken) where
  -- the stations taken are a start of the rising order
  pub is_start : taken ≡ start (rising on) count
  is_start = p.joins ∙ sym (ap (joined 0) (ap (take count) p.order ∙ take_at p.front (rising rest) count p.long))

  length_split : length (rising on) ≡ count + length (rising rest)
  length_split = ap length p.order ∙ length-append p.front (rising rest) ∙ ap (λ x. x + length (rising rest)) p.long

  -- those taken and those left are no more than there are stations
  pub all_fit : count + length (rising rest) ≤ 16
  all_fit = omega (arith, length_split, passing_few (member on) 16)

  all_taken : rest ≡ 0 → length (rising on) ≡ count
  all_taken z = omega (arith, length_split, none_left)
    where
      none_left : length (rising rest) ≡ 0
      none_left = rw (z, rising_empty)

  -- a turn: the lowest station that is left is taken
  module _ (h : rest ≡ 0 → ⊥) {s : ℕ} (q : s ≡ lowest rest) where
    next_in : member rest s ≡ true
    next_in = rw q (lowest_in rest p.small h)

    pub next-below : (n : ℕ) → within n on ≡ true → s < n
    next-below n w = promise.within_member n on s w (p.part s next_in)

    pub next_16 : s < 16
    next_16 = promise.within_member 16 rest s (promise.small_within rest p.small) next_in

    -- it is above those taken before
    pub above : (i : ℕ) → member taken i ≡ true → i < s
    above i m = p.apart i s m next_in

    -- those left after it are above it
    left_above : (j : ℕ) → member (remove rest s) j ≡ true → (member rest j ≡ true) × (s < j)
    left_above j m =
        either (eqb j s)
        (λ e. clash m (rw (eqb-true j s e) (taken_out rest s)))
        (λ e. let n : j ≡ s → ⊥ = eqb-false j s e in let b : member rest j ≡ true = sym (others rest s j n) ∙ m in (b, higher n b))
      where
        higher : (j ≡ s → ⊥) → member rest j ≡ true → s < j
        higher n b = either (ltb j s) (λ e. clash b (promise.below_lowest rest j (omega (arith, ltb-true j s e)))) (λ e. omega (arith, ltb-false j s e))

    module _ {left more : ℕ} (r : left ≡ remove rest (lowest rest)) (t : more ≡ join taken s) where
      left_is : left ≡ remove rest s
      left_is = r ∙ ap (remove rest) (sym q)

      next_in_order : rising rest ≡ s ∷ rising left
      next_in_order = rw left_is (lowest-first rest s next_in (λ i l. promise.below_lowest rest i (omega arith)) 16 next_16)

      later : (j : ℕ) → member left j ≡ true → (member rest j ≡ true) × (s < j)
      later j m = left_above j (rw left_is at m)

      pub turn : Position on (count + 1) left more
      turn =
          record {
            front = p.front ++ (s ∷ []);
            order = p.order ∙ ap (λ x. p.front ++ x) next_in_order ∙ sym (append_snoc p.front s (rising left));
            long = length-append p.front (s ∷ []) ∙ ap (λ x. x + 1) p.long;
            joins = t ∙ ap (λ x. join x s) p.joins ∙ sym (joined-last p.front 0 s);
            small = omega (arith, left_less rest p.small h r, p.small);
            part = λ i m. p.part i (later i m).0;
            apart = λ i j m l. or_cases (member taken i) (eqb i s) (sym (promise.member_join taken i s next_16) ∙ rw t at m)
                (λ b. p.apart i j b (later j l).0) (λ e. let a = (later j l).1 in omega (arith, eqb-true i s e));
          }

-- ---- the first start that passes a test
-- no start of up to so many stations does
pub record NoneUpTo (test : ℕ → Bool) (on count : ℕ) : Type 0 where
  pub none : (j : ℕ) → 1 ≤ j → j ≤ count → test (start (rising on) j) ≡ false

pub none_yet : {test : ℕ → Bool} {on : ℕ} → NoneUpTo test on 0
none_yet = record { none = λ j l m. absurd (omega arith) }

module _ {test : ℕ → Bool} {on count rest taken : ℕ} (h : NoneUpTo test on count) where
  pub none_more : Position on (count + 1) rest taken → test taken ≡ false → NoneUpTo test on (count + 1)
  none_more p f =
      record {
        none = λ j l m. either (eqb j (count + 1)) (λ e. rw (eqb-true j (count + 1) e) (sym (ap test (is_start p)) ∙ f))
            (λ e. let n : j ≡ count + 1 → ⊥ = eqb-false j (count + 1) e in h.none j l (omega arith));
      }

  pub first_passes : Position on (count + 1) rest taken → test taken ≡ true → place_figure (first_start test (rising on)) ≡ count + 1
  first_passes p t =
      (passes_first test (rising on) (count + 1) (omega arith)).1
      (omega (arith, length_split p), sym (ap test (is_start p)) ∙ t, λ j l m. h.none j l (omega arith))

  pub none_at_all : Position on count rest taken → rest ≡ 0 → place_figure (first_start test (rising on)) ≡ 0
  none_at_all p z = (none_passes test (rising on)).1 (λ j l m. h.none j l (omega (arith, all_taken p z)))

-- The crate keeps its promise.
use mathlib.Core.Path.{◌≡◌, refl, ◌∙◌}
use mathlib.Core.Bool.{Bool, true, false}
use mathlib.Core.List.{List}
use mathlib.Core.Logic.{◌↔◌}
use Prim.Native.Nat.{ℕ, ◌+◌, ◌≤◌, ◌^◌}
use native.Mathlib.Omega.{arith}
use lib.ListN.{length}
use Rattle.std.specs.Prelude.{None, Some}
use lib.Pow.{pow_pos, pow_mono}
use borrow.Author.Tests.{ltb-true, lt-ltb, ne_eqb}
use Rattle.basics.specs.Tests.{Some as SomeBelow}
use Rattle.quorum.specs.Sets.{member, used, within, unite, remove, full}
use Rattle.quorum.specs.Configurations.{set_at, read_set, write_set, valid, holds_place, first_place}
use Rattle.quorum.specs.Configurations.{first_read, first_write, is_place, holds_read, holds_write, config_size}
use Rattle.quorum.specs.Promise.{Promise, ◌⊆◌, QuorumIn, FirstIn, Side}
use Rattle.basics.proofs.Listing.{listing}
use Rattle.basics.proofs.Tests.{clash, fails, same_test, either}
use Rattle.quorum.proofs.Members.{member_empty, member_join, member-or, member_minus, member_remove, member_full, same_members}
use Rattle.quorum.proofs.Members.{holds-member, member-holds, subset_le, shares_members, used_member}
use Rattle.quorum.proofs.Members.{within_members, within_join, within_unite, within_minus}
use Rattle.quorum.proofs.Members.{lowest_member, below_lowest, remove_less, without_lowest}
use Rattle.quorum.proofs.Validity.{listed_stations_lem, valid_facts, facts_valid, first_used, place_lies, lies_place}
use Rattle.quorum.proofs.Validity.{first_exactly, first_nowhere, first_same, no_place, a_place, figure_at, figure_nowhere, figure_place, figure_none}

-- ---- a side of a configuration: the first place whose set lies within, and whether there is one
module _ (side : ℕ → ℕ) (set : ℕ) where
  abbrev any : Bool
  any = is_place (first_place (holds_place side set) 8)

  first_in : (k : ℕ) → (first_place (holds_place side set) 8 ≡ Some k) ↔ FirstIn side set k
  first_in k = (
    λ e. let f = (first_exactly (holds_place side set) 8 k).0 e in
        (f.0, place_lies side set k f.1, λ j l h. clash (lies_place side set j h) (f.2 j l)),
    λ f. (first_exactly (holds_place side set) 8 k).1 (f.0, lies_place side set k f.1, λ j l. fails _ (λ e. f.2 j l (place_lies side set j e))),
  )

  none_in : (first_place (holds_place side set) 8 ≡ None) ↔ (QuorumIn side set → ⊥)
  none_in = (
    λ e s. clash (lies_place side set s.0 s.2) ((first_nowhere _ 8).0 e s.0 s.1),
    λ h. (first_nowhere _ 8).1 (λ k l. fails _ (λ e. h (k, l, place_lies side set k e))),
  )

  held : (any ≡ true) ↔ QuorumIn side set
  held = (
    λ e. let s = (a_place _).0 e in let f = (first_in s.0).0 s.1 in (s.0, f.0, f.1),
    λ s. either any (λ e. e) (λ e. absurd (none_in.0 ((no_place _).0 e) s)),
  )

more : (side : ℕ → ℕ) (a b : ℕ) → a ⊆ b → any side a ≡ true → any side b ≡ true
more side a b s e =
    let h = (held side a).0 e in (held side b).1 (h.0, h.1, (h.2.0, λ i m. s i (h.2.1 i m)))

-- a used set has a member, and the empty set has none
none : (side : ℕ → ℕ) → any side 0 ≡ false
none side =
    fails _ (λ e. let h = (held side 0).0 e in let m = (used_member (side h.0)).0 h.2.0 in clash (h.2.1 m.0 m.1) (member_empty m.0))

-- all of the n stations hold the first set of a valid side
whole : (n : ℕ) (side : ℕ → ℕ) → n ≤ 16 → Side n side → any side (full n) ≡ true
unfolding within
whole n side l s =
    (held side (full n)).1 (0, omega arith, (first_used n side s, λ i m. member_full n i l ∙ lt-ltb i n (s.in_range 0 (omega arith) i m)))

meeting : (n : ℕ) (c : List ℕ) (r w : ℕ) → valid n c ≡ true → holds_read c r ≡ true → holds_write c w ≡ true
    → SomeBelow n (λ i. (member r i ≡ true) × (member w i ≡ true))
unfolding first_read first_write within
meeting n c r w v hr hw =
    let f = valid_facts n c v in
    let x = (held (read_set c) r).0 hr in
    let y = (held (write_set c) w).0 hw in
    let m = f.meet x.0 y.0 x.1 y.1 x.2.0 y.2.0 in (
      m.0,
      f.reads.in_range x.0 x.1 m.0 m.1,
      (x.2.1 m.0 m.1, y.2.1 m.0 m.2),
    )

-- a list of another length has no sets
short : (side : ℕ → ℕ) (set : ℕ) → ((k : ℕ) → side k ≡ 0) → any side set ≡ false
unfolding used
short side set h = fails _ (λ e. let s = (held side set).0 e in clash s.2.0 (rw (h s.0)))

no_set : (c : List ℕ) (place : ℕ) → (length c ≡ config_size → ⊥) → set_at c place ≡ 0
unfolding set_at
no_set c place h = rw (ne_eqb _ _ h)

pub promise : Promise
unfolding read_set write_set first_read first_write within unite remove full
promise =
    record {
      quorums_meet = meeting;
      holds_read_lem = λ c. held (read_set c);
      holds_write_lem = λ c. held (write_set c);
      read_more = λ c. more (read_set c);
      write_more = λ c. more (write_set c);
      none_read = λ c. none (read_set c);
      none_write = λ c. none (write_set c);
      all_read = λ n c v. let f = valid_facts n c v in whole n (read_set c) f.small f.reads;
      all_write = λ n c v. let f = valid_facts n c v in whole n (write_set c) f.small f.writes;
      first_exactly = first_exactly;
      first_nowhere = first_nowhere;
      first_same = first_same;
      first_read_lem = λ c. first_in (read_set c);
      first_write_lem = λ c. first_in (write_set c);
      no_first_read = λ c. none_in (read_set c);
      no_first_write = λ c. none_in (write_set c);
      a_place = a_place;
      no_place = no_place;
      figure_at = figure_at;
      figure_nowhere = figure_nowhere;
      figure_place = figure_place;
      figure_none = figure_none;
      valid_exactly = λ n c. (valid_facts n c, facts_valid n c);
      listed_stations_lem = listed_stations_lem;
      valid_stations = λ n c v. let f = valid_facts n c v in (f.positive, f.small);
      first_used = first_used;
      valid_length = λ n c v. (valid_facts n c v).long;
      short_read = λ c set h. short (read_set c) set (λ k. no_set c k h);
      short_write = λ c set h. short (write_set c) set (λ k. no_set c (8 + k) h);
      member_empty = member_empty;
      member_join = member_join;
      member_unite = λ a b i. member-or i a b;
      member_minus = λ a b i. member_minus i a b;
      member_remove = λ a i k. member_remove i k a;
      member_full = member_full;
      full_16 = refl;
      used_member = used_member;
      same_members = λ a b p q. same_members a b (λ i. same_test _ _ (p i) (q i));
      subset_le = subset_le;
      holds_members = λ a b. (holds-member a b, member-holds a b);
      shares_member = shares_members;
      lowest_member = lowest_member;
      below_lowest = below_lowest;
      remove_less = remove_less;
      without_lowest = without_lowest;
      rises = λ set. listing (member set) 16;
      within_member = λ n a i w. (within_members n a).0 w i;
      member_within = λ n a. (within_members n a).1;
      within_empty = λ n. lt-ltb 0 (2 ^ n) (pow_pos n);
      within_join = within_join;
      within_unite = within_unite;
      within_minus = within_minus;
      within_remove = λ n a k. within_minus n a (2 ^ k);
      within_16 = λ n a l w. let h = ltb-true a (2 ^ n) w in let p : 2 ^ n ≤ 2 ^ 16 = pow_mono l in omega arith;
      small_within = λ a l. lt-ltb a (2 ^ 16) l;
    }

-- The number and the output where the call returns.
use mathlib.Core.Path.{◌≡◌, refl, sym, ◌∙◌}
use mathlib.Core.Bool.{Bool, true, false, not, cond, ◌&&◌, ◌||◌}
use mathlib.Core.List.{List}
use Prim.Native.Nat.{ℕ, ◌+◌, ◌≤◌, ◌<◌}
use native.Mathlib.Omega.{arith}
use lib.Dec.{ltb, leb, eqb}
use lib.ListN.{length}
use borrow.Author.Tests.{eqb-false, ltb-true, leb-true, le-leb, lt-ltb, le-ltb, eq-eqb, ne_eqb, not-true}
use Rattle.basics.specs.Bytes.{over}
use Rattle.basics.specs.Tests.{all}
use Rattle.basics.proofs.Tests.{clash, fails, and_left, and_right, or_left, or_right}
use Rattle.quorum.specs.Configurations.{config_size}
use Rattle.form.specs.Sides.{side_bytes}
use Rattle.rules.specs.Rules.{first}
use Rattle.votes.specs.Votes.{total, true_votes, smallest_sets, too_many, votes_refusals, votes_number, configuration_of, votes_output}
use Rattle.votes.specs.Claims.{TrueVotes}
use Rattle.votes.proofs.Claims.{true_votes_lem}
use Rattle.forming.proofs.Output.{written_config}
use Rattle.vote_search.specs.Search.{Found, fit}

-- ---- the thresholds
-- the tests of the code are those of true votes, for 1 to 16 stations
fit-true : (votes : List ℕ) (read write sum : ℕ) → sum ≡ total votes → TrueVotes votes read write → fit read write sum ≡ true
unfolding fit
fit-true votes read write sum e t =
    rw (
      e,
      le-leb read (total votes) t.read_reached,
      le-leb write (total votes) t.write_reached,
      ne_eqb read 0 (λ z. omega (arith, t.read_positive)),
      ne_eqb write 0 (λ z. omega (arith, t.write_positive)),
    )
    (lt-ltb (total votes) (read + write) t.together)

-- five tests that all pass
five : (a b c d e : Bool) → (a && b && ((c && d) && e)) ≡ true → (a ≡ true) × (b ≡ true) × (c ≡ true) × (d ≡ true) × (e ≡ true)
five a b c d e h =
    let ab = and_left (a && b) ((c && d) && e) h in
    let cde = and_right (a && b) ((c && d) && e) h in
    let cd = and_left (c && d) e cde in
    (and_left a b ab, and_right a b ab, and_left c d cd, and_right c d cd, and_right (c && d) e cde)

pub true-fit : (votes : List ℕ) (read write sum : ℕ) → 1 ≤ length votes → length votes ≤ 16 → sum ≡ total votes → fit read write sum ≡ true
    → TrueVotes votes read write
unfolding fit
true-fit votes read write sum p q e f =
    let t = five (leb read sum) (leb write sum) (not (eqb read 0)) (not (eqb write 0)) (ltb sum (read + write)) f in
    let r : read ≡ 0 → ⊥ = eqb-false read 0 (not-true _ t.2) in
    let w : write ≡ 0 → ⊥ = eqb-false write 0 (not-true _ t.3) in
    record {
      some = p;
      few = q;
      read_positive = omega arith;
      read_reached = rw e at (leb-true read sum t.0);
      write_positive = omega arith;
      write_reached = rw e at (leb-true write sum t.1);
      together = rw e at (ltb-true sum (read + write) t.4);
    }

-- ---- the reply
module _ (votes : List ℕ) (read write : ℕ) (out : List ℕ) where
  -- what a call that returns this number and leaves this output is asked for, as the contract names the two
  abbrev pub Answers : ℕ → List ℕ → Type 0
  Answers k after = record { value : k ≡ votes_number votes read write out; out_after : after ≡ votes_output votes read write out }

  answers : (k : ℕ) (after : List ℕ) → votes_number votes read write out ≡ k → after ≡ cond (eqb k 0) (configuration_of votes read write) out → Answers k after
  unfolding votes_output
  answers k after e o = record { value = sym e; out_after = o ∙ rw e }

  pub not_32 : (length out ≡ config_size → ⊥) → Answers 2 out
  unfolding votes_number votes_refusals first
  not_32 h = answers 2 out (rw (ne_eqb (length out) config_size h)) refl

  module _ (long : length out ≡ config_size) where
    pub false_votes : (TrueVotes votes read write → ⊥) → Answers 13 out
    unfolding votes_number votes_refusals first
    false_votes h =
        let f = fails (all (true_votes votes read write)) (λ e. h ((true_votes_lem votes read write).0 e)) in
        answers 13 out (rw (eq-eqb (length out) config_size long, f)) refl

    pub false_thresholds : (sum : ℕ) → sum ≡ total votes → fit read write sum ≡ false → Answers 13 out
    false_thresholds sum e f = false_votes (λ t. clash (fit-true votes read write sum e t) f)

    module _ (t : TrueVotes votes read write) where
      passed : all (true_votes votes read write) ≡ true
      passed = (true_votes_lem votes read write).1 t

      too_many_lem : (too_many votes read || too_many votes write) ≡ true → Answers 14 out
      unfolding votes_number votes_refusals first
      too_many_lem h = answers 14 out (rw (eq-eqb (length out) config_size long, passed, h)) refl

      pub read-many : 8 < length (smallest_sets votes read) → Answers 14 out
      unfolding too_many
      read-many h = too_many_lem (or_left _ _ (lt-ltb 8 _ h))

      pub write-many : 8 < length (smallest_sets votes write) → Answers 14 out
      unfolding too_many
      write-many h = too_many_lem (or_right (too_many votes read) _ (lt-ltb 8 _ h))

      -- both sides were found whole, and are written
      pub written : {reads writes : List ℕ} → Found votes read reads → Found votes write writes
          → Answers 0 (over (over out 0 (side_bytes reads)) 16 (side_bytes writes))
      unfolding votes_number votes_refusals first too_many configuration_of
      written {reads = reads} {writes = writes} r w =
          answers 0 _
          (rw (eq-eqb (length out) config_size long, passed, le-ltb 8 _ r.few, le-ltb 8 _ w.few))
          (written_config out reads writes _ _ long (record { each = r.each }) (record { each = w.each }))

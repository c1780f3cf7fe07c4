-- The claims of the configuration that votes give.
use mathlib.Core.Path.{◌≡◌, refl}
use mathlib.Core.Bool.{Bool, true, false, ◌||◌}
use mathlib.Core.List.{List}
use mathlib.Core.Logic.Iff
use mathlib.Core.Logic.{◌↔◌, ◌⊎◌, inl, inr}
use Prim.Native.Nat.{ℕ, ◌+◌, ◌≤◌}
use lib.Dec.{eqb}
use lib.ListN.{length}
use borrow.Author.Tests.{ltb-true, lt-ltb, leb-true, le-leb, eqb-true, eqb-false, eq-eqb, ne_eqb}
use Rattle.basics.specs.Tests.{all}
use Rattle.basics.proofs.Tests.{◌also◌, either, all_true, true-all, or_false_left, or_false_right}
use Rattle.quorum.specs.Configurations.{config_size, read_set, write_set}
use Rattle.quorum.specs.Promise.{Valid}
use Rattle.quorum.proofs.Promise.{promise}
use Rattle.form.specs.Sides.{side_bytes, config_bytes}
use Rattle.form.proofs.Places.{length_config, bytes_config, read_back, written_back}
use Rattle.layout.specs.Layout.{table_length}
use Rattle.layout.specs.View.{Table, view}
use Rattle.rules.specs.Calls.{lay}
use Rattle.rules.specs.Needs.{needs, Gets}
use Rattle.rules.specs.Reply.{reply}
use Rattle.rules.proofs.Quorums.{passes, negated}
use Rattle.rules.proofs.Chains.{Decides, exactly}
use Rattle.rules.proofs.Judged.{numbered}
use Rattle.votes.specs.Votes.{total, true_votes, too_many, votes_refusals, votes_number, configuration_of, votes_output}
use Rattle.votes.specs.Claims.{MoreThanEight, TrueVotes, votes_needs, Configured, Claims}
use Rattle.votes.proofs.Laws.{no_votes, its_votes, votes_full, sets_share, no_less}
use Rattle.votes.proofs.Listing.{more_than_eight}
use Rattle.votes.proofs.Sides.{Listed, fill, lists_smallest, holds_exactly, is_side}

-- ---- the number
pub true_votes_lem : (votes : List ℕ) (read write : ℕ) → (all (true_votes votes read write) ≡ true) ↔ TrueVotes votes read write
unfolding true_votes
true_votes_lem votes read write = (
  λ e. let t = all_true (true_votes votes read write) e in
      let stations = (promise.listed_stations_lem (length votes)).0 t.0 in
      let u = t.1 in
      let v = u.1.1 in
      record {
        some = stations.0;
        few = stations.1;
        read_positive = leb-true 1 read u.0;
        read_reached = leb-true read (total votes) u.1.0;
        write_positive = leb-true 1 write v.0;
        write_reached = leb-true write (total votes) v.1.0;
        together = ltb-true (total votes) (read + write) v.1.1.0;
      },
  λ t. true-all (true_votes votes read write)
      ((promise.listed_stations_lem (length votes)).1 (t.some, t.few)
      also le-leb 1 read t.read_positive
      also le-leb read (total votes) t.read_reached
      also le-leb 1 write t.write_positive
      also le-leb write (total votes) t.write_reached
      also lt-ltb (total votes) (read + write) t.together
      also tt),
)

neither : (a b : Bool) {A B : Type 0} → (a ≡ true) ↔ A → (b ≡ true) ↔ B → ((a || b) ≡ false) ↔ ((A → ⊥) × (B → ⊥))
neither a b p q = (
  λ e. ((negated a p).0 (or_false_left a b e), (negated b q).0 (or_false_right a b e)),
  λ h. rw ((negated a p).1 h.0) ((negated b q).1 h.1),
)

module _ (votes : List ℕ) (read write : ℕ) (out : List ℕ) where
  decided : Decides (votes_refusals votes read write out) (votes_needs votes read write out)
  unfolding votes_refusals
  decided = (
    refl,
    passes (eqb (length out) config_size) (eqb-true _ _, eq-eqb _ _),
    λ _. (
      refl,
      passes (all (true_votes votes read write)) (true_votes_lem votes read write),
      λ _. (refl, neither (too_many votes read) (too_many votes write) (more_than_eight votes read) (more_than_eight votes write), λ _. tt),
    ),
  )

  number-gets : (k : ℕ) → (votes_number votes read write out ≡ k) ↔ Gets (votes_needs votes read write out) k
  unfolding votes_number
  number-gets = exactly (votes_refusals votes read write out) (votes_needs votes read write out) decided

  -- ---- the output
  output_done : votes_number votes read write out ≡ 0 → votes_output votes read write out ≡ configuration_of votes read write
  unfolding votes_output
  output_done e = rw (eq-eqb (votes_number votes read write out) 0 e)

  output_refused : (votes_number votes read write out ≡ 0 → ⊥) → votes_output votes read write out ≡ out
  unfolding votes_output
  output_refused h = rw (ne_eqb (votes_number votes read write out) 0 h)

-- where another number than a need's is given, the need holds, and the number is given after it
holds : {A B : Type 0} (given its : ℕ) → eqb given its ≡ false → ((A → ⊥) × (given ≡ its)) ⊎ (A × B) → A × B
holds given its other (inl p) = absurd (eqb-false given its other p.1)
holds given its other (inr h) = h

-- ---- the configuration of true votes, with no more than eight sets on a side
module _ (votes : List ℕ) (read write : ℕ) (sheet : TrueVotes votes read write)
    (no_more : (MoreThanEight votes read → ⊥) × (MoreThanEight votes write → ⊥)) where
  abbrev config : List ℕ
  config = configuration_of votes read write

  reads : Listed votes read (read_set config)
  unfolding configuration_of config_bytes side_bytes
  reads = fill votes read (read_set config) sheet.few sheet.read_positive sheet.read_reached no_more.0 (read_back _ _)

  writes : Listed votes write (write_set config)
  unfolding configuration_of config_bytes side_bytes
  writes = fill votes write (write_set config) sheet.few sheet.write_positive sheet.write_reached no_more.1 (written_back _ _)

  facts : Valid (length votes) config
  unfolding configuration_of config_bytes side_bytes
  facts =
      record {
        positive = sheet.some;
        small = sheet.few;
        long = length_config _ _;
        reads = is_side reads;
        writes = is_side writes;
        meet = λ j k l m p q.
            let s = sets_share votes read write _ _ sheet.together ((lists_smallest reads).only j l p).enough ((lists_smallest writes).only k m q).enough in
            (s.0, s.2.0, s.2.1);
      }

  lay_takes : (table : Table) (m value : ℕ) → 1 ≤ m → m ≤ 32 → length table ≡ table_length (length votes) m
      → (reply table (lay (length votes) m value config)).number ≡ 0
  unfolding needs view
  lay_takes table m value low high long =
      (numbered.done_exactly table (lay (length votes) m value config)).1
      ((sheet.some, sheet.few, low, high), (eq-eqb (length table) (table_length (length votes) m) long, (facts, tt)))

  configured : Configured votes read write config
  unfolding configuration_of config_bytes side_bytes
  configured =
      record {
        bytes = bytes_config _ _;
        is_valid = (promise.valid_exactly (length votes) config).1 facts;
        read_exactly = λ set. Iff.trans (promise.holds_read_lem config set) (holds_exactly reads set);
        write_exactly = λ set. Iff.trans (promise.holds_write_lem config set) (holds_exactly writes set);
        reads = lists_smallest reads;
        writes = lists_smallest writes;
        lay_takes = lay_takes;
      }

done : (votes : List ℕ) (read write : ℕ) (out : List ℕ) → votes_number votes read write out ≡ 0
    → Configured votes read write (votes_output votes read write out)
done votes read write out e =
    let long = holds 0 2 refl ((number-gets votes read write out 0).0 e) in
    let sheet = holds 0 13 refl long.1 in
    let no_more = holds 0 14 refl sheet.1 in
    rw (output_done votes read write out e) (configured votes read write sheet.0 no_more.0)

-- one of the two sides has too many sets, where not neither has
one_side : (votes : List ℕ) (read write : ℕ) → (((MoreThanEight votes read → ⊥) × (MoreThanEight votes write → ⊥)) → ⊥)
    → MoreThanEight votes read ⊎ MoreThanEight votes write
one_side votes read write h =
    let reads = more_than_eight votes read in let writes = more_than_eight votes write in
    either (too_many votes read) (λ e. inl (reads.0 e))
    (λ e. either (too_many votes write) (λ d. inr (writes.0 d)) (λ d. absurd (h ((negated _ reads).0 e, (negated _ writes).0 d))))

not_neither : {A B : Type 0} → A ⊎ B → ((A → ⊥) × (B → ⊥)) → ⊥
not_neither (inl a) n = n.0 a
not_neither (inr b) n = n.1 b

too_many_lem : (votes : List ℕ) (read write : ℕ) (out : List ℕ) → (votes_number votes read write out ≡ 14)
    ↔ ((length out ≡ config_size) × TrueVotes votes read write × (MoreThanEight votes read ⊎ MoreThanEight votes write))
too_many_lem votes read write out = (
  λ e. let long = holds 14 2 refl ((number-gets votes read write out 14).0 e) in
      let sheet = holds 14 13 refl long.1 in
      (long.0, sheet.0, one_side votes read write (λ n. last sheet.1 n)),
  λ h. (number-gets votes read write out 14).1 (inr (h.0, inr (h.1, inl (not_neither h.2, refl)))),
)
  where
    last : {A : Type 0} → ((A → ⊥) × (◌≡◌ {A = ℕ} 14 14)) ⊎ (A × (◌≡◌ {A = ℕ} 14 0)) → A → ⊥
    last (inl p) = p.0
    last (inr p) = absurd (eqb-false 14 0 refl p.1)

pub claims : Claims
claims =
    record {
      no_votes = no_votes;
      its_votes = its_votes;
      all_votes = votes_full;
      sets_share = sets_share;
      no_less = no_less;
      number_exactly = number-gets;
      too_many_lem = too_many_lem;
      no_figures_lem = λ votes read write out. (refl, refl, refl);
      done = done;
      refused = output_refused;
    }

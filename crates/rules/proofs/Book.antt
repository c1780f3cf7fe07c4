-- The table follows the book: what holds of a table's view and the book after every call, and that a lay and a commit keep it.
use mathlib.Core.Path.{◌≡◌, refl, ◌∙◌}
use mathlib.Core.Bool.{Bool, true, false, ◌&&◌}
use mathlib.Core.List.{List}
use Prim.Native.Nat.{ℕ, ◌+◌, ◌≤◌, ◌<◌}
use native.Mathlib.Omega.{arith}
use lib.ListN.{length, length-set, length-replicate, get_or-replicate}
use lib.Seq.{get_or-set_same, get_or-set_other}
use lib.Dec.{eqb}
use borrow.Author.Tests.{eqb-true, eqb-false}
use Rattle.basics.proofs.Tests.{clash, by_cases, and_left, and_right}
use Rattle.quorum.specs.Sets.{member}
use Rattle.quorum.specs.Configurations.{valid, holds_write}
use Rattle.layout.specs.Fields.{Copy, Kind, Round}
use Rattle.layout.specs.Fields.{none as no_round, read as read_round, write as write_round, change as change_round}
use Rattle.layout.specs.View.{State, own, found_by_version, found_by_generation, heard}
use Rattle.layout.proofs.Contents.{SameWhole}
use Rattle.layout.proofs.Soundness.{RoundFacts, StateSound}
use Rattle.form.specs.Form.{standard_form}
use Rattle.layout.proofs.Stored.{stored}
use Rattle.rules.specs.Calls.{lay, commit}
use Rattle.rules.specs.Rules.{idle, written}
use Rattle.rules.specs.Figures.{closing}
use Rattle.rules.specs.declared.Figures.{Figures}
use Rattle.rules.specs.After.{stores}
use Rattle.rules.specs.Book.{Entry, Noted, none, read, write, change, Book, started, entry, finish, step}
use Rattle.rules.proofs.Judged.{a_round}
use Rattle.rules.proofs.Copies.{Kept, Current, heard_current, kept_same, kept_laid, both_put}
use Rattle.rules.proofs.Copies.{kept_read_commit, kept_write_commit, kept_change_commit}
use Rattle.rules.proofs.States.{next}

-- the round of a table as the book notes it
abbrev pub noted_of : Kind → ℕ → ℕ → Noted
noted_of no_round i x = none
noted_of read_round i x = read i
noted_of write_round i x = write i x
noted_of change_round i x = change i

-- an item's copies are those of its entry
abbrev KeptFor : ℕ → (ℕ → Copy) → Entry → Type 0
KeptFor n copies e = Kept n copies e.value e.writes e.changes

pub record Follows (v : State) (b : Book) : Type 0 where
  pub kept : (j : ℕ) → j < v.m → KeptFor v.n (v.copies j) (entry b.items j)
  pub noted : b.noted ≡ noted_of v.round.kind v.round.item v.round.value
  pub entries : length b.items ≡ 32

-- it speaks of the items and stations of the table only
pub follows_like : (v w : State) (b : Book) → SameWhole v w → Follows w b → Follows v b
follows_like v w b l inv =
    record {
      kept = rw (l.n, l.m) (λ j h. kept_same w.n (w.copies j) (v.copies j) _ _ _ (λ s q. l.copies j s h q) (inv.kept j h));
      noted = rw l.round inv.noted;
      entries = inv.entries;
    }

pub keep_laid : (v : State) (b : Book) (n m value : ℕ) (config : List ℕ) → valid n (standard_form n config) ≡ true → m ≤ 32
    → Follows (next v (lay n m value config)) (step b (lay n m value config))
keep_laid v b n m value config h q =
    record {
      kept = λ j p. let r : j < 32 = omega arith in rw (get_or-replicate 32 j (started value) (started 0) r) (kept_laid n value (standard_form n config) h);
      noted = refl;
      entries = length-replicate 32 (started value);
    }

-- ---- a commit that is done
-- the entry of the round's item after the commit
abbrev entry_after : Kind → ℕ → Entry → Entry
entry_after no_round x e = e
entry_after read_round x e = e
entry_after write_round x e = record { value = x; writes = e.writes + 1; changes = e.changes }
entry_after change_round x e = record { value = e.value; writes = e.writes; changes = e.changes + 1 }

-- its figures are that entry, and the copies follow it
record Finished (v : State) (f : Figures) (e : Entry) : Type 0 where
  value : f.first ≡ e.value
  writes : f.second ≡ e.writes
  changes : f.third ≡ e.changes
  kept : KeptFor v.n (both_put (own v) v.round.data_puts v.round.config_puts (stores f v.round.target)) e

module _ (v : State) (e : Entry) (k : KeptFor v.n (own v) e)
    (x : Current (found_by_version v) (found_by_generation v) e.value e.writes e.changes k.config) where
  finished : (kind : Kind) → idle kind ≡ false → written v kind ≡ true → ((kind ≡ change_round → ⊥) → v.round.config_puts ≡ 0)
      → Finished v (closing v kind) (entry_after kind v.round.value e)
  finished no_round i q z = clash refl i
  finished read_round i q z =
      record {
        value = x.value;
        writes = x.version;
        changes = x.generation;
        kept = kept_read_commit v.n (own v) _ _ _ k v.round.data_puts v.round.config_puts (stores (closing v read_round) v.round.target)
            (z (λ p. let r : ◌≡◌ {A = ℕ} 0 1 = cc in omega arith)) x.value x.version;
      }
  finished write_round i q z =
      record {
        value = refl;
        writes = rw x.version;
        changes = x.generation;
        kept = kept_write_commit v.n (own v) _ _ _ k v.round.data_puts v.round.config_puts (stores (closing v write_round) v.round.target)
            (z (λ p. let r : ◌≡◌ {A = ℕ} 0 1 = cc in omega arith)) (rw x.version) (rw x.config at q);
      }
  finished change_round i q z =
      record {
        value = x.value;
        writes = x.version;
        changes = rw x.generation;
        kept = kept_change_commit v.n (own v) _ _ _ k v.round.data_puts v.round.config_puts (stores (closing v change_round) v.round.target)
            x.value x.version (rw x.generation)
            (rw x.config at (and_right (holds_write v.round.target v.round.data_puts) _ q)) (and_left _ _ q);
      }

-- what the book's step does to its entries
module _ (items : List Entry) (i x : ℕ) (l : i < length items) where
  entry-own : (k : Kind) → entry (finish items (noted_of k i x)) i ≡ entry_after k x (entry items i)
  entry-own no_round = refl
  entry-own read_round = refl
  entry-own write_round = get_or-set_same items i _ (started 0) l
  entry-own change_round = get_or-set_same items i _ (started 0) l

  entry_other : (k : Kind) (j : ℕ) → (j ≡ i → ⊥) → entry (finish items (noted_of k i x)) j ≡ entry items j
  entry_other no_round j h = refl
  entry_other read_round j h = refl
  entry_other write_round j h = get_or-set_other items i j _ (started 0) h
  entry_other change_round j h = get_or-set_other items i j _ (started 0) h

  entries_kept : (k : Kind) → length (finish items (noted_of k i x)) ≡ length items
  entries_kept no_round = refl
  entries_kept read_round = refl
  entries_kept write_round = length-set items i _
  entries_kept change_round = length-set items i _

-- "in a read both put sets .. are zero; in a write the configuration puts .. are zero"
pub no_config_puts : (n : ℕ) (r : Round) (k : Kind) → RoundFacts n r k → (k ≡ change_round → ⊥) → r.config_puts ≡ 0
no_config_puts n r no_round f h = f.3
no_config_puts n r read_round f h = f.1
no_config_puts n r write_round f h = f.0
no_config_puts n r change_round f h = absurd (h refl)

module _ (v : State) (b : Book) (inv : Follows v b) (sound : StateSound v) (open? : v.round.kind ≡ no_round → ⊥) (listens : heard v ≡ true)
    (suffices : written v v.round.kind ≡ true) where
  abbrev i : ℕ
  i = v.round.item

  abbrev k : Kind
  k = v.round.kind

  listed : i < length b.items
  listed = let p = sound.item in let q = sound.few_items in rw inv.entries (omega arith)

  abbrev after : Entry
  after = entry_after k v.round.value (entry b.items i)

  result : Finished v (closing v k) after
  result =
      let kept = inv.kept i sound.item in
      let current = heard_current v.n (own v) _ _ _ v.round.polled kept (λ s l. sound.configs i s sound.item l) listens in
      finished v (entry b.items i) kept current k ((a_round k).1 open?) suffices (no_config_puts v.n v.round k sound.round)

  pub entry-after : entry (step b commit).items i ≡ after
  entry-after = rw inv.noted (entry-own b.items i v.round.value listed k)

  pub figures_after : ((closing v k).first ≡ after.value) × ((closing v k).second ≡ after.writes) × ((closing v k).third ≡ after.changes)
  figures_after = (result.value, result.writes, result.changes)

  -- the puts go to the copies of the round's item alone
  abbrev copies : Bool → ℕ → ℕ → Copy
  copies own? j s =
      stored (own? && member v.round.data_puts s) (own? && member v.round.config_puts s) (stores (closing v k) v.round.target) (v.copies j s)

  kept_after : (j : ℕ) → j < v.m → KeptFor v.n (copies (eqb j i) j) (entry (step b commit).items j)
  kept_after j h =
      by_cases (λ (x : Bool). eqb j i ≡ x → KeptFor v.n (copies x j) (entry (step b commit).items j)) (eqb j i)
      (λ _ e. rw (eqb-true j i e, entry-after) result.kept)
      (λ _ e. rw (inv.noted, entry_other b.items i v.round.value listed k j (eqb-false j i e)) (inv.kept j h)) refl

  pub keep_commit : Follows (next v commit) (step b commit)
  keep_commit =
      record {
        kept = kept_after;
        noted = refl;
        entries = rw inv.noted (entries_kept b.items i v.round.value listed k) ∙ inv.entries;
      }

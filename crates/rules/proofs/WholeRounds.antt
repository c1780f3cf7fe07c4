-- Whole rounds at stations on the bus: how the commit ends, by the stations polled and those with puts.
use mathlib.Core.Path.{◌≡◌, refl, sym, ap, ◌∙◌}
use mathlib.Core.Bool.{Bool, true, false, not, cond, ◌&&◌}
use mathlib.Core.List.{List, [], ◌∷◌, ◌++◌}
use mathlib.Core.Logic.{◌↔◌, inl, inr}
use Prim.Native.Nat.{ℕ, ◌^◌, ◌<◌, ◌≤◌}
use native.Mathlib.Omega.{arith}
use borrow.Author.Tests.{eqb-true, eq-eqb}
use Rattle.basics.specs.Bytes.{AreBytes}
use Rattle.basics.proofs.Tests.{clash}
use Rattle.plan.specs.Starts.{among, joined}
use Rattle.plan.proofs.Starts.{member_of}
use Rattle.quorum.specs.Promise.{◌⊆◌}
use Rattle.quorum.specs.Configurations.{valid, first_read, holds_write}
use Rattle.quorum.proofs.Promise.{promise}
use Rattle.form.specs.Form.{standard_form}
use Rattle.form.proofs.Laws.{form_writes}
use Rattle.layout.specs.Fields.{last_count, Copy, Kind, none, read, write, change, Round}
use Rattle.layout.specs.Newest.{IsNewest, by_version, by_generation, hears}
use Rattle.layout.specs.Rounds.{with_polled, with_puts}
use Rattle.layout.specs.View.{Table, State, view, on_bus}
use Rattle.layout.specs.Updates.{no_target}
use Rattle.layout.proofs.Contents.{SameWhole, by_fields}
use Rattle.layout.proofs.Fields.{opened}
use Rattle.layout.proofs.Soundness.{is_sound_lem}
use Rattle.layout.proofs.Held.{with_round}
use Rattle.layout.proofs.Newer.{heard_finds}
use Rattle.layout.proofs.Stored.{Small, copy_small}
use Rattle.rules.specs.Calls.{Call, open_read, open_write, open_change, commit, data_sort, config_sort}
use Rattle.rules.specs.Passed.{Passable}
use Rattle.rules.specs.Rules.{number_of, last, spent, written}
use Rattle.rules.specs.Figures.{figures_of, closing}
use Rattle.rules.specs.Reply.{reply_of, reply, after}
use Rattle.rules.specs.Lists.{replies, after_all}
use Rattle.rules.specs.Needs.{needs}
use Rattle.rules.specs.WholeRounds.{Opens, of_read, of_write, of_change, polls, puts, AllDone, Closes, SpentAmong}
use Rattle.rules.proofs.Judged.{a_round}
use Rattle.rules.proofs.Demand1.{Shows}
use Rattle.rules.proofs.Steps.{on_bus_lem}
use Rattle.rules.proofs.Laws.{done_allowed, next-view, length_kept, bytes_kept}
use Rattle.rules.proofs.Kept.{after-sound}
use Rattle.rules.proofs.Asking.{ThoseOn, all_data, all_config, Asking, same_reply, commit_number, AllPolled, all_polled, all_put}

-- ---- a commit's number
abbrev told : Bool → Bool → Bool → ℕ
told h s w = cond (not h) 8 (cond s 10 (cond (not w) 11 0))

closes_told : {H S N : Type 0} (h s w : Bool) → (h ≡ true) ↔ H → (h ≡ true → (s ≡ true) ↔ S) → (h ≡ true → s ≡ false → (w ≡ true) ↔ N)
    → Closes (told h s w) H S N
closes_told false s w hears spends writes =
    record {
      unheard = (λ e x. clash (hears.1 x) refl, λ n. refl);
      spent = (λ e. absurd (omega arith), λ x. clash (hears.1 x.0) refl);
      short = (λ e. absurd (omega arith), λ x. clash (hears.1 x.0) refl);
      finished = (λ e. absurd (omega arith), λ x. clash (hears.1 x.0) refl);
      no_other = inr (inl refl);
    }
closes_told true true w hears spends writes =
    record {
      unheard = (λ e. absurd (omega arith), λ n. absurd (n (hears.0 refl)));
      spent = (λ e. (hears.0 refl, (spends refl).0 refl), λ x. refl);
      short = (λ e. absurd (omega arith), λ x. absurd (x.1 ((spends refl).0 refl)));
      finished = (λ e. absurd (omega arith), λ x. absurd (x.1 ((spends refl).0 refl)));
      no_other = inr (inr (inl refl));
    }
closes_told true false true hears spends writes =
    record {
      unheard = (λ e. absurd (omega arith), λ n. absurd (n (hears.0 refl)));
      spent = (λ e. absurd (omega arith), λ x. clash ((spends refl).1 x.1) refl);
      short = (λ e. absurd (omega arith), λ x. absurd (x.2 ((writes refl refl).0 refl)));
      finished = (λ e. (hears.0 refl, λ x. clash ((spends refl).1 x) refl, (writes refl refl).0 refl), λ x. refl);
      no_other = inl refl;
    }
closes_told true false false hears spends writes =
    record {
      unheard = (λ e. absurd (omega arith), λ n. absurd (n (hears.0 refl)));
      spent = (λ e. absurd (omega arith), λ x. clash ((spends refl).1 x.1) refl);
      short = (λ e. (hears.0 refl, λ x. clash ((spends refl).1 x) refl, λ y. clash ((writes refl refl).1 y) refl), λ x. refl);
      finished = (λ e. absurd (omega arith), λ x. clash ((writes refl refl).1 x.2) refl);
      no_other = inr (inr (inr refl));
    }

-- ---- stations on the bus that join the empty set
pub joined_on : (v : State) → v.n ≤ 16 → (order : List ℕ) → ThoseOn v order → joined 0 order ⊆ on_bus v
joined_on v few order on s m =
    let low : (k : ℕ) → among order k ≡ true → k < 16 = λ k h. let x = ((on_bus_lem v few k).0 (on k h)).0 in omega arith in
    on s (sym (member_of order s low) ∙ m)

-- ---- a round opened on an item of a table
module _ (t : Table) (bytes : AreBytes t) (is_sound : (view t).is_sound ≡ true) (i : ℕ) (item : i < (view t).m) where
  abbrev v : State
  v = view t

  abbrev copies : ℕ → Copy
  copies = v.copies i

  pub few : v.n ≤ 16
  few = (is_sound_lem t is_sound).small

  -- the last number of a counter is the newest of some stations on the bus exactly if a copy of theirs has it
  spent_at : (counter : Copy → ℕ) (set b : ℕ) → set ⊆ on_bus v → counter (copies b) < 2 ^ 64 → IsNewest (λ s. counter (copies s)) set v.n b
      → (last (counter (copies b)) ≡ true) ↔ SpentAmong counter v i set
  spent_at counter set b on low n = (
    λ e. (b, n.in_set, eqb-true _ last_count e),
    λ x. let g = n.greatest x.0 ((on_bus_lem v few x.0).0 (on x.0 x.1)).0 x.1 in
        let e = x.2 in
        eq-eqb (counter (copies b)) last_count (omega arith),
  )

  small : (s : ℕ) → Small (copies s)
  unfolding view
  small s = copy_small t bytes _

  pub version_spent : (set : ℕ) → set ⊆ on_bus v → hears copies set v.n ≡ true
      → (last (by_version copies set v.n).version ≡ true) ↔ SpentAmong (λ c. c.version) v i set
  version_spent set on h =
      let f = heard_finds copies set v.n h in
      rw f.version (spent_at (λ c. c.version) set f.b on (small f.b).version f.newest_version)

  pub generation_spent : (set : ℕ) → set ⊆ on_bus v → hears copies set v.n ≡ true
      → (last (by_generation copies set v.n).generation ≡ true) ↔ SpentAmong (λ c. c.generation) v i set
  generation_spent set on h =
      let f = heard_finds copies set v.n h in
      rw f.generation (spent_at (λ c. c.generation) set f.g on (small f.g).generation f.newest_generation)

  -- ---- it polls some stations on the bus
  module _ (u : Table) (k : Kind) (x : ℕ) (target : List ℕ) (busy : k ≡ none → ⊥) (a : Asking v (opened k i x target) u) (order : List ℕ)
      (on : ThoseOn v order) where
    abbrev asked : ℕ → ℕ → Round
    asked d c = with_puts (with_polled (opened k i x target) (joined 0 order)) d c

    pub polled : AllPolled v is_sound few (opened k i x target) u order 0
    unfolding hears
    polled =
        all_polled v is_sound few order on (opened k i x target) u a item busy refl refl 0
        (sym ((promise.figure_none (first_read (by_generation copies 0 v.n).config 0)).1 (promise.none_read _)))

    -- the commit of the round with some puts
    ends : (y : Table) (d c : ℕ) → Asking v (asked d c) y
        → (reply y commit).number ≡ told (hears copies (joined 0 order) v.n) (spent (with_round v (asked d c)) k) (written (with_round v (asked d c)) k)
    unfolding reply_of
    ends y d c q = ap (λ r. r.number) (same_reply v is_sound few (asked d c) y q item commit) ∙ commit_number v is_sound few (asked d c) busy

  module _ (order : List ℕ) (on : ThoseOn v order) where
    abbrev heard : Bool
    heard = hears copies (joined 0 order) v.n

    -- ---- the read, and what it gives
    module _ (u : Table) (a : Asking v (opened read i 0 no_target) u) where
      abbrev reading : Round
      reading = with_polled (opened read i 0 no_target) (joined 0 order)

      read_polled : Asking v reading (after_all u (polls order))
      read_polled = (polled u read 0 no_target ((a_round read).0 refl) a order on).asking

      read_closes : {H : Type 0} → (heard ≡ true) ↔ H → Closes (reply (after_all u (polls order)) commit).number H ⊥ (Unit {0})
      read_closes h =
          rw (ends u read 0 no_target ((a_round read).0 refl) a order on _ 0 0 read_polled)
          (closes_told heard false true h (λ _. (λ e. clash e refl, λ x. absurd x)) (λ _ _. (λ _. tt, λ _. refl)))

      pub read_shows : (reply (after_all u (polls order)) commit).number ≡ 0
          → Shows (reply (after_all u (polls order)) commit) (closing (with_round v reading) read)
      unfolding reply_of figures_of
      read_shows e =
          let same = same_reply v is_sound few reading _ read_polled item commit in
          let done : number_of (with_round v reading) commit ≡ 0 = sym (ap (λ r. r.number) same) ∙ e in
          (ap (λ r. r.first) same ∙ rw done, ap (λ r. r.second) same ∙ rw done, ap (λ r. r.third) same ∙ rw done)

    -- ---- the write and the change, with data puts at some stations
    abbrev found : List ℕ
    found = (by_generation copies (joined 0 order) v.n).config

    module _ (places : List ℕ) (there : ThoseOn v places) where
      write_closes : (u : Table) (value : ℕ) → Asking v (opened write i value no_target) u → {H N : Type 0}
          → (heard ≡ true) ↔ H → (heard ≡ true → (holds_write found (joined 0 places) ≡ true) ↔ N)
          → Closes (reply (after_all (after_all u (polls order)) (puts data_sort places)) commit).number H
          (SpentAmong (λ c. c.version) v i (joined 0 order)) N
      write_closes u value a h w =
          let busy = (a_round write).0 refl in
          let p = polled u write value no_target busy a order on in
          let q = all_put v is_sound few data_sort (inl refl) places there _ _ p.asking item busy refl in
          rw (ends u write value no_target busy a order on _ q.data_puts q.config_puts q.asking)
          (closes_told heard (last (by_version copies (joined 0 order) v.n).version) (holds_write found q.data_puts) h
          (version_spent _ (joined_on v few order on))
          (λ x e. rw (ap (λ r. r.data_puts) (q.all x e ∙ all_data _ places)) (w x)))

      -- and configuration puts at some
      change_closes : (others : List ℕ) → ThoseOn v others → (u : Table) (target : List ℕ) → Asking v (opened change i 0 target) u → {H N : Type 0}
          → (heard ≡ true) ↔ H → (heard ≡ true → ((holds_write target (joined 0 places) && holds_write found (joined 0 others)) ≡ true) ↔ N)
          → Closes (reply (after_all (after_all (after_all u (polls order)) (puts data_sort places)) (puts config_sort others)) commit).number H
          (SpentAmong (λ c. c.generation) v i (joined 0 order)) N
      change_closes others elsewhere u target a h w =
          let busy = (a_round change).0 refl in
          let p = polled u change 0 target busy a order on in
          let q = all_put v is_sound few data_sort (inl refl) places there _ _ p.asking item busy refl in
          let z = all_put v is_sound few config_sort (inr refl) others elsewhere _ _ q.asking item busy refl in
          let spent? = last (by_generation copies (joined 0 order) v.n).generation in
          let data-there : heard ≡ true → (q.data_puts ≡ joined 0 places) × (q.config_puts ≡ 0) = λ x.
          let same = q.all x refl ∙ all_data _ places in (ap (λ r. r.data_puts) same, ap (λ r. r.config_puts) same) in
          let both-there : heard ≡ true → spent? ≡ false → (z.data_puts ≡ joined 0 places) × (z.config_puts ≡ joined 0 others) = λ x e.
          let same = z.all x e ∙ all_config _ others in (
            ap (λ r. r.data_puts) same ∙ (data-there x).0,
            ap (λ r. r.config_puts) same ∙ ap (λ c. joined c others) (data-there x).1,
          ) in
          rw (ends u change 0 target busy a order on _ z.data_puts z.config_puts z.asking)
          (closes_told heard spent? (holds_write target z.data_puts && holds_write found z.config_puts) h
          (generation_spent _ (joined_on v few order on)) (λ x e. rw ((both-there x e).0, (both-there x e).1) (w x)))

-- ---- from the opening on
after_both : (t : Table) (a b : List Call) → after_all t (a ++ b) ≡ after_all (after_all t a) b
unfolding after_all
after_both t [] b = refl
after_both t (c ∷ a) b = after_both (after t c) a b

-- an opening that is done leaves its round in the table's own state
pub record Begun (t : Table) (c : Call) (k : Kind) (i x : ℕ) (target : List ℕ) : Type 0 where
  pub is_sound : (view t).is_sound ≡ true
  pub item : i < (view t).m
  pub busy : k ≡ none → ⊥
  pub asking : Asking (view t) (opened k i x target) (after t c)

module _ (t : Table) (bytes : AreBytes t) (i : ℕ) where
  begins : (c : Call) (k : Kind) (x : ℕ) (target : List ℕ) → (k ≡ none → ⊥) → Passable c → (reply t c).number ≡ 0 → (view t).is_sound ≡ true → i < (view t).m
      → SameWhole (view (after t c)) (with_round (view t) (opened k i x target)) → Begun t c k i x target
  unfolding view
  begins c k x target busy p e s l same =
      record {
        is_sound = s;
        item = l;
        busy = busy;
        asking = record {
          bytes = bytes_kept t c bytes p;
          alike = record { is_sound = after-sound t c bytes p e ∙ sym s; fits = λ n m. rw (length_kept t c) refl; contents = by_fields same };
        };
      }

  pub read_begun : (reply t (open_read i)).number ≡ 0 → Begun t (open_read i) read i 0 no_target
  unfolding needs
  read_begun e =
      let c = open_read i in
      let a = done_allowed t c e in
      begins c read 0 no_target ((a_round read).0 refl) tt e a.0 a.1.0 (next-view t c e bytes tt)

  write_begun : (x : ℕ) → Passable (open_write i x) → (reply t (open_write i x)).number ≡ 0 → Begun t (open_write i x) write i x no_target
  unfolding needs
  write_begun x p e =
      let c = open_write i x in
      let a = done_allowed t c e in
      begins c write x no_target ((a_round write).0 refl) p e a.0 a.1.0 (next-view t c e bytes p)

  change_begun : (l : List ℕ) → Passable (open_change i l) → (reply t (open_change i l)).number ≡ 0
      → Begun t (open_change i l) change i 0 (standard_form (view t).n l)
  unfolding needs
  change_begun l p e =
      let c = open_change i l in
      let a = done_allowed t c e in
      begins c change 0 (standard_form (view t).n l) ((a_round change).0 refl) p e a.0 a.1.0 (next-view t c e bytes p)

  -- 3 is judged on the spelling given
  change_judged : (l : List ℕ) → (reply t (open_change i l)).number ≡ 0 → valid (view t).n l ≡ true
  unfolding needs
  change_judged l e = (promise.valid_exactly (view t).n l).1 (done_allowed t (open_change i l) e).1.1.0

  -- whichever it is
  pub begun : (c : Call) → Passable c → Opens c i → (reply t c).number ≡ 0 → (k : Kind) × (x : ℕ) × (target : List ℕ) × Begun t c k i x target
  begun c p of_read e = (read, 0, no_target, read_begun e)
  begun c p (of_write {value = x}) e = (write, x, no_target, write_begun x p e)
  begun c p (of_change {target = l}) e = (change, 0, standard_form (view t).n l, change_begun l p e)

  -- its polls of stations on the bus are done
  pub all_done : (c : Call) → Passable c → Opens c i → (reply t c).number ≡ 0 → (order : List ℕ) → ThoseOn (view t) order
      → AllDone (replies (after t c) (polls order))
  all_done c p o e order on =
      let b = begun c p o e in
      let x = b.3 in
      (polled t bytes x.is_sound i x.item (after t c) b.0 b.1 b.2 x.busy x.asking order on).done

  module _ (order : List ℕ) (on : ThoseOn (view t) order) where
    abbrev its_heard : Bool
    its_heard = hears ((view t).copies i) (joined 0 order) (view t).n

    abbrev its_found : List ℕ
    its_found = (by_generation ((view t).copies i) (joined 0 order) (view t).n).config

    pub read_ends : (reply t (open_read i)).number ≡ 0 → {H : Type 0} → (its_heard ≡ true) ↔ H
        → Closes (reply (after_all t (open_read i ∷ polls order)) commit).number H ⊥ (Unit {0})
    unfolding after_all
    read_ends e h = let b = read_begun e in read_closes t bytes b.is_sound i b.item order on _ b.asking h

    pub write_ends : (value : ℕ) → Passable (open_write i value) → (reply t (open_write i value)).number ≡ 0 → (places : List ℕ) → ThoseOn (view t) places
        → {H N : Type 0} → (its_heard ≡ true) ↔ H → (its_heard ≡ true → (holds_write its_found (joined 0 places) ≡ true) ↔ N)
        → Closes (reply (after_all t (open_write i value ∷ polls order ++ puts data_sort places)) commit).number H
        (SpentAmong (λ c. c.version) (view t) i (joined 0 order)) N
    unfolding after_all
    write_ends value p e places there h w =
        let b = write_begun value p e in
        rw (after_both (after t (open_write i value)) (polls order) (puts data_sort places))
        (write_closes t bytes b.is_sound i b.item order on places there _ value b.asking h w)

    pub change_ends : (target : List ℕ) → Passable (open_change i target) → (reply t (open_change i target)).number ≡ 0
        → (places others : List ℕ) → ThoseOn (view t) places → ThoseOn (view t) others → {H N : Type 0} → (its_heard ≡ true) ↔ H
        → (its_heard ≡ true → ((holds_write target (joined 0 places) && holds_write its_found (joined 0 others)) ≡ true) ↔ N)
        → Closes (reply (after_all t (open_change i target ∷ polls order ++ (puts data_sort places ++ puts config_sort others))) commit).number H
        (SpentAmong (λ c. c.generation) (view t) i (joined 0 order)) N
    unfolding after_all
    change_ends target p e places others there elsewhere h w =
        let b = change_begun target p e in
        let u = after t (open_change i target) in
        let last-puts = puts config_sort others in
        rw (after_both u (polls order) (puts data_sort places ++ last-puts) ∙ after_both (after_all u (polls order)) (puts data_sort places) last-puts)
        (change_closes t bytes b.is_sound i b.item order on places there others elsewhere u (standard_form (view t).n target) b.asking h
        (λ x. rw (form_writes (view t).n target (change_judged target e) (joined 0 places)) (w x)))

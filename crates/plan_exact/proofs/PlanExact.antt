-- Plan is exact.
use mathlib.Core.Path.{◌≡◌, refl, sym, ap, ◌∙◌}
use mathlib.Core.Bool.{Bool, true, false}
use mathlib.Core.List.{◌∷◌}
use mathlib.Core.Logic.{◌↔◌, ◌⊎◌, inl, inr, ⊎_elim}
use Prim.Native.Nat.{ℕ, zero, suc, ◌≤◌, ◌<◌}
use native.Mathlib.Omega.{arith}
use lib.Dec.{ltb}
use lib.ListN.{length}
use lib.Seq.{take-length}
use borrow.Author.Tests.{ltb-true, ltb-false}
use Rattle.basics.specs.Bytes.{AreBytes}
use Rattle.basics.proofs.Tests.{clash, either, fails, and_left, and_right, and_both}
use Rattle.plan.specs.Starts.{joined}
use Rattle.quorum.specs.Configurations.{write_set, place_figure, holds_write, valid}
use Rattle.quorum.specs.Promise.{QuorumIn, ◌⊆◌}
use Rattle.quorum.proofs.Promise.{promise}
use Rattle.layout.specs.Fields.{Copy, none}
use Rattle.layout.specs.Newest.{by_generation, hears}
use Rattle.layout.specs.Soundness.{sound}
use Rattle.layout.specs.View.{Table, State, view, on_bus}
use Rattle.layout.proofs.Soundness.{is_sound_lem}
use Rattle.layout.proofs.Newer.{by_generation_lem}
use Rattle.plan.specs.Plan.{order_on, lowest_on, start_on, planned_polls, planned_puts}
use Rattle.plan.proofs.Starts.{in_set_lem, start-part, start_more}
use Rattle.plan.proofs.Plan.{polls-listed, all-started, heard_then, unheard_before, written_from, unwritten}
use Rattle.rules.specs.Calls.{Call, open_read, open_write, commit, reach, plan}
use Rattle.rules.specs.Passed.{Passable}
use Rattle.rules.specs.Rules.{number_of, refusals, tests}
use Rattle.rules.specs.Figures.{figures_of}
use Rattle.rules.specs.Reply.{reply_of, reply, after}
use Rattle.rules.specs.Lists.{replies, after_all}
use Rattle.rules.specs.Book.{Book, fed}
use Rattle.rules.specs.Needs.{needs, InHearing}
use Rattle.rules.specs.Demand2.{HeardBy}
use Rattle.rules.specs.Steps.{SameCopies, RisingOnBus, Enough, Planned}
use Rattle.rules.specs.WholeRounds.{Opens, polls}
use Rattle.rules.proofs.Judged.{numbered}
use Rattle.rules.proofs.Quorums.{heard_by_lem}
use Rattle.rules.proofs.Demand1.{reply_figures}
use Rattle.rules.proofs.Demand3.{after_lists}
use Rattle.rules.proofs.Steps.{few_on, order_on_lem, three, heard-first, plan_step}
use Rattle.rules.proofs.Laws.{done_allowed}
use Rattle.rules.proofs.Alike.{no_round_matters}
use Rattle.rules.proofs.Asking.{ThoseOn}
use Rattle.rules.proofs.Book.{Follows}
use Rattle.rules.proofs.Copies.{heard_current, heard_grows}
use Rattle.rules.proofs.WholeRounds.{begun, all_done, read_ends, write_ends, change_ends}
use Rattle.rules.proofs.Reading.{gives_entry, gives_after_abandon}
use Rattle.rules.proofs.OnTheBus.{all_heard, can_write, zero_told, write_told, reach_figure_lem}
use Rattle.plan_exact.specs.PlanExact.{FirstHeardAt, NeverHeard, PlannedRounds, OverLists, PlanExact}
use Rattle.plan_exact.proofs.Rising.{EachShows, each_shows, as_many, first-heard, never_heard}

any_round : (t u : Table) (i : ℕ) → sound t ≡ true → sound u ≡ true → SameCopies (view t) (view u) → (view u).off ≡ (view t).off
    → reply u (plan i) ≡ reply t (plan i)
unfolding reply_of number_of refusals tests figures_of
any_round t u i = no_round_matters (plan i) (λ w r. refl) t u

book_kept : (b : Book) (i number : ℕ) → fed b (plan i) number ≡ b
unfolding fed
book_kept b i zero = refl
book_kept b i (suc k) = refl

module _ (t : Table) (i : ℕ) where
  abbrev v : State
  v = view t

  abbrev copies : ℕ → Copy
  copies = v.copies i

  abbrev number : ℕ
  number = (reply t (plan i)).number

  -- ---- its number, by its three needs
  abbrev Told : ℕ → Type 0
  Told k = ((v.is_sound ≡ true → ⊥) × (k ≡ 1))
      ⊎ ((v.is_sound ≡ true) × (((i < v.m → ⊥) × (k ≡ 2)) ⊎ ((i < v.m) × (((InHearing v i → ⊥) × (k ≡ 15)) ⊎ (InHearing v i × (k ≡ 0))))))

  told : Told number
  unfolding needs
  told = (numbered.number_exactly t (plan i) number).0 refl

  -- reach's two needs are its first two
  refused_as_reach : (k : ℕ) → (k ≡ 1) ⊎ (k ≡ 2) → (number ≡ k) ↔ ((reply t (reach i)).number ≡ k)
  unfolding needs
  refused_as_reach k which = go told ((numbered.number_exactly t (reach i) (reply t (reach i)).number).0 refl)
    where
      far : (k ≡ 0 → ⊥) × (k ≡ 15 → ⊥)
      far = (λ e. ⊎_elim (λ z. omega arith) (λ z. omega arith) which, λ e. ⊎_elim (λ z. omega arith) (λ z. omega arith) which)

      same : {j : ℕ} → number ≡ j → (reply t (reach i)).number ≡ j → (number ≡ k) ↔ ((reply t (reach i)).number ≡ k)
      same a b = (λ e. b ∙ sym a ∙ e, λ e. a ∙ sym b ∙ e)

      go : Told number
          → ((v.is_sound ≡ true → ⊥) × ((reply t (reach i)).number ≡ 1))
          ⊎ ((v.is_sound ≡ true) × (((i < v.m → ⊥) × ((reply t (reach i)).number ≡ 2)) ⊎ ((i < v.m) × ((reply t (reach i)).number ≡ 0))))
          → (number ≡ k) ↔ ((reply t (reach i)).number ≡ k)
      go (inl x) (inl y) = same x.1 y.1
      go (inl x) (inr y) = absurd (x.0 y.0)
      go (inr x) (inl y) = absurd (y.0 x.0)
      go (inr (_, inl x)) (inr (_, inl y)) = same x.1 y.1
      go (inr (_, inl x)) (inr (_, inr y)) = absurd (x.0 y.0)
      go (inr (_, inr x)) (inr (_, inl y)) = absurd (y.0 x.0)
      go (inr (_, inr (_, inl x))) (inr (_, inr y)) = (λ e. absurd (far.1 (sym e ∙ x.1)), λ e. absurd (far.0 (sym e ∙ y.1)))
      go (inr (_, inr (_, inr x))) (inr (_, inr y)) = same x.1 y.1

  -- on a sound table that has the item
  no_other : (reply t (reach i)).number ≡ 0 → (number ≡ 0) ⊎ (number ≡ 15)
  unfolding needs
  no_other e = let a = done_allowed t (reach i) e in go a.0 a.1.0 told
    where
      go : v.is_sound ≡ true → i < v.m → Told number → (number ≡ 0) ⊎ (number ≡ 15)
      go s l (inl x) = absurd (x.0 s)
      go s l (inr (_, inl x)) = absurd (x.0 l)
      go s l (inr (_, inr (_, inl x))) = inr x.1
      go s l (inr (_, inr (_, inr x))) = inl x.1

  -- where it gets 15, the table is sound and has the item, but no start is heard
  pub record OutOfHearing : Type 0 where
    pub is_sound : v.is_sound ≡ true
    pub item : i < v.m
    pub none_heard : InHearing v i → ⊥

  out_of_hearing : number ≡ 15 → OutOfHearing
  out_of_hearing e = go told
    where
      go : Told number → OutOfHearing
      go (inl x) = let z = x.1 in absurd (omega arith)
      go (inr (s, inl x)) = let z = x.1 in absurd (omega arith)
      go (inr (s, inr (l, inl x))) = record { is_sound = s; item = l; none_heard = x.0 }
      go (inr (s, inr (l, inr x))) = let z = x.1 in absurd (omega arith)

  unheard_start : number ≡ 15 → (k : ℕ) → hears copies (start_on v k) v.n ≡ false
  unheard_start e k =
      fails (hears copies (start_on v k) v.n)
      (λ h. let x = (heard_by_lem v i (start_on v k)).0 h in (out_of_hearing e).none_heard (k, x.0, x.1))

  -- ---- the stations on the bus in rising number
  those_on : (k : ℕ) → ThoseOn v (lowest_on v k)
  those_on k s m = in_set_lem (on_bus v) k s m

  all_on : ThoseOn v (order_on v)
  all_on s m = those_on (length (order_on v)) s (rw (take-length (order_on v)) m)

  -- what each of the polls shows after an opening: whether those up to it are heard
  abbrev heard_up_to : ℕ → Bool
  heard_up_to k = hears copies (start_on v (suc k)) v.n

  each_poll : AreBytes t → (c : Call) → Passable c → Opens c i → (reply t c).number ≡ 0
      → EachShows heard_up_to (replies (after t c) (polls (order_on v)))
  each_poll bytes c pass o d =
      let x = (begun t bytes i c pass o d).3 in
      each_shows v x.is_sound (is_sound_lem t x.is_sound).small (order_on v) all_on _ (after t c) x.asking x.item x.busy refl refl

  -- all of them make the stations on the bus
  whole : v.is_sound ≡ true → joined 0 (order_on v) ≡ on_bus v
  whole s = rw (take-length (order_on v)) at (all-started copies (on_bus v) v.n (few_on v (is_sound_lem t s).small))

  -- ---- where it is done
  module _ (e : number ≡ 0) where
    abbrev p : ℕ
    p = place_figure (planned_polls v i)

    abbrev q : ℕ
    q = place_figure (planned_puts v i)

    asked : (v.is_sound ≡ true) × (i < v.m) × InHearing v i
    unfolding needs
    asked = let a = done_allowed t (plan i) e in (a.0, a.1.0, a.1.1.0)

    figures : ((reply t (plan i)).first ≡ p) × ((reply t (plan i)).second ≡ q)
    unfolding figures_of
    figures = let f = reply_figures t (plan i) e in (f.0, f.1)

    shows : Planned v i (reply t (plan i))
    shows = plan_step v i (is_sound_lem t asked.0) asked.2 (reply t (plan i)) (reply_figures t (plan i) e)

    positive : 1 ≤ p
    positive = heard-first v i (is_sound_lem t asked.0) asked.2

    -- of the starts up to p stations the last alone is heard
    heard-last : (k : ℕ) → k ≤ p → (hears copies (start_on v k) v.n ≡ true) ↔ (k ≡ p)
    heard-last k l = (
      λ h. either (ltb k p)
          (λ m. clash h (unheard_before copies (on_bus v) v.n k (ltb-true k p m)))
          (λ m. let g = ltb-false k p m in omega arith),
      λ z. rw z (heard_then copies (on_bus v) v.n positive),
    )

    -- and the puts at k stations are enough by what it finds
    enough : (j k : ℕ) → j ≤ p → hears copies (start_on v j) v.n ≡ true
        → (holds_write (by_generation copies (start_on v j) v.n).config (start_on v k) ≡ true) ↔ Enough q k
    enough j k l h =
        let its = ap (λ m. (by_generation copies (start_on v m) v.n).config) (sym ((heard-last j l).0 h)) in
        written_from copies (on_bus v) v.n its k

    module _ (bytes : AreBytes t) where
      hears-planned : (c : Call) → Passable c → Opens c i → (reply t c).number ≡ 0 → FirstHeardAt p (replies (after t c) (polls (order_on v)))
      hears-planned c pass o d = go p refl
        where
          go : (m : ℕ) → p ≡ m → FirstHeardAt p (replies (after t c) (polls (order_on v)))
          go zero z = let l = positive in absurd (omega arith)
          go (suc m) z =
              let listed = polls-listed copies (on_bus v) v.n in
              let many = as_many (order_on v) (after t c) in
              rw z (first-heard heard_up_to (replies (after t c) (polls (order_on v))) (each_poll bytes c pass o d) m (omega arith)
              (λ k l. unheard_before copies (on_bus v) v.n (suc k) (omega arith)) (rw z at (heard_then copies (on_bus v) v.n positive)))

      -- with no open round a read and a write are opened
      module _ (idle : v.round.kind ≡ none) where
        opens_read : (reply t (open_read i)).number ≡ 0
        unfolding needs
        opens_read = (numbered.done_exactly t (open_read i)).1 (asked.0, (asked.1, (idle, tt)))

        opens_write : (value : ℕ) → (reply t (open_write i value)).number ≡ 0
        unfolding needs
        opens_write value = (numbered.done_exactly t (open_write i value)).1 (asked.0, (asked.1, (idle, tt)))

        rounds_planned : PlannedRounds t i p q
        rounds_planned =
            record {
              hears = λ c pass o d. (all_done t bytes i c pass o d (order_on v) all_on, hears-planned c pass o d);
              reads = λ j l. read_ends t bytes i (lowest_on v j) (those_on j) opens_read (heard-last j l);
              writes = λ j k value l pass.
                  write_ends t bytes i (lowest_on v j) (those_on j) value pass (opens_write value) (lowest_on v k) (those_on k) (heard-last j l) (enough j k l);
              changes = λ j k target l pass d. let held = promise.holds_write_lem target (on_bus v) in
                  change_ends t bytes i (lowest_on v j) (those_on j) target pass d (order_on v) (lowest_on v k) all_on (those_on k)
                  {N = QuorumIn (write_set target) (on_bus v) × Enough q k} (heard-last j l)
                  (λ h. let found = holds_write (by_generation copies (start_on v j) v.n).config (start_on v k) in
                  rw (whole asked.0) (
                    λ w. (held.0 (and_left (holds_write target (on_bus v)) found w), (enough j k l h).0 (and_right (holds_write target (on_bus v)) found w)),
                    λ w. and_both (holds_write target (on_bus v)) found (held.1 w.0) ((enough j k l h).1 w.1),
                  ));
            }

        rounds : PlannedRounds t i (reply t (plan i)).first (reply t (plan i)).second
        rounds = rw (figures.0, figures.1) rounds_planned

-- ---- 15
never : (t : Table) (c : Call) (i : ℕ) → AreBytes t → Passable c → Opens c i → (reply t c).number ≡ 0 → (reply t (plan i)).number ≡ 15
    → NeverHeard (replies (after t c) (polls (order_on (view t))))
never t c i bytes pass o d e =
    let answers = replies (after t c) (polls (order_on (view t))) in
    never_heard (heard_up_to t i) answers (each_poll t i bytes c pass o d) (λ k. unheard_start t i e (suc k))

-- the read of any start
unread : (t : Table) (i k : ℕ) → AreBytes t → (reply t (plan i)).number ≡ 15 → (view t).round.kind ≡ none
    → (reply (after_all t (open_read i ∷ polls (lowest_on (view t) k))) commit).number ≡ 8
unfolding needs
unread t i k bytes e idle =
    let x = out_of_hearing t i e in
    let opens = (numbered.done_exactly t (open_read i)).1 (x.is_sound, (x.item, (idle, tt))) in
    (read_ends t bytes i (lowest_on (view t) k) (those_on t i k) opens {H = ⊥} (λ h. clash h (unheard_start t i e k), λ z. absurd z)).unheard.1 (λ z. z)

in_order : (t : Table) → sound t ≡ true → RisingOnBus (view t)
unfolding view
in_order t s = order_on_lem (view t) (is_sound_lem t s).small

-- ---- a table that follows the book
module _ (t : Table) (b : Book) (bytes : AreBytes t) (is_sound : sound t ≡ true) (inv : Follows (view t) b) where
  abbrev now : State
  now = view t

  sound_now : now.is_sound ≡ true
  unfolding view
  sound_now = is_sound

  module _ (i : ℕ) (item : i < now.m) where
    valid_there : (s : ℕ) → s < now.n → valid now.n (now.copies i s).config ≡ true
    valid_there s l = (is_sound_lem t sound_now).configs i s item l

    -- more polls keep a round heard, and every heard round finds the same configuration
    grows : (set more : ℕ) → set ⊆ more → hears (now.copies i) set now.n ≡ true → hears (now.copies i) more now.n ≡ true
    grows set more inside h = heard_grows now.n (now.copies i) _ _ _ set (inv.kept i item) valid_there more inside h

    same_config : (set more : ℕ) → hears (now.copies i) set now.n ≡ true → hears (now.copies i) more now.n ≡ true
        → (by_generation (now.copies i) set now.n).config ≡ (by_generation (now.copies i) more now.n).config
    same_config set more h k =
        let current = heard_current now.n (now.copies i) _ _ _ in
        (current set (inv.kept i item) valid_there h).config ∙ sym (current more (inv.kept i item) valid_there k).config

    reached : (reply t (reach i)).first ≡ three (all_heard now i) (can_write now i)
    reached = reach_figure_lem t bytes i sound_now item

  -- ---- where plan is done
  module _ (i : ℕ) (e : (reply t (plan i)).number ≡ 0) where
    item : i < now.m
    item = (asked t i e).1

    heard-first-polls : hears (now.copies i) (start_on now (reply t (plan i)).first) now.n ≡ true
    heard-first-polls = rw (figures t i e).0 (heard_then (now.copies i) (on_bus now) now.n (positive t i e))

    all-heard : all_heard now i ≡ true
    all-heard = grows i item _ (on_bus now) (start-part (on_bus now) (reply t (plan i)).first) heard-first-polls

    -- as many polls as planned, or more
    module _ (j : ℕ) (l : (reply t (plan i)).first ≤ j) where
      heard_on : hears (now.copies i) (start_on now j) now.n ≡ true
      heard_on = grows i item _ (start_on now j) (start_more (on_bus now) _ j l) heard-first-polls

      stays_heard : (g : ℕ) × HeardBy now i (start_on now j) g
          × ((k : ℕ) → QuorumIn (write_set (now.copies i g).config) (start_on now k) ↔ Enough (reply t (plan i)).second k)
      stays_heard =
          let x = (heard_by_lem now i (start_on now j)).0 heard_on in
          let g = x.0 in
          let found = ap (λ c. c.config) (by_generation_lem (now.copies i) (start_on now j) now.n g x.1.0) in
          let its = rw (figures t i e).0 at (same_config i item _ (start_on now j) heard-first-polls heard_on) ∙ found in
          let held = promise.holds_write_lem (now.copies i g).config in
          let written = written_from (now.copies i) (on_bus now) now.n its in
          (g, x.1, λ k. rw (figures t i e).1 (λ w. (written k).0 ((held (start_on now k)).1 w), λ w. (held (start_on now k)).0 ((written k).1 w)))

    -- the stations on the bus find what those polls find, so that they hold a write set of it exactly if reach says so
    can_write_lem : (1 ≤ (reply t (plan i)).second) ↔ ((reply t (reach i)).first ≡ 3)
    can_write_lem =
        let its = rw (figures t i e).0 at (same_config i item _ (on_bus now) heard-first-polls all-heard) in
        let none = unwritten (now.copies i) (on_bus now) now.n its (few_on now (is_sound_lem t sound_now).small) in
        let three = write_told (all_heard now i) (can_write now i) all-heard in
        rw ((figures t i e).1, reached i item) (
          λ l. three.0 (either (can_write now i) (λ c. c) (λ c. let z = none.1 c in absurd (omega arith))),
          λ z. above_zero _ (λ n. clash (three.1 z) (none.0 n)),
        )
      where
        above_zero : (q : ℕ) → (q ≡ 0 → ⊥) → 1 ≤ q
        above_zero q n = omega arith

  -- ---- where it gets 15
  unheard_bus : (i : ℕ) → (reply t (plan i)).number ≡ 15 → all_heard now i ≡ false
  unheard_bus i e = rw (take-length (order_on now), whole t i sound_now) at (unheard_start t i e (length (order_on now)))

  out_of_reach : (i : ℕ) → (reply t (reach i)).number ≡ 0 → ((reply t (plan i)).number ≡ 15) ↔ ((reply t (reach i)).first ≡ 0)
  unfolding needs
  out_of_reach i d =
      let item = (done_allowed t (reach i) d).1.0 in
      let zero = zero_told (all_heard now i) (can_write now i) in (
        λ e. reached i item ∙ zero.1 (unheard_bus i e),
        λ z. ⊎_elim (λ done. clash (all-heard i done) (zero.0 (sym (reached i item) ∙ z))) (λ e. e) (no_other t i d),
      )

  over_list : OverLists t b
  over_list =
      record {
        stays_heard = λ i j e. stays_heard i e j;
        reads_the_book = λ i j e l. gives_entry t b bytes is_sound inv i (item i e) (lowest_on now j) (those_on t i j) (heard_on i e j l);
        reads_after_abandon = λ i j e l. gives_after_abandon t b bytes is_sound inv i (item i e) (lowest_on now j) (those_on t i j) (heard_on i e j l);
        out_of_reach = out_of_reach;
        can_write_lem = can_write_lem;
      }

pub plan_exact : PlanExact
plan_exact =
    record {
      any_round = any_round;
      refused_as_reach = refused_as_reach;
      no_other = no_other;
      order = in_order;
      shows = shows;
      rounds = λ t i b e. rounds t i e b;
      no_start = λ t i e k g x. (out_of_hearing t i e).none_heard (k, g, x);
      never_heard = never;
      unread = unread;
      over_lists = after_lists OverLists over_list;
      book_kept = book_kept;
    }

-- Rounds that poll all stations on the bus, and have puts at them, get what reach's figure says: on every table.
use mathlib.Core.Path.{◌≡◌, refl, sym, ◌∙◌}
use mathlib.Core.Bool.{Bool, true, false}
use mathlib.Core.List.{List, ◌∷◌, ◌++◌}
use mathlib.Core.Logic.{◌↔◌, inl, inr, ⊎_elim}
use Prim.Native.Nat.{ℕ, ◌≤◌, ◌<◌}
use native.Mathlib.Omega.{arith}
use Rattle.basics.specs.Bytes.{AreBytes}
use Rattle.basics.proofs.Tests.{clash, and_left, and_right, and_both}
use Rattle.quorum.specs.Sets.{member}
use Rattle.plan.specs.Starts.{among, joined}
use Rattle.plan.proofs.Starts.{member_of}
use Rattle.quorum.specs.Promise.{QuorumIn}
use Rattle.quorum.specs.Configurations.{write_set, first_read, holds_write}
use Rattle.quorum.proofs.Promise.{promise}
use Rattle.layout.specs.Newest.{by_generation, hears}
use Rattle.layout.specs.View.{Table, State, view, on_bus}
use Rattle.layout.proofs.Soundness.{is_sound_lem}
use Rattle.rules.specs.Calls.{Call, open_read, open_write, open_change, commit, reach, data_sort, config_sort}
use Rattle.rules.specs.Passed.{Passable}
use Rattle.rules.specs.Figures.{figures_of}
use Rattle.rules.specs.Reply.{reply, after}
use Rattle.rules.specs.Lists.{replies, after_all}
use Rattle.rules.specs.Needs.{needs}
use Rattle.rules.specs.WholeRounds.{Opens, of_read, of_write, of_change, polls, puts, Closes, SpentAmong}
use Rattle.rules.specs.ReachExact.{AllOn, Readable, PollsSay}
use Rattle.rules.proofs.Judged.{numbered}
use Rattle.rules.proofs.Demand1.{reply_figures}
use Rattle.rules.proofs.Steps.{on_bus_lem, three}
use Rattle.rules.proofs.Quorums.{place_shown}
use Rattle.rules.proofs.Asking.{ThoseOn}
use Rattle.rules.proofs.WholeRounds.{polled, begun, read_ends, write_ends, change_ends}

-- ---- all stations on the bus join the empty set
pub all-joined : (v : State) → v.n ≤ 16 → (order : List ℕ) → AllOn v order → joined 0 order ≡ on_bus v
all-joined v few order all =
    let low : (s : ℕ) → among order s ≡ true → s < 16 = λ s m. let x = ((on_bus_lem v few s).0 (sym (all s) ∙ m)).0 in omega arith in
    let same : (i : ℕ) → member (joined 0 order) i ≡ member (on_bus v) i = λ i. member_of order i low ∙ all i in
    promise.same_members (joined 0 order) (on_bus v) (λ i m. sym (same i) ∙ m) (λ i m. same i ∙ m)

-- ---- what the figure's two tests say
abbrev pub all_heard : State → ℕ → Bool
all_heard v i = hears (v.copies i) (on_bus v) v.n

abbrev pub can_write : State → ℕ → Bool
can_write v i = holds_write (by_generation (v.copies i) (on_bus v) v.n).config (on_bus v)

pub reads_told : (h w : Bool) → Readable (three h w) ↔ (h ≡ true)
reads_told true true = (λ r. refl, λ e. inr refl)
reads_told true false = (λ r. refl, λ e. inl refl)
reads_told false w = (λ r. absurd (⊎_elim (λ e. omega arith) (λ e. omega arith) r), λ e. clash e refl)

pub zero_told : (h w : Bool) → (three h w ≡ 0) ↔ (h ≡ false)
zero_told true true = (λ e. absurd (omega arith), λ e. clash refl e)
zero_told true false = (λ e. absurd (omega arith), λ e. clash refl e)
zero_told false w = (λ e. refl, λ e. refl)

pub no_write_told : (h w : Bool) → three h w ≡ 1 → w ≡ false
no_write_told true true e = absurd (omega arith)
no_write_told true false e = refl
no_write_told false w e = absurd (omega arith)

pub write_told : (h w : Bool) → h ≡ true → (w ≡ true) ↔ (three h w ≡ 3)
write_told true true e = (λ _. refl, λ _. refl)
write_told true false e = (λ q. clash q refl, λ q. absurd (omega arith))
write_told false w e = clash e refl

-- two facts that a third tells
via : {A B C : Type 0} → A ↔ B → C ↔ B → A ↔ C
via p q = (λ a. q.1 (p.0 a), λ c. p.1 (q.0 c))

-- ---- one table, and one of its items
module _ (t : Table) (bytes : AreBytes t) (i : ℕ) where
  abbrev v : State
  v = view t

  abbrev on : ℕ
  on = on_bus v

  abbrev figure : ℕ
  figure = (reply t (reach i)).first

  pub reach_figure_lem : v.is_sound ≡ true → i < v.m → figure ≡ three (all_heard v i) (can_write v i)
  unfolding needs figures_of
  reach_figure_lem s item = (reply_figures t (reach i) ((numbered.done_exactly t (reach i)).1 (s, (item, tt)))).0

  -- an opening of the item that is done, and polls of them all
  module _ (c : Call) (p : Passable c) (o : Opens c i) (e : (reply t c).number ≡ 0) (order : List ℕ) (all : AllOn v order) where
    its : figure ≡ three (all_heard v i) (can_write v i)
    its = let b = (begun t bytes i c p o e).3 in reach_figure_lem b.is_sound b.item

    few : v.n ≤ 16
    few = (is_sound_lem t (begun t bytes i c p o e).3.is_sound).small

    on_all : (places : List ℕ) → AllOn v places → ThoseOn v places
    on_all places there s m = sym (there s) ∙ m

    heard_told : (hears (v.copies i) (joined 0 order) v.n ≡ true) ↔ Readable figure
    heard_told = rw (all-joined v few order all, its) ((reads_told (all_heard v i) (can_write v i)).1, (reads_told (all_heard v i) (can_write v i)).0)

    -- a heard round of theirs has written a write set of what it found at them all exactly if the figure is 3
    three_told : hears (v.copies i) (joined 0 order) v.n ≡ true
        → (holds_write (by_generation (v.copies i) (joined 0 order) v.n).config on ≡ true) ↔ (figure ≡ 3)
    three_told h = rw (all-joined v few order all, its) (write_told (all_heard v i) (can_write v i) (rw (all-joined v few order all) at h))

    pub exact_hears : PollsSay v i figure (replies (after t c) (polls order))
    unfolding hears
    exact_hears =
        let begins = begun t bytes i c p o e in
        let b = begins.3 in
        let q = polled t bytes b.is_sound i b.item (after t c) begins.0 begins.1 begins.2 b.busy b.asking order (on_all order all) in
        let says = rw (all-joined v few order all) at q.says in
        let config = (by_generation (v.copies i) on v.n).config in
        let heard = via (promise.figure_place (first_read config on)) (reads_told (all_heard v i) (can_write v i)) in
        let unheard = via (promise.figure_none (first_read config on)) (zero_told (all_heard v i) (can_write v i)) in
        record { done = q.done; place = rw says (place_shown v i on); heard = rw (says, its) heard; unheard = rw (says, its) unheard }

  -- ---- the read, the write and the change
  pub exact_reads : (e : (reply t (open_read i)).number ≡ 0) (order : List ℕ) → AllOn v order
      → Closes (reply (after_all t (open_read i ∷ polls order)) commit).number (Readable figure) ⊥ (Unit {0})
  exact_reads e order all =
      read_ends t bytes i order (λ s m. sym (all s) ∙ m) e (heard_told (open_read i) tt of_read e order all)

  pub exact_writes : (value : ℕ) (p : Passable (open_write i value)) (e : (reply t (open_write i value)).number ≡ 0) (order places : List ℕ)
      → AllOn v order → AllOn v places
      → Closes (reply (after_all t (open_write i value ∷ polls order ++ puts data_sort places)) commit).number (Readable figure)
      (SpentAmong (λ c. c.version) v i on) (figure ≡ 3)
  exact_writes value p e order places all there =
      let few = (is_sound_lem t (begun t bytes i (open_write i value) p of_write e).3.is_sound).small in
      let closes = write_ends t bytes i order (λ s m. sym (all s) ∙ m) value p e places (λ s m. sym (there s) ∙ m) {N = figure ≡ 3}
      (heard_told (open_write i value) p of_write e order all)
      (rw (all-joined v few places there) (three_told (open_write i value) p of_write e order all)) in
      rw (all-joined v few order all) at closes

  pub exact_changes : (target : List ℕ) (p : Passable (open_change i target)) (e : (reply t (open_change i target)).number ≡ 0) (order places others : List ℕ)
      → AllOn v order → AllOn v places → AllOn v others
      → Closes (reply (after_all t (open_change i target ∷ polls order ++ (puts data_sort places ++ puts config_sort others))) commit).number (Readable figure)
      (SpentAmong (λ c. c.generation) v i on) ((figure ≡ 3) × QuorumIn (write_set target) on)
  exact_changes target p e order places others all there elsewhere =
      let few = (is_sound_lem t (begun t bytes i (open_change i target) p of_change e).3.is_sound).small in
      let held = promise.holds_write_lem target on in
      let three = three_told (open_change i target) p of_change e order all in
      let closes = change_ends t bytes i order (λ s m. sym (all s) ∙ m) target p e places others (λ s m. sym (there s) ∙ m) (λ s m. sym (elsewhere s) ∙ m)
      {N = (figure ≡ 3) × QuorumIn (write_set target) on} (heard_told (open_change i target) p of_change e order all)
      (λ h. rw (all-joined v few places there, all-joined v few others elsewhere) (
        λ w. ((three h).0 (and_right (holds_write target on) _ w), held.0 (and_left (holds_write target on) _ w)),
        λ w. and_both (holds_write target on) _ (held.1 w.1) ((three h).1 w.0),
      )) in
      rw (all-joined v few order all) at closes

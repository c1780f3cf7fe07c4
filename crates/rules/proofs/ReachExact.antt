-- Reach is exact. Over every list of demand 3 the table follows the book, so that a heard round has found the current configuration, and more polls keep it
-- heard: where all stations on the bus are not heard, no part of them is, and where they are, they give what is current.
use mathlib.Core.Path.{◌≡◌, refl, sym, ap, ◌∙◌}
use mathlib.Core.Bool.{true, false}
use mathlib.Core.List.{List}
use mathlib.Core.Logic.{inl, ⊎_elim}
use Prim.Native.Nat.{ℕ, zero, suc, ◌<◌}
use native.Mathlib.Omega.{arith}
use Rattle.basics.specs.Bytes.{AreBytes}
use Rattle.basics.proofs.Tests.{clash, fails}
use Rattle.plan.specs.Starts.{joined}
use Rattle.quorum.specs.Configurations.{write_set, valid}
use Rattle.quorum.specs.Promise.{QuorumIn, ◌⊆◌}
use Rattle.quorum.proofs.Promise.{promise}
use Rattle.layout.specs.Newest.{by_generation, hears}
use Rattle.layout.specs.Soundness.{sound}
use Rattle.layout.specs.View.{Table, State, view, on_bus}
use Rattle.layout.proofs.Soundness.{is_sound_lem}
use Rattle.layout.proofs.Newer.{by_generation_lem}
use Rattle.rules.specs.Calls.{reach}
use Rattle.rules.specs.Rules.{number_of, refusals, tests}
use Rattle.rules.specs.Figures.{figures_of}
use Rattle.rules.specs.Reply.{reply_of, reply}
use Rattle.rules.specs.Book.{Book}
use Rattle.rules.specs.Needs.{needs}
use Rattle.rules.specs.Steps.{SameCopies}
use Rattle.rules.specs.Demand2.{HeardBy}
use Rattle.rules.specs.ReachExact.{AllOn, Readable, OutOfReach, OverLists, ReachExact}
use Rattle.rules.proofs.Quorums.{heard_by_lem}
use Rattle.rules.proofs.Demand1.{refusal_has_no_figures}
use Rattle.rules.proofs.Copies.{heard_current, heard_grows}
use Rattle.rules.proofs.Book.{Follows}
use Rattle.rules.proofs.Steps.{three}
use Rattle.rules.proofs.Laws.{done_allowed}
use Rattle.rules.proofs.Demand3.{after_lists}
use Rattle.rules.proofs.OnTheBus.{all-joined, all_heard, can_write, no_write_told, reads_told, zero_told, reach_figure_lem}
use Rattle.rules.proofs.OnTheBus.{exact_hears, exact_reads, exact_writes, exact_changes}
use Rattle.rules.proofs.Alike.{no_round_matters}
use Rattle.rules.proofs.Reading.{gives_entry, gives_after_abandon}
use Rattle.rules.proofs.OutOfReach.{stays}
use Rattle.rules.proofs.NoneFinishes.{none_finishes}

-- ---- the open round does not matter
any_round : (t u : Table) (i : ℕ) → sound t ≡ true → sound u ≡ true → SameCopies (view t) (view u) → (view u).off ≡ (view t).off
    → reply u (reach i) ≡ reply t (reach i)
unfolding reply_of number_of refusals tests figures_of
any_round t u i = no_round_matters (reach i) (λ w r. refl) t u

-- ---- a table that follows the book
module _ (t : Table) (b : Book) (bytes : AreBytes t) (is_sound : sound t ≡ true) (inv : Follows (view t) b) where
  abbrev now : State
  now = view t

  asked : now.is_sound ≡ true
  unfolding view
  asked = is_sound

  module _ (i : ℕ) (item : i < now.m) where
    figure : (reply t (reach i)).first ≡ three (all_heard now i) (can_write now i)
    figure = reach_figure_lem t bytes i asked item

    valid_there : (s : ℕ) → s < now.n → valid now.n (now.copies i s).config ≡ true
    valid_there s l = (is_sound_lem t asked).configs i s item l

    -- where not all of them are heard, no part of them is
    none_heard : (reply t (reach i)).first ≡ 0 → (set : ℕ) → set ⊆ on_bus now → hears (now.copies i) set now.n ≡ false
    none_heard e set inside =
        fails (hears (now.copies i) set now.n)
        (λ h. clash (heard_grows now.n (now.copies i) _ _ _ set (inv.kept i item) valid_there (on_bus now) inside h)
        ((zero_told (all_heard now i) (can_write now i)).0 (sym figure ∙ e)))

    -- every part that is heard finds the current configuration, as all of them do
    no_write_set : (reply t (reach i)).first ≡ 1 → (set : ℕ) → set ⊆ on_bus now → (g : ℕ) → HeardBy now i set g
        → QuorumIn (write_set (now.copies i g).config) (on_bus now) → ⊥
    no_write_set e set inside g x q =
        let copies = now.copies i in
        let h = (heard_by_lem now i set).1 (g, x) in
        let k = inv.kept i item in
        let part = heard_current now.n copies _ _ _ set k valid_there h in
        let all = heard_current now.n copies _ _ _ (on_bus now) k valid_there (heard_grows now.n copies _ _ _ set k valid_there (on_bus now) inside h) in
        let same : (copies g).config ≡ (by_generation copies (on_bus now) now.n).config =
        ap (λ c. c.config) (sym (by_generation_lem copies set now.n g x.0)) ∙ part.config ∙ sym all.config in
        clash ((promise.holds_write_lem _ (on_bus now)).1 (rw same at q)) (no_write_told (all_heard now i) (can_write now i) (sym figure ∙ e))

    out_of_reach : (reply t (reach i)).first ≡ 0 → OutOfReach t i
    out_of_reach e =
        record {
          no_set_heard = λ set inside g x. clash ((heard_by_lem now i set).1 (g, x)) (none_heard e set inside);
          none_finishes = λ calls p. none_finishes i (on_bus now) calls t bytes asked (λ _. none_heard e) p;
          stays_unheard = λ polled calls p. stays i calls t bytes asked
              (record { those = on_bus now; on = λ s m. m; polled = polled; deaf = λ _. none_heard e }) p;
        }

  -- where reach has a figure, the item is one of the table's
  reached_item : (i : ℕ) → Readable (reply t (reach i)).first → i < now.m
  unfolding needs
  reached_item i r = go (reply t (reach i)).number refl
    where
      go : (k : ℕ) → (reply t (reach i)).number ≡ k → i < now.m
      go zero e = (done_allowed t (reach i) e).1.0
      go (suc k) e =
          let z = (refusal_has_no_figures t (reach i) (λ q. let y : suc k ≡ 0 = sym e ∙ q in omega arith)).0 in
          absurd (⊎_elim (λ q. let y : ◌≡◌ {A = ℕ} 0 1 = sym z ∙ q in omega arith) (λ q. let y : ◌≡◌ {A = ℕ} 0 3 = sym z ∙ q in omega arith) r)

  -- the stations on the bus are heard where it is 1 or 3
  all-heard : (i : ℕ) (order : List ℕ) → Readable (reply t (reach i)).first → AllOn now order
      → (i < now.m) × (hears (now.copies i) (joined 0 order) now.n ≡ true)
  all-heard i order r all =
      let item = reached_item i r in
      (item, rw (all-joined now (is_sound_lem t asked).small order all) ((reads_told (all_heard now i) (can_write now i)).0 (rw (figure i item) at r)))

over_lists : (t : Table) (b : Book) → AreBytes t → sound t ≡ true → Follows (view t) b → OverLists t b
unfolding needs
over_lists t b bytes s inv =
    record {
      zero = λ i done. out_of_reach t b bytes s inv i (done_allowed t (reach i) done).1.0;
      one = λ i e. no_write_set t b bytes s inv i (reached_item t b bytes s inv i (inl e)) e;
      reads_the_book = λ i order r all. let h = all-heard t b bytes s inv i order r all in
          gives_entry t b bytes s inv i h.0 order (λ k m. sym (all k) ∙ m) h.1;
      reads_after_abandon = λ i order r all. let h = all-heard t b bytes s inv i order r all in
          gives_after_abandon t b bytes s inv i h.0 order (λ k m. sym (all k) ∙ m) h.1;
    }

pub reach_exact : ReachExact
reach_exact =
    record {
      any_round = any_round;
      hears = λ t c i order b p o e all. exact_hears t b i c p o e order all;
      reads = λ t i order b e all. exact_reads t b i e order all;
      writes = λ t i value order places b p e all there. exact_writes t b i value p e order places all there;
      changes = λ t i target order places others b p e all there elsewhere. exact_changes t b i target p e order places others all there elsewhere;
      over_lists = after_lists OverLists over_lists;
    }

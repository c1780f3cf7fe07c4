-- Tables that look alike get the same replies and look alike after each call: those whose configurations are only related, as far as these agree, and those
-- with the same contents.
use mathlib.Core.Path.{◌≡◌, refl, sym, ap, ◌∙◌}
use mathlib.Core.Bool.{Bool, true, false, not, cond, ◌&&◌, ◌||◌}
use mathlib.Core.List.{List, [], ◌∷◌}
use mathlib.Core.Logic.{◌⊎◌, inl, inr}
use Prim.Native.Nat.{ℕ, zero, suc, ◌+◌, ◌<◌}
use native.Mathlib.Omega.{arith}
use lib.Dec.{ltb, eqb}
use borrow.Author.Tests.{ltb-true, ne_eqb}
use Rattle.basics.specs.Bytes.{AreBytes}
use Rattle.basics.proofs.Tests.{clash, by_cases, either}
use Rattle.quorum.specs.Sets.{member, join, remove}
use Rattle.quorum.specs.Configurations.{first_read, place_figure, is_place, valid, holds_read, holds_write}
use Rattle.quorum.specs.Promise.{SamePasses}
use Rattle.form.specs.Form.{standard_form}
use Rattle.form.proofs.Laws.{spells_itself}
use Rattle.layout.specs.Layout.{table_length}
use Rattle.layout.specs.Fields.{Copy, Kind, none, read, write, change, Round}
use Rattle.layout.specs.Rounds.{with_polled, with_puts}
use Rattle.layout.specs.Newest.{station_figure, by_version, by_generation, heard_place, hears}
use Rattle.layout.specs.Soundness.{sound}
use Rattle.layout.specs.View.{Table, State, view, own, found_by_version, found_by_generation, version_from, heard, on_bus}
use Rattle.layout.specs.View.{CopyBy, RoundBy, ContentsBy}
use Rattle.layout.specs.Updates.{no_target}
use Rattle.layout.proofs.Soundness.{is_sound_lem, sound_facts}
use Rattle.layout.proofs.Contents.{SameWhole, by_fields}
use Rattle.layout.proofs.Fields.{opened}
use Rattle.layout.proofs.Held.{with_round}
use Rattle.layout.proofs.Newer.{version_station_by, version_by, generation_by}
use Rattle.layout.proofs.Stored.{stored}
use Rattle.plan.specs.Plan.{planned_polls, planned_puts}
use Rattle.plan.proofs.Plan.{polls_same, puts_same}
use Rattle.rules.specs.Calls.{Call, lay, open_read, open_write, open_change, poll, put, commit, abandon, link, reach, diagnose, plan, is_lay, is_data, is_off}
use Rattle.rules.specs.Passed.{Passable}
use Rattle.rules.specs.Rules.{tests, number_of, first, idle, no_item, no_size, no_sort, no_link, wrong_put, last, spent, spent_at_put, written}
use Rattle.rules.specs.Figures.{figures_of, closing, one_figure, reach_figure}
use Rattle.rules.specs.declared.Figures.{Figures}
use Rattle.rules.specs.Reply.{reply_of, reply, after, answer}
use Rattle.rules.specs.declared.Reply.{Reply}
use Rattle.rules.specs.Lists.{replies, after_all, AllPassable}
use Rattle.rules.specs.Needs.{needs, Allowed}
use Rattle.rules.specs.Steps.{SameCopies}
use Rattle.rules.specs.Alike.{AlikeBy, Alike, AlikeTables}
use Rattle.rules.proofs.Chains.{first_applies}
use Rattle.rules.proofs.Judged.{allowed, lay_number, sound-number, unsound_number}
use Rattle.rules.proofs.States.{next}
use Rattle.rules.proofs.Demand1.{refusal_changes_nothing}
use Rattle.rules.proofs.Laws.{next-view, length_kept, bytes_kept}
use Rattle.rules.proofs.Kept.{after-sound}

-- a refusal shows no figures
no_figures_lem : (k : ℕ) (f g : Figures) → (k ≡ 0 → ⊥) → answer k f ≡ answer k g
no_figures_lem k f g h = rw (ne_eqb k 0 h)

-- states with the contents of related ones are related
pub contents_like : {R : List ℕ → List ℕ → Type 0} {v v' w w' : State} → SameWhole v v' → SameWhole w w' → ContentsBy R v' w' → ContentsBy R v w
contents_like x y z =
    record {
      n = x.n ∙ z.n ∙ sym y.n;
      m = x.m ∙ z.m ∙ sym y.m;
      off = x.off ∙ z.off ∙ sym y.off;
      round = rw (x.round, y.round) z.round;
      copies = λ i s p q. let i' = rw y.m at p in let s' = rw y.n at q in
          rw (x.copies i s (rw z.m i') (rw z.n s'), y.copies i s i' s') (z.copies i s i' s');
    }

-- what related configurations agree in: every one is related to itself, the same station sets pass, and replies with their read places are seen alike
pub record Agree (R : List ℕ → List ℕ → Type 0) (seen : Call → Reply → Reply) : Type 0 where
  pub itself : (c : List ℕ) → R c c
  pub passes : (c d : List ℕ) → R c d → SamePasses c d
  pub polled : (c d : List ℕ) → R c d → (set s : ℕ)
      → seen (poll s) (answer 0 (one_figure (place_figure (first_read c set)))) ≡ seen (poll s) (answer 0 (one_figure (place_figure (first_read d set))))
  pub diagnosed : (c d : List ℕ) → R c d → (set number station : ℕ)
      → seen diagnose (answer 0 (record { first = number; second = station; third = place_figure (first_read c set) }))
      ≡ seen diagnose (answer 0 (record { first = number; second = station; third = place_figure (first_read d set) }))

module _ {R : List ℕ → List ℕ → Type 0} {seen : Call → Reply → Reply} (agree : Agree R seen) where
  module _ (v w : State) (a : AlikeBy R v w) (listed : v.is_sound ≡ true → v.round.item < v.m) where
    abbrev same : ContentsBy R v w
    same = a.contents

    abbrev its : RoundBy R v.round w.round
    its = same.round

    -- ---- what a round has found
    module _ (s : v.is_sound ≡ true) where
      own_same : (u : ℕ) → u < v.n → CopyBy R (own v u) (own w u)
      own_same u l = rw its.item (same.copies w.round.item u (rw (its.item, same.m) at (listed s)) (rw same.n at l))

      -- of any set of stations
      module _ (set : ℕ) where
        set_version : CopyBy R (by_version (own v) set v.n) (by_version (own w) set w.n)
        set_version = rw (← same.n) (version_by R agree.itself (own v) (own w) set v.n own_same)

        set_generation : CopyBy R (by_generation (own v) set v.n) (by_generation (own w) set w.n)
        set_generation = rw (← same.n) (generation_by R agree.itself (own v) (own w) set v.n own_same)

      version_same : CopyBy R (found_by_version v) (found_by_version w)
      version_same = rw (← its.polled) (set_version v.round.polled)

      generation_same : CopyBy R (found_by_generation v) (found_by_generation w)
      generation_same = rw (← its.polled) (set_generation v.round.polled)

      heard_same : heard v ≡ heard w
      unfolding hears
      heard_same = (agree.passes _ _ generation_same.config).reads v.round.polled ∙ ap (holds_read (found_by_generation w).config) its.polled

      station_same : version_from v ≡ version_from w
      station_same = version_station_by R agree.itself (own v) (own w) v.round.polled v.n own_same ∙ rw (same.n, its.polled)

      spent_same : (k : Kind) → spent v k ≡ spent w k
      spent_same none = refl
      spent_same read = refl
      spent_same write = ap last version_same.version
      spent_same change = ap last generation_same.generation

      spent_put_same : (k : Kind) (sort : ℕ) → spent_at_put v k sort ≡ spent_at_put w k sort
      spent_put_same none sort = refl
      spent_put_same read sort = refl
      spent_put_same write sort = rw (spent_same write)
      spent_put_same change sort = rw (spent_same change)

      -- a station set holds a write set of the one configuration if it does of the other
      writes_same : (c d : List ℕ) → R c d → (x y : ℕ) → x ≡ y → holds_write c x ≡ holds_write d y
      writes_same c d r x y e = (agree.passes c d r).writes x ∙ ap (holds_write d) e

      written_same : (k : Kind) → written v k ≡ written w k
      written_same none = refl
      written_same read = refl
      written_same write = writes_same _ _ generation_same.config _ _ its.data_puts
      written_same change = λ j. writes_same _ _ its.target _ _ its.data_puts j && writes_same _ _ generation_same.config _ _ its.config_puts j

      closing_same : (k : Kind) → closing v k ≡ closing w k
      closing_same none = refl
      closing_same read = λ j. record { first = version_same.value j; second = version_same.version j; third = generation_same.generation j }
      closing_same write = λ j. record { first = its.value j; second = version_same.version j + 1; third = generation_same.generation j }
      closing_same change = λ j. record { first = version_same.value j; second = version_same.version j; third = generation_same.generation j + 1 }

      -- by the kind of the round that is open
      of_kind : {A : Type 0} (f g : Kind → A) → ((k : Kind) → f k ≡ g k) → f v.round.kind ≡ g w.round.kind
      of_kind f g e = e v.round.kind ∙ ap g its.kind

      -- a commit's tests
      commit_same : tests v commit ≡ tests w commit
      unfolding tests
      commit_same = λ j. (idle (its.kind j), 5) ∷ (not (heard_same j), 8) ∷ (of_kind _ _ spent_same j, 10) ∷ (not (of_kind _ _ written_same j), 11) ∷ []

      commit_number_same : number_of v commit ≡ number_of w commit
      commit_number_same = sound-number v commit refl s ∙ ap first commit_same ∙ sym (sound-number w commit refl (sym a.is_sound ∙ s))

      -- the read places of poll and diagnose, seen
      poll_seen : (u : ℕ) → seen (poll u) (answer 0 (figures_of v (poll u))) ≡ seen (poll u) (answer 0 (figures_of w (poll u)))
      unfolding figures_of
      poll_seen u =
          agree.polled _ _ (set_generation (join v.round.polled u)).config (join v.round.polled u) u
          ∙ ap (λ x. seen (poll u) (answer 0 (one_figure (place_figure (heard_place (own w) (join x u) w.n))))) its.polled

      diagnose_seen : seen diagnose (answer 0 (figures_of v diagnose)) ≡ seen diagnose (answer 0 (figures_of w diagnose))
      unfolding figures_of
      diagnose_seen =
          agree.diagnosed _ _ (set_generation v.round.polled).config v.round.polled (number_of v commit) (station_figure (version_from v))
          ∙ λ j. seen diagnose (answer 0 (record {
            first = commit_number_same j;
            second = station_figure (station_same j);
            third = place_figure (heard_place (own w) (its.polled j) w.n);
          }))

    -- ---- call by call: the same number by its tests; where the call is allowed, a reply that is seen alike, and states after it that are alike
    record AlikeLaw (c : Call) : Type 0 where
      tested : (is_lay c ≡ true) ⊎ (v.is_sound ≡ true) → first (tests v c) ≡ first (tests w c)
      figures : Allowed v c → seen c (answer 0 (figures_of v c)) ≡ seen c (answer 0 (figures_of w c))
      states : Allowed v c → ContentsBy R (next v c) (next w c)

    -- a call that is no lay has been told that the table is sound
    not_lay : {A : Type 0} → (v.is_sound ≡ true → A) → (false ≡ true) ⊎ (v.is_sound ≡ true) → A
    not_lay f (inl e) = clash e refl
    not_lay f (inr s) = f s

    -- an item that there is: its plan, and how far it is reached
    module _ (i : ℕ) (l : i < v.m) where
      there : (s : ℕ) → s < v.n → CopyBy R (v.copies i s) (w.copies i s)
      there s h = same.copies i s (rw same.m at l) (rw same.n at h)

      polls_alike : planned_polls v i ≡ planned_polls w i
      polls_alike = polls_same R agree.itself agree.passes (v.copies i) (w.copies i) (on_bus v) v.n there ∙ rw (same.n, same.off)

      puts_alike : planned_puts v i ≡ planned_puts w i
      puts_alike = puts_same R agree.itself agree.passes (v.copies i) (w.copies i) (on_bus v) v.n there ∙ rw (same.n, same.off)

      reach_alike : reach_figure v i ≡ reach_figure w i
      unfolding hears
      reach_alike =
          let p = agree.passes _ _ (generation_by R agree.itself (v.copies i) (w.copies i) (on_bus v) v.n there).config in
          rw (p.reads (on_bus v), p.writes (on_bus v)) (rw (same.n, same.off) refl)

    -- ---- states after a call
    -- the round is another, the rest stays
    with_round_lem : (r q : Round) → RoundBy R r q → ContentsBy R (with_round v r) (with_round w q)
    with_round_lem r q e = record { n = same.n; m = same.m; off = same.off; round = e; copies = same.copies }

    -- a round that has just been opened, or none
    opened_alike : (k : Kind) (i x : ℕ) (c d : List ℕ) → R c d → RoundBy R (opened k i x c) (opened k i x d)
    opened_alike k i x c d e =
        record { kind = refl; item = refl; polled = refl; data_puts = refl; config_puts = refl; value = refl; target = e }

    -- a round with other sets
    sets_alike : (polled data_puts config_puts others more rest : ℕ) → polled ≡ others → data_puts ≡ more → config_puts ≡ rest
        → RoundBy R (with_puts (with_polled v.round polled) data_puts config_puts) (with_puts (with_polled w.round others) more rest)
    sets_alike polled data_puts config_puts others more rest p d c =
        record { kind = its.kind; item = its.item; polled = p; data_puts = d; config_puts = c; value = its.value; target = its.target }

    -- the copies after a commit
    stored_alike : (b b' c c' : Bool) (new other x y : Copy) → b ≡ b' → c ≡ c' → CopyBy R new other → CopyBy R x y
        → CopyBy R (stored b c new x) (stored b' c' other y)
    stored_alike b b' c c' new other x y e d p q =
        record {
          version = λ j. cond (e j) (p.version j) (q.version j);
          value = λ j. cond (e j) (p.value j) (q.value j);
          generation = λ j. cond (d j) (p.generation j) (q.generation j);
          config = rw d (by_cases (λ (t : Bool). R (cond t new.config x.config) (cond t other.config y.config)) c'
              (λ _. p.config) (λ _. q.config));
        }

    committed_alike : v.is_sound ≡ true → (i s : ℕ) → i < w.m → s < w.n → CopyBy R ((next v commit).copies i s) ((next w commit).copies i s)
    committed_alike e i s p q =
        let f = of_kind e _ _ (closing_same e) in
        stored_alike _ _ _ _ _ _ _ _ (λ j. eqb i (its.item j) && member (its.data_puts j) s) (λ j. eqb i (its.item j) && member (its.config_puts j) s)
        (record {
          version = ap (λ x. x.second) f;
          value = ap (λ x. x.first) f;
          generation = ap (λ x. x.third) f;
          config = its.target;
        }) (same.copies i s p q)

    alike_law : (c : Call) → AlikeLaw c
    unfolding tests figures_of needs
    alike_law (lay n m value config) =
        record {
          tested = λ _ i. first ((no_size n m, 2) ∷ (not (a.fits n m i), 1) ∷ (not (valid n config), 3) ∷ []);
          figures = λ _. refl;
          states = λ _. record {
            n = refl;
            m = refl;
            off = refl;
            round = opened_alike none 0 0 _ _ (agree.itself no_target);
            copies = λ i s p q. record { version = refl; value = refl; generation = refl; config = agree.itself _ };
          };
        }
    alike_law (open_read i) =
        record {
          tested = λ _ j. first ((not (ltb i (same.m j)), 2) ∷ (not (idle (its.kind j)), 4) ∷ []);
          figures = λ _. refl;
          states = λ _. with_round_lem _ _ (opened_alike read i 0 _ _ (agree.itself no_target));
        }
    alike_law (open_write i value) =
        record {
          tested = λ _ j. first ((not (ltb i (same.m j)), 2) ∷ (not (idle (its.kind j)), 4) ∷ []);
          figures = λ _. refl;
          states = λ _. with_round_lem _ _ (opened_alike write i value _ _ (agree.itself no_target));
        }
    alike_law (open_change i target) =
        record {
          tested = λ _ j. first ((not (ltb i (same.m j)), 2) ∷ (not (valid (same.n j) target), 3) ∷ (not (idle (its.kind j)), 4) ∷ []);
          figures = λ _. refl;
          states = λ _. with_round_lem _ _ (opened_alike change i 0 _ _ (rw same.n (agree.itself (standard_form w.n target))));
        }
    alike_law (poll s) =
        record {
          tested = λ _ j. first ((not (ltb s (same.n j)), 2) ∷ (idle (its.kind j), 5) ∷ (member (same.off j) s, 6)
              ∷ (not (eqb (its.data_puts j) 0 && eqb (its.config_puts j) 0), 7) ∷ []);
          figures = λ h. poll_seen h.0 s;
          states = λ _. with_round_lem _ _ (sets_alike _ _ _ _ _ _ (λ j. join (its.polled j) s) its.data_puts its.config_puts);
        }
    alike_law (put s sort) =
        record {
          tested = not_lay (λ e j. first ((not (ltb s (same.n j)) || no_sort sort, 2) ∷ (idle (its.kind j), 5) ∷ (member (same.off j) s, 6)
              ∷ (not (heard_same e j), 8) ∷ (wrong_put (its.kind j) sort, 9) ∷ (of_kind e _ _ (λ k. spent_put_same e k sort) j, 10) ∷ []));
          figures = λ _. refl;
          states = λ _. with_round_lem _ _ (sets_alike _ _ _ _ _ _ its.polled
              (λ j. cond (is_data sort) (join (its.data_puts j) s) (its.data_puts j))
              (λ j. cond (is_data sort) (its.config_puts j) (join (its.config_puts j) s)));
        }
    alike_law commit =
        record {
          tested = not_lay (λ e. ap first (commit_same e));
          figures = λ h. ap (λ f. seen commit (answer 0 f)) (of_kind h.0 _ _ (closing_same h.0));
          states = λ h. record {
            n = same.n;
            m = same.m;
            off = same.off;
            round = opened_alike none 0 0 _ _ (agree.itself no_target);
            copies = committed_alike h.0;
          };
        }
    alike_law abandon =
        record {
          tested = λ _ j. first ((idle (its.kind j), 5) ∷ []);
          figures = λ _. refl;
          states = λ _. with_round_lem _ _ (opened_alike none 0 0 _ _ (agree.itself no_target));
        }
    alike_law (link s state) =
        record {
          tested = λ _ j. first ((not (ltb s (same.n j)) || no_link state, 2) ∷ []);
          figures = λ _. refl;
          states = λ _. record {
            n = same.n;
            m = same.m;
            off = λ j. cond (is_off state) (join (same.off j) s) (remove (same.off j) s);
            round = sets_alike _ _ _ _ _ _ its.polled (λ j. cond (is_off state) (remove (its.data_puts j) s) (its.data_puts j))
                (λ j. cond (is_off state) (remove (its.config_puts j) s) (its.config_puts j));
            copies = same.copies;
          };
        }
    alike_law (reach i) =
        record {
          tested = λ _ j. first ((not (ltb i (same.m j)), 2) ∷ []);
          figures = λ h. ap (λ x. seen (reach i) (answer 0 (one_figure x))) (reach_alike i h.1.0);
          states = λ _. same;
        }
    alike_law diagnose =
        record {
          tested = λ _ j. first ((idle (its.kind j), 5) ∷ []);
          figures = λ h. diagnose_seen h.0;
          states = λ _. same;
        }
    alike_law (plan i) =
        record {
          tested = λ _. either (ltb i v.m) (λ h j. first ((not (ltb i (same.m j)), 2) ∷ (not (is_place (polls_alike i (ltb-true i _ h) j)), 15) ∷ []))
              (λ h. first_applies (no_item v i, 2) _ (ap not h) ∙ sym (first_applies (no_item w i, 2) _ (ap not (ap (ltb i) (sym same.m) ∙ h))));
          figures = λ h j. seen (plan i) (answer 0 (record {
            first = place_figure (polls_alike i h.1.0 j);
            second = place_figure (puts_alike i h.1.0 j);
            third = 0;
          }));
          states = λ _. same;
        }

    -- ---- the reply
    number_same : (c : Call) → number_of v c ≡ number_of w c
    number_same c = go (is_lay c) refl v.is_sound refl
      where
        go : (lay? : Bool) → is_lay c ≡ lay? → (sound? : Bool) → v.is_sound ≡ sound? → number_of v c ≡ number_of w c
        go true l s e = lay_number v c l ∙ (alike_law c).tested (inl l) ∙ sym (lay_number w c l)
        go false l true e =
            sound-number v c l e ∙ (alike_law c).tested (inr e) ∙ sym (sound-number w c l (sym a.is_sound ∙ e))
        go false l false e = unsound_number v c l e ∙ sym (unsound_number w c l (sym a.is_sound ∙ e))

    pub reply_alike : (c : Call) → seen c (reply_of v c) ≡ seen c (reply_of w c)
    unfolding reply_of
    reply_alike c = go (number_of v c) refl
      where
        go : (k : ℕ) → number_of v c ≡ k → seen c (answer (number_of v c) (figures_of v c)) ≡ seen c (answer (number_of w c) (figures_of w c))
        go zero e = rw (e, sym (number_same c) ∙ e) ((alike_law c).figures (allowed v c e))
        go (suc k) e =
            ap (seen c) (no_figures_lem (number_of v c) (figures_of v c) (figures_of w c) (λ z. let q : suc k ≡ 0 = sym e ∙ z in omega arith)
            ∙ ap (λ x. answer x (figures_of w c)) (number_same c))

  -- ---- tables
  module _ (t u : Table) (c : Call) (bt : AreBytes t) (bu : AreBytes u) (p : Passable c) (a : AlikeBy R (view t) (view u)) where
    item_listed : (view t).is_sound ≡ true → (view t).round.item < (view t).m
    item_listed s = (is_sound_lem t s).item

    pub number-eq : (reply t c).number ≡ (reply u c).number
    unfolding reply_of
    number-eq = number_same (view t) (view u) a item_listed c

    -- the length tells which sizes fit, and stays
    fits_after : (n m : ℕ) → (view (after t c)).fits n m ≡ (view (after u c)).fits n m
    unfolding view
    fits_after n m = rw (length_kept t c, length_kept u c) (a.fits n m)

    alike_done : (reply t c).number ≡ 0 → AlikeBy R (view (after t c)) (view (after u c))
    unfolding view reply_of
    alike_done e =
        let d : (reply u c).number ≡ 0 = sym number-eq ∙ e in
        let x = next-view t c e bt p in
        let y = next-view u c d bu p in
        record {
          is_sound = after-sound t c bt p e ∙ sym (after-sound u c bu p d);
          fits = fits_after;
          contents = contents_like x y ((alike_law (view t) (view u) a item_listed c).states (allowed (view t) c e));
        }

    pub after_alike : AlikeBy R (view (after t c)) (view (after u c))
    after_alike = go (reply t c).number refl
      where
        go : (k : ℕ) → (reply t c).number ≡ k → AlikeBy R (view (after t c)) (view (after u c))
        go zero e = alike_done e
        go (suc k) e =
            let no : (reply t c).number ≡ 0 → ⊥ = λ z. let q : suc k ≡ 0 = sym e ∙ z in omega arith in
            rw (refusal_changes_nothing t c no, refusal_changes_nothing u c (λ z. no (number-eq ∙ z))) a

  pub all_alike : (t u : Table) (calls : List Call) → AreBytes t → AreBytes u → AllPassable calls → AlikeBy R (view t) (view u)
      → AlikeBy R (view (after_all t calls)) (view (after_all u calls))
  unfolding after_all
  all_alike t u [] bt bu p a = a
  all_alike t u (c ∷ calls) bt bu p a =
      all_alike (after t c) (after u c) calls (bytes_kept t c bt p.0) (bytes_kept u c bu p.0) p.1 (after_alike t u c bt bu p.0 a)

-- ---- configurations that are the same: the whole reply is
exactly_agree : Agree ◌≡◌ (λ c r. r)
exactly_agree =
    record {
      itself = λ c. refl;
      passes = λ c d e. spells_itself e;
      polled = λ c d e set s. ap (λ x. answer 0 (one_figure (place_figure (first_read x set)))) e;
      diagnosed = λ c d e set k b. ap (λ x. answer 0 (record { first = k; second = b; third = place_figure (first_read x set) })) e;
    }

pub same_reply : (v w : State) → Alike v w → (v.is_sound ≡ true → v.round.item < v.m) → (c : Call) → reply_of v c ≡ reply_of w c
same_reply v w a listed c = reply_alike exactly_agree v w a listed c

alike_after : (t u : Table) (c : Call) → AreBytes t → AreBytes u → Passable c → Alike (view t) (view u) → Alike (view (after t c)) (view (after u c))
alike_after t u c bt bu p a = after_alike exactly_agree t u c bt bu p a

same_replies : (t u : Table) (calls : List Call) → AreBytes t → AreBytes u → AllPassable calls → Alike (view t) (view u)
    → (replies t calls ≡ replies u calls) × Alike (view (after_all t calls)) (view (after_all u calls))
unfolding replies after_all
same_replies t u [] bt bu p a = (refl, a)
same_replies t u (c ∷ calls) bt bu p a =
    let b = alike_after t u c bt bu p.0 a in
    let rest = same_replies (after t c) (after u c) calls (bytes_kept t c bt p.0) (bytes_kept u c bu p.0) p.1 b in
    (λ j. same_reply (view t) (view u) a (λ s. (is_sound_lem t s).item) c j ∷ rest.0 j, rest.1)

pub alike_tables : AlikeTables
alike_tables = record { same_reply = λ v w c a i. same_reply v w a i c; alike_after = alike_after; same_replies = same_replies }

-- ---- a call that does not look at the open round replies the same on sound tables with the same stations on the bus and the same copies
pub no_round_matters : (c : Call) → ((w : State) (r : Round) → reply_of (with_round w r) c ≡ reply_of w c) → (t u : Table) → sound t ≡ true → sound u ≡ true
    → SameCopies (view t) (view u) → (view u).off ≡ (view t).off → reply u c ≡ reply t c
unfolding view
no_round_matters c apart t u s s' same off =
    alike_tables.same_reply (view u) (with_round (view t) (view u).round) c (record {
      is_sound = s' ∙ sym s;
      fits = λ n m. ap (λ l. eqb l (table_length n m)) ((sound_facts u s').size ∙ rw (same.n, same.m) (sym (sound_facts t s).size));
      contents = by_fields (record { n = same.n; m = same.m; off = off; round = refl; copies = same.copies });
    }) (λ _. (is_sound_lem u s').item)
    ∙ apart (view t) (view u).round

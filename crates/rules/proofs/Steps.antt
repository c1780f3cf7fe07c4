-- What each call that is done does, from the state after it and the figures of its reply: lemmas for Laws.antt.
use mathlib.Core.Path.{◌≡◌, refl, sym, ap, ◌∙◌}
use mathlib.Core.Bool.{Bool, true, false, not, cond, ◌&&◌}
use mathlib.Core.List.{List}
use mathlib.Core.Logic.{◌↔◌, ◌⊎◌, inl, inr}
use Prim.Native.Nat.{ℕ, ◌≤◌, ◌<◌}
use native.Mathlib.Omega.{arith}
use lib.Dec.{ltb}
use borrow.Author.Tests.{eq-eqb, ne_eqb, lt-ltb, ltb-true, not-true}
use Rattle.basics.specs.Listing.{Listing}
use Rattle.basics.proofs.Listing.{same_listing, listing}
use Rattle.basics.proofs.Tests.{clash, fails, and_left, and_right, and_both}
use Rattle.quorum.specs.Sets.{member, join, remove, full}
use Rattle.quorum.specs.Promise.{QuorumIn}
use Rattle.quorum.specs.Configurations.{write_set, place_figure, holds_write}
use Rattle.quorum.proofs.Promise.{promise}
use Rattle.layout.specs.Fields.{Copy, Kind, none, read, write, change, Round}
use Rattle.layout.specs.Newest.{by_generation, hears}
use Rattle.layout.specs.Rounds.{with_polled, with_puts}
use Rattle.layout.specs.View.{State, on_bus, own, read_place}
use Rattle.layout.specs.Updates.{no_target}
use Rattle.layout.proofs.Contents.{SameWhole}
use Rattle.layout.proofs.Fields.{opened}
use Rattle.layout.proofs.Soundness.{StateSound}
use Rattle.layout.proofs.Held.{with_off, with_round}
use Rattle.layout.proofs.Newer.{station_shown, none_shown, by_generation_lem, place_same}
use Rattle.layout.proofs.Stored.{stored, started}
use Rattle.plan.specs.Plan.{order_on, start_on, planned_polls}
use Rattle.plan.proofs.Plan.{heard_then, unheard_before, written_from, unwritten}
use Rattle.rules.specs.Calls.{poll, put, commit, link, reach, diagnose, plan}
use Rattle.rules.specs.Figures.{figures_of, closing}
use Rattle.rules.specs.After.{stores}
use Rattle.rules.specs.Demand2.{Found, HeardBy}
use Rattle.rules.specs.Needs.{InHearing}
use Rattle.rules.specs.Steps.{Joined, Removed, SameCopies, SameOrder, Fresh, Laid, Opened}
use Rattle.rules.specs.Steps.{OwnPlaceShown, Polled, Put, Linked, Closing, Committed, Reached, Diagnosed, Planned}
use Rattle.rules.specs.declared.Reply.{Reply}
use Rattle.rules.proofs.Judged.{heard-start}
use Rattle.rules.proofs.Demand1.{Shows}
use Rattle.rules.proofs.Quorums.{version_found, generation_found, place_shown, heard_by_lem}
use Rattle.rules.proofs.Demand2.{commits}
use Rattle.rules.proofs.States.{next}

-- ---- what stays, and what is fresh
module _ (v w : State) where
  same_copies : (off : ℕ) (r : Round) → SameWhole w (with_round (with_off v off) r) → SameCopies v w
  same_copies off r l = record { n = l.n; m = l.m; copies = l.copies }

  same_order : (polled d c : ℕ) → w.round ≡ with_puts (with_polled v.round polled) d c → SameOrder v w
  same_order polled d c e =
      record {
        kind = ap (λ r. r.kind) e;
        item = ap (λ r. r.item) e;
        value = ap (λ r. r.value) e;
        target = ap (λ r. r.target) e;
      }

fresh : (r : Round) (k : Kind) (i x : ℕ) (l : List ℕ) → r ≡ opened k i x l → Fresh r k i x l
fresh r k i x l e =
    record {
      kind = ap (λ r. r.kind) e;
      item = ap (λ r. r.item) e;
      value = ap (λ r. r.value) e;
      target = ap (λ r. r.target) e;
      polled = ap (λ r. r.polled) e;
      data_puts = ap (λ r. r.data_puts) e;
      config_puts = ap (λ r. r.config_puts) e;
    }

-- ---- sets
joined : (a s b : ℕ) → s < 16 → b ≡ join a s → Joined a s b
joined a s b l e i = ap (λ x. member x i) e ∙ promise.member_join a i s l

removed : (a s b : ℕ) → b ≡ remove a s → Removed a s b
removed a s b e i = ap (λ x. member x i) e ∙ promise.member_remove a i s

-- ---- figures that tests give
abbrev pub three : Bool → Bool → ℕ
three a b = cond a (cond b 3 1) 0

module _ (H W : ℕ → Type 0) where
  three_told : (a b : Bool) → (a ≡ true) ↔ ((g : ℕ) × H g) → ((g : ℕ) → H g → (b ≡ true) ↔ W g)
      → ((three a b ≡ 1) ↔ ((g : ℕ) × H g × (W g → ⊥))) × ((three a b ≡ 3) ↔ ((g : ℕ) × H g × W g)) × ((three a b ≡ 0) ↔ ((g : ℕ) → H g → ⊥))
  three_told true true p q = (
    (λ e. absurd (omega arith), λ h. absurd (h.2 ((q h.0 h.1).0 refl))),
    (λ e. let x = p.0 refl in (x.0, x.1, (q x.0 x.1).0 refl), λ h. refl),
    (λ e. absurd (omega arith), λ h. let x = p.0 refl in absurd (h x.0 x.1)),
  )
  three_told true false p q = (
    (λ e. let x = p.0 refl in (x.0, x.1, λ y. clash ((q x.0 x.1).1 y) refl), λ h. refl),
    (λ e. absurd (omega arith), λ h. clash ((q h.0 h.1).1 h.2) refl),
    (λ e. absurd (omega arith), λ h. let x = p.0 refl in absurd (h x.0 x.1)),
  )
  three_told false b p q = (
    (λ e. absurd (omega arith), λ h. clash (p.1 (h.0, h.1)) refl),
    (λ e. absurd (omega arith), λ h. clash (p.1 (h.0, h.1)) refl),
    (λ e g x. clash (p.1 (g, x)) refl, λ h. refl),
  )

three_only : (a b : Bool) → (three a b ≡ 0) ⊎ ((three a b ≡ 1) ⊎ (three a b ≡ 3))
three_only true true = inr (inr refl)
three_only true false = inr (inl refl)
three_only false b = inl refl

-- ---- poll
-- the figure is by the state after it
module _ (v w : State) (s : ℕ) (l : SameWhole w (next v (poll s))) (f : StateSound v) where
  pub place_after : read_place w ≡ read_place (next v (poll s))
  place_after =
      rw (l.n, l.round) (place_same (w.copies v.round.item) (own v) (join v.round.polled s) v.n
      (λ u h. l.copies v.round.item u f.item h))

  pub polled_step : (r : Reply) → s < v.n → Shows r (figures_of v (poll s)) → Polled v w s r
  unfolding figures_of
  polled_step r h q =
      let k = f.small in
      let shown : OwnPlaceShown w (place_figure (read_place (next v (poll s)))) = rw (← place_after) (place_shown w w.round.item w.round.polled) in
      record {
        copies = same_copies v w v.off _ l;
        order = same_order v w _ _ _ l.round;
        off = l.off;
        polled = joined v.round.polled s w.round.polled (omega arith) (ap (λ r. r.polled) l.round);
        data_puts = ap (λ r. r.data_puts) l.round;
        config_puts = ap (λ r. r.config_puts) l.round;
        place = rw q.0 shown;
        no_other = (q.1, q.2);
      }

-- ---- openings, put and link
pub opened_step : (v w : State) (k : Kind) (i x : ℕ) (target : List ℕ) → SameWhole w (with_round v (opened k i x target)) → Opened v w k i x target
opened_step v w k i x target l =
    record { copies = same_copies v w v.off _ l; off = l.off; round = fresh w.round k i x target l.round }

module _ (v w : State) (s : ℕ) (small : s < 16) where
  pub put_step : (sort : ℕ) → SameWhole w (next v (put s sort)) → Put v w s sort
  put_step sort l =
      let d = ap (λ r. r.data_puts) l.round in
      let c = ap (λ r. r.config_puts) l.round in
      record {
        copies = same_copies v w v.off _ l;
        order = same_order v w _ _ _ l.round;
        off = l.off;
        polled = ap (λ r. r.polled) l.round;
        data_put = λ e. (joined _ s _ small (d ∙ rw e), c ∙ rw e);
        config_put = λ e. (d ∙ rw e, joined _ s _ small (c ∙ rw e));
      }

  pub link_step : (state : ℕ) → SameWhole w (next v (link s state)) → Linked v w s state
  link_step state l =
      let d = ap (λ r. r.data_puts) l.round in
      let c = ap (λ r. r.config_puts) l.round in
      record {
        copies = same_copies v w _ _ l;
        order = same_order v w _ _ _ l.round;
        polled = ap (λ r. r.polled) l.round;
        goes_off = λ e. (joined _ s _ small (l.off ∙ rw e), removed _ s _ (d ∙ rw e), removed _ s _ (c ∙ rw e));
        comes_on = λ e. (removed _ s _ (l.off ∙ rw e), d ∙ rw e, c ∙ rw e);
      }

-- ---- commit
module _ (v : State) (f : Found v) (r : Reply) where
  pub closing-step : (k : Kind) → (k ≡ none → ⊥) → Shows r (closing v k) → Closing v f k r
  closing-step none busy q = absurd (busy refl)
  closing-step read busy q = rw (version_found v f, generation_found v f) at q
  closing-step write busy q = rw (version_found v f, generation_found v f) at q
  closing-step change busy q = rw (version_found v f, generation_found v f) at q

-- what is stored at a station of the round's item, and what stays elsewhere
module _ (v w : State) (r : Reply) (l : SameWhole w (next v commit)) (item : v.round.item < v.m) (q : Shows r (closing v v.round.kind)) where
  abbrev i : ℕ
  i = v.round.item

  abbrev d : ℕ → Bool
  d s = member v.round.data_puts s

  abbrev c : ℕ → Bool
  c s = member v.round.config_puts s

  own_stored : (s : ℕ) → s < v.n → w.copies i s ≡ stored (d s) (c s) (stores (closing v v.round.kind) v.round.target) (own v s)
  own_stored s h = l.copies i s item h ∙ rw (eq-eqb i i refl)

  pub commit_step : Found v → (v.round.kind ≡ none → ⊥) → Committed v w r
  commit_step f busy =
      record {
        found = f;
        figures = closing-step v f r v.round.kind busy q;
        n = l.n;
        m = l.m;
        off = l.off;
        round = fresh w.round none 0 0 no_target l.round;
        other_item = λ j s g h ne. l.copies j s g h ∙ rw (ne_eqb j i ne);
        data_put = λ s h m. let e = own_stored s h in (ap (λ x. x.version) e ∙ rw m (sym q.1), ap (λ x. x.value) e ∙ rw m (sym q.0));
        no_data_put = λ s h m. let e = own_stored s h in (ap (λ x. x.version) e ∙ rw m, ap (λ x. x.value) e ∙ rw m);
        config_put = λ s h m. let e = own_stored s h in (ap (λ x. x.generation) e ∙ rw m (sym q.2), ap (λ x. x.config) e ∙ rw m);
        no_config_put = λ s h m. let e = own_stored s h in (ap (λ x. x.generation) e ∙ rw m, ap (λ x. x.config) e ∙ rw m);
      }

-- ---- reach
pub on_members : (v : State) → v.n ≤ 16 → (s : ℕ) → member (on_bus v) s ≡ (ltb s v.n && not (member v.off s))
on_members v few s = promise.member_minus (full v.n) v.off s ∙ rw (promise.member_full v.n s few)

-- a station is on the bus if it is one of the n, and not off
pub on_bus_lem : (v : State) → v.n ≤ 16 → (s : ℕ) → (member (on_bus v) s ≡ true) ↔ ((s < v.n) × (member v.off s ≡ false))
on_bus_lem v few s =
    rw (on_members v few s) (
      λ e. (ltb-true s v.n (and_left (ltb s v.n) (not (member v.off s)) e), not-true (member v.off s) (and_right (ltb s v.n) _ e)),
      λ h. and_both (ltb s v.n) _ (lt-ltb s v.n h.0) (ap not h.1),
    )

pub few_on : (v : State) → v.n ≤ 16 → (s : ℕ) → member (on_bus v) s ≡ true → s < 16
few_on v few s m = let x = ((on_bus_lem v few s).0 m).0 in omega arith

pub order_on_lem : (v : State) → v.n ≤ 16 → Listing (λ s. (s < v.n) × (member v.off s ≡ false)) (order_on v)
order_on_lem v few =
    same_listing _ _ _ (λ s. (λ p. (on_bus_lem v few s).0 p.1, λ q. let m = (on_bus_lem v few s).1 q in (few_on v few s m, m))) (listing (member (on_bus v)) 16)

module _ (v : State) (i : ℕ) (f : StateSound v) where
  pub reach_step : (r : Reply) → Shows r (figures_of v (reach i)) → Reached v i r
  unfolding figures_of
  reach_step r q =
      let on = on_bus v in
      let z = three_told (HeardBy v i on) (λ g. QuorumIn (write_set (v.copies i g).config) on) (hears (v.copies i) on v.n)
      (holds_write (by_generation (v.copies i) on v.n).config on) (heard_by_lem v i on)
      (λ g h. rw (by_generation_lem (v.copies i) on v.n g h.0) (promise.holds_write_lem (v.copies i g).config on)) in
      record {
        is_on = on_members v f.small;
        unheard = rw q.0 z.2;
        reads_only = rw q.0 z.0;
        writes = rw q.0 z.1;
        no_other = (rw q.0 (three_only (hears (v.copies i) on v.n) (holds_write (by_generation (v.copies i) on v.n).config on)), q.1, q.2);
      }

-- ---- diagnose
pub diagnose_step : (v : State) → StateSound v → v.is_sound ≡ true → (v.round.kind ≡ none → ⊥) → (r : Reply) → Shows r (figures_of v diagnose)
    → Diagnosed v r
unfolding figures_of
diagnose_step v f sound busy r q =
    record {
      commits = rw q.0 (commits v sound busy);
      station = λ s. rw q.1 (station_shown (λ k. (own v k).version) v.round.polled v.n s);
      no_station = rw q.1 (none_shown (λ k. (own v k).version) v.round.polled v.n f.polled);
      place = rw q.2 (place_shown v v.round.item v.round.polled);
    }

-- ---- plan
module _ (v : State) (i : ℕ) (f : StateSound v) (h : InHearing v i) where
  abbrev copies : ℕ → Copy
  copies = v.copies i

  abbrev on : ℕ
  on = on_bus v

  -- some start is heard, so that the first has a place
  pub heard-first : 1 ≤ place_figure (planned_polls v i)
  heard-first = (promise.figure_place _).1 ((heard-start v i).1 h)

  pub plan_step : (r : Reply) → Shows r (figures_of v (plan i)) → Planned v i r
  unfolding figures_of
  plan_step r q =
      let polled = start_on v (place_figure (planned_polls v i)) in
      let first = (heard_by_lem v i polled).0 (heard_then copies on v.n heard-first) in
      let g = first.0 in
      let its = ap (λ c. c.config) (by_generation_lem copies polled v.n g first.1.0) in
      let config = (v.copies i g).config in
      record {
        order = order_on_lem v f.small;
        g = g;
        heard = rw q.0 first.1;
        fewest = λ k l s x. clash ((heard_by_lem v i (start_on v k)).1 (s, x)) (unheard_before copies on v.n k (rw q.0 at l));
        written = λ k. let w = written_from copies on v.n its k in let p = promise.holds_write_lem config (start_on v k) in
            rw q.1 (λ x. w.0 (p.1 x), λ x. p.0 (w.1 x));
        unwritten = let w = unwritten copies on v.n its (few_on v f.small) in let p = promise.holds_write_lem config on in
            rw q.1 (λ z x. clash (p.1 x) (w.0 z), λ n. w.1 (fails (holds_write config on) (λ e. n (p.0 e))));
        no_other = q.2;
      }

-- ---- lay
pub laid-step : (v w : State) (n m value : ℕ) (config : List ℕ) → n ≤ 16 → SameWhole w (started v n m value config) → Laid w n m value config
laid-step v w n m value config few l =
    record {
      stations = l.n;
      items = l.m;
      off = λ s. rw l.off (promise.member_full n s few);
      round = fresh w.round none 0 0 no_target l.round;
      copies = λ i s g h. let e = l.copies i s g h in
          (ap (λ x. x.version) e, ap (λ x. x.value) e, ap (λ x. x.generation) e, ap (λ x. x.config) e);
    }

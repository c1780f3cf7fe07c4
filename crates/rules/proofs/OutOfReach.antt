-- Where no part of the stations on the bus is heard on an item, no round on it finishes before a station comes on: along every list of calls.
use mathlib.Core.Path.{◌≡◌, refl, sym, ◌∙◌}
use mathlib.Core.Bool.{true, false}
use mathlib.Core.List.{List, [], ◌∷◌}
use Prim.Native.Nat.{ℕ, zero, suc, ◌<◌}
use native.Mathlib.Omega.{arith}
use lib.Dec.{eqb}
use borrow.Author.Tests.{lt-ltb, eqb-true}
use Rattle.basics.specs.Bytes.{AreBytes}
use Rattle.basics.proofs.Tests.{clash, or_cases}
use Rattle.quorum.specs.Sets.{member}
use Rattle.quorum.specs.Promise.{◌⊆◌}
use Rattle.quorum.proofs.Promise.{promise}
use Rattle.form.specs.Form.{standard_form}
use Rattle.layout.specs.Fields.{Kind, none, read, write, change}
use Rattle.layout.specs.Newest.{hears}
use Rattle.layout.specs.View.{Table, State, view, heard, on_bus}
use Rattle.layout.specs.Updates.{no_target}
use Rattle.layout.proofs.Contents.{SameWhole}
use Rattle.layout.proofs.Fields.{opened}
use Rattle.layout.proofs.Held.{with_round}
use Rattle.layout.proofs.Soundness.{StateSound, is_sound_lem}
use Rattle.rules.specs.Calls.{Call, lay, open_read, open_write, open_change, poll, put, commit, abandon, link, reach, diagnose, plan}
use Rattle.rules.specs.Reply.{reply, after}
use Rattle.rules.specs.Lists.{AllPassable}
use Rattle.rules.specs.Needs.{needs, Allowed}
use Rattle.rules.specs.ReachExact.{StaysUnheard}
use Rattle.rules.proofs.Quorums.{heard_exactly}
use Rattle.rules.proofs.Demand1.{refusal_changes_nothing}
use Rattle.rules.proofs.Demand2.{demand2}
use Rattle.rules.proofs.States.{next}
use Rattle.rules.proofs.Laws.{done_allowed, next-view, bytes_kept}
use Rattle.rules.proofs.Kept.{stays-sound}
use Rattle.rules.proofs.Steps.{on_bus_lem}
use Rattle.rules.proofs.NoneFinishes.{Deaf, deaf_like, commit_deaf}

module _ (i : ℕ) where
  -- what is kept while no station comes on. The stations that can have been polled: all that are on the bus are among them, and so is what a round on the item
  -- has polled; no part of them would be heard.
  pub record Silent (w : State) : Type 0 where
    pub those : ℕ
    pub on : on_bus w ⊆ those
    pub polled : (w.round.kind ≡ none → ⊥) → w.round.item ≡ i → w.round.polled ⊆ those
    pub deaf : Deaf i those w

  silent_like : (w x : State) → SameWhole w x → Silent x → Silent w
  silent_like w x l h =
      record {
        those = h.those;
        on = rw (l.n, l.off) h.on;
        polled = rw l.round h.polled;
        deaf = deaf_like i h.those w x l h.deaf;
      }

  -- such a round is unheard
  silent_unheard : (w : State) → Silent w → w.round.item < w.m → (w.round.kind ≡ none → ⊥) → w.round.item ≡ i → heard w ≡ false
  silent_unheard w h listed busy e = rw e (h.deaf (rw e at listed) w.round.polled (h.polled busy e))

  -- ---- call by call
  module _ (w : State) (f : StateSound w) (h : Silent w) where
    -- another round on the same copies: it has polled nobody, or what it had polled
    with_round_lem : (x : State) → on_bus x ⊆ on_bus w → x.n ≡ w.n → x.m ≡ w.m → x.copies ≡ w.copies
        → ((x.round.kind ≡ none → ⊥) → x.round.item ≡ i → x.round.polled ⊆ h.those) → Silent x
    with_round_lem x fewer n m copies polled =
        record { those = h.those; on = λ s k. h.on s (fewer s k); polled = polled; deaf = rw (n, m, copies) h.deaf }

    abbrev keeps : Call → Type 0
    keeps c = Allowed w c → on_bus (next w c) ⊆ on_bus w → Silent (next w c)

    opened_kept : (k : Kind) (j x : ℕ) (target : List ℕ) → Silent (with_round w (opened k j x target))
    opened_kept k j x target = with_round_lem (with_round w (opened k j x target)) (λ s m. m) refl refl refl (λ busy e s m. clash m (promise.member_empty s))

    -- after a lay nobody is on, and nobody has been polled
    laid_kept : (n m value : ℕ) (config : List ℕ) → keeps (lay n m value config)
    unfolding needs hears
    laid_kept n m value config a fewer =
        record {
          those = 0;
          on = λ s k. let x = (on_bus_lem (next w (lay n m value config)) a.0.1 s).0 k in clash (promise.member_full n s a.0.1 ∙ lt-ltb s n x.0) x.1;
          polled = λ busy. absurd (busy refl);
          deaf = λ b set inside. rw (promise.same_members set 0 inside (λ s k. clash k (promise.member_empty s))) (promise.none_read _);
        }

    -- a station that is polled is on the bus
    poll_kept : (s : ℕ) → keeps (poll s)
    unfolding needs
    poll_kept s a fewer =
        with_round_lem (next w (poll s)) fewer refl refl refl
        (λ busy e k m. or_cases (member w.round.polled k) (eqb k s) (sym (promise.member_join w.round.polled k s low) ∙ m)
        (h.polled busy e k) (λ z. h.on k (rw (eqb-true k s z) ((on_bus_lem w f.small s).1 (a.1.0, a.1.1.1.0)))))
      where
        low : s < 16
        low = let b = a.1.0 in let few = f.small in omega arith

    -- a commit that is done was heard, so that it was of another item
    commit_kept : keeps commit
    unfolding needs
    commit_kept a fewer =
        record {
          those = h.those;
          on = λ s k. h.on s (fewer s k);
          polled = λ busy. absurd (busy refl);
          deaf = commit_deaf i h.those w f h.deaf (λ _ own. clash heard_now (silent_unheard w h f.item a.1.0 own));
        }
      where
        heard_now : heard w ≡ true
        heard_now = (heard_exactly w).1 a.1.1.0

    kept : (c : Call) → keeps c
    kept (lay n m value config) a fewer = laid_kept n m value config a fewer
    kept (open_read j) a fewer = opened_kept read j 0 no_target
    kept (open_write j value) a fewer = opened_kept write j value no_target
    kept (open_change j target) a fewer = opened_kept change j 0 (standard_form w.n target)
    kept (poll s) a fewer = poll_kept s a fewer
    kept (put s sort) a fewer = with_round_lem (next w (put s sort)) fewer refl refl refl h.polled
    kept commit a fewer = commit_kept a fewer
    kept abandon a fewer = opened_kept none 0 0 no_target
    kept (link s state) a fewer = with_round_lem (next w (link s state)) fewer refl refl refl h.polled
    kept (reach j) a fewer = h
    kept diagnose a fewer = h
    kept (plan j) a fewer = h

  -- ---- a list of calls
  pub stays : (calls : List Call) (u : Table) → AreBytes u → (view u).is_sound ≡ true → Silent (view u) → AllPassable calls → StaysUnheard i u calls
  unfolding view
  stays [] u b s h p = tt
  stays (c ∷ calls) u b s h p = (
    λ e busy own. (demand2.open_round u s busy).unheard.1
        (λ x. clash ((heard_exactly (view u)).1 x) (silent_unheard (view u) h (is_sound_lem u s).item busy own)),
    λ fewer. stays calls (after u c) (bytes_kept u c b p.0) (stays-sound u c b p.0 s) (goes (reply u c).number refl fewer) p.1,
  )
    where
      goes : (k : ℕ) → (reply u c).number ≡ k → on_bus (view (after u c)) ⊆ on_bus (view u) → Silent (view (after u c))
      goes zero e fewer =
          let l = next-view u c e b p.0 in
          silent_like _ _ l (kept (view u) (is_sound_lem u s) h c (done_allowed u c e) (rw (l.n, l.off) at fewer))
      goes (suc k) e fewer = rw (refusal_changes_nothing u c (λ z. let y : suc k ≡ 0 = sym e ∙ z in omega arith)) h

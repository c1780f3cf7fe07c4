-- Where no part of some stations is heard on an item, no round that has polled only these finishes, until a lay or a change of the item: along every list of
-- calls. Only a change stores generations and configurations.
use mathlib.Core.Path.{◌≡◌, refl, sym, ap, ◌∙◌}
use mathlib.Core.Bool.{true, false}
use mathlib.Core.List.{List, [], ◌∷◌}
use Prim.Native.Nat.{ℕ, zero, suc, ◌<◌}
use native.Mathlib.Omega.{arith}
use lib.Dec.{eqb}
use borrow.Author.Tests.{eqb-true}
use Rattle.basics.specs.Bytes.{AreBytes}
use Rattle.basics.proofs.Tests.{clash, either}
use Rattle.quorum.specs.Configurations.{holds_read}
use Rattle.quorum.specs.Promise.{◌⊆◌}
use Rattle.quorum.proofs.Promise.{promise}
use Rattle.layout.specs.Fields.{change}
use Rattle.layout.specs.Newest.{hears}
use Rattle.layout.specs.View.{Table, State, view}
use Rattle.layout.proofs.Contents.{SameWhole}
use Rattle.layout.proofs.Soundness.{StateSound, is_sound_lem}
use Rattle.layout.proofs.Newer.{hears_same, hears_alike}
use Rattle.rules.specs.Calls.{Call, lay, open_read, open_write, open_change, poll, put, commit, abandon, link, reach, diagnose, plan, is_lay}
use Rattle.rules.specs.Reply.{reply, after}
use Rattle.rules.specs.Lists.{AllPassable}
use Rattle.rules.specs.ReachExact.{NoneFinishes}
use Rattle.rules.proofs.Quorums.{heard_exactly}
use Rattle.rules.proofs.Demand1.{refusal_changes_nothing}
use Rattle.rules.proofs.Demand2.{demand2}
use Rattle.rules.proofs.States.{next}
use Rattle.rules.proofs.Book.{no_config_puts}
use Rattle.rules.proofs.Laws.{next-view, bytes_kept}
use Rattle.rules.proofs.Kept.{stays-sound}

module _ (i these : ℕ) where
  -- no part of them is heard
  abbrev pub Deaf : State → Type 0
  Deaf w = i < w.m → (set : ℕ) → set ⊆ these → hears (w.copies i) set w.n ≡ false

  pub deaf_like : (w x : State) → SameWhole w x → Deaf x → Deaf w
  deaf_like w x l h b set inside =
      let item = rw l.m at b in
      rw l.n (hears_same (w.copies i) (x.copies i) set x.n (λ s k. l.copies i s item k) ∙ h item set inside)

  -- ---- call by call
  module _ (w : State) (f : StateSound w) (h : Deaf w) where
    -- the call is no lay and no commit of a change of the item
    abbrev Other : Call → Type 0
    Other c = (is_lay c ≡ false) × (c ≡ commit → w.round.kind ≡ change → w.round.item ≡ i → ⊥)

    -- what a commit of anything else leaves of the item's generations and configurations
    commit_leaves : (w.round.kind ≡ change → w.round.item ≡ i → ⊥) → (s : ℕ)
        → (((next w commit).copies i s).generation ≡ (w.copies i s).generation) × (((next w commit).copies i s).config ≡ (w.copies i s).config)
    commit_leaves other s =
        either (eqb i w.round.item)
        (λ e. let item = eqb-true i w.round.item e in
        let none = no_config_puts w.n w.round w.round.kind f.round (λ k. other k (sym item)) in
        rw (e, none, promise.member_empty s) (refl, refl)) (λ e. rw e (refl, refl))

    pub commit_deaf : (w.round.kind ≡ change → w.round.item ≡ i → ⊥) → Deaf (next w commit)
    commit_deaf other b set inside =
        hears_alike ((next w commit).copies i) (w.copies i) set w.n
        (λ s _. let same = commit_leaves other s in (same.0, λ a. ap (λ c. holds_read c a) same.1)) ∙ h b set inside

    deaf_kept : (c : Call) → Other c → Deaf (next w c)
    deaf_kept (lay n m value config) o = clash refl o.0
    deaf_kept (open_read j) o = h
    deaf_kept (open_write j value) o = h
    deaf_kept (open_change j target) o = h
    deaf_kept (poll s) o = h
    deaf_kept (put s sort) o = h
    deaf_kept commit o = commit_deaf (o.1 refl)
    deaf_kept abandon o = h
    deaf_kept (link s state) o = h
    deaf_kept (reach j) o = h
    deaf_kept diagnose o = h
    deaf_kept (plan j) o = h

  -- ---- a list of calls
  pub none_finishes : (calls : List Call) (u : Table) → AreBytes u → (view u).is_sound ≡ true → Deaf (view u) → AllPassable calls → NoneFinishes i these u calls
  unfolding view
  none_finishes [] u b s h p = tt
  none_finishes (c ∷ calls) u b s h p = (
    λ e busy own inside. (demand2.open_round u s busy).unheard.1
        (λ x. clash (rw own at ((heard_exactly (view u)).1 x)) (h (rw own at (is_sound_lem u s).item) (view u).round.polled inside)),
    λ o. none_finishes calls (after u c) (bytes_kept u c b p.0) (stays-sound u c b p.0 s) (goes (reply u c).number refl o) p.1,
  )
    where
      goes : (k : ℕ) → (reply u c).number ≡ k → ((reply u c).number ≡ 0 → Other (view u) (is_sound_lem u s) h c) → Deaf (view (after u c))
      goes zero e o = deaf_like _ _ (next-view u c e b p.0) (deaf_kept (view u) (is_sound_lem u s) h c (o e))
      goes (suc k) e o = rw (refusal_changes_nothing u c (λ z. let y : suc k ≡ 0 = sym e ∙ z in omega arith)) h

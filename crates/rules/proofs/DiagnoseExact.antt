-- Diagnose is exact: its tests are commit's first two, and its figures those of the definition.
use mathlib.Core.Path.{◌≡◌, refl, sym, ap, ◌∙◌}
use mathlib.Core.Bool.{true}
use mathlib.Core.Logic.{◌↔◌, ◌⊎◌, inl, inr, ⊎_elim}
use Prim.Native.Nat.{ℕ, zero, suc, ◌≤◌}
use native.Mathlib.Omega.{arith}
use Rattle.basics.specs.Bytes.{AreBytes}
use Rattle.basics.proofs.Tests.{clash, either}
use Rattle.quorum.specs.Configurations.{place_figure}
use Rattle.quorum.proofs.Promise.{promise}
use Rattle.layout.specs.View.{Table, view, own}
use Rattle.layout.specs.Soundness.{sound}
use Rattle.layout.proofs.Newer.{by_version_lem}
use Rattle.layout.proofs.Soundness.{is_sound_lem}
use Rattle.rules.specs.Calls.{poll, commit, diagnose}
use Rattle.rules.specs.Rules.{is_idle}
use Rattle.rules.specs.Figures.{figures_of}
use Rattle.rules.specs.After.{done}
use Rattle.rules.specs.Reply.{reply_of, reply, after}
use Rattle.rules.specs.Needs.{needs}
use Rattle.rules.specs.Steps.{Closing, Diagnosed}
use Rattle.rules.specs.DiagnoseExact.{ShowsCurrent, DiagnoseExact}
use Rattle.rules.proofs.Judged.{numbered, idle_none, a_round}
use Rattle.rules.specs.Demand2.{Found}
use Rattle.rules.specs.Book.{Book, fed}
use Rattle.rules.proofs.Quorums.{found_in, heard_by_lem}
use Rattle.rules.proofs.Demand1.{reply_figures, refusal_has_no_figures}
use Rattle.rules.proofs.Demand2.{demand2}
use Rattle.rules.proofs.Demand3.{after_lists}
use Rattle.rules.proofs.Copies.{heard_current}
use Rattle.rules.proofs.Book.{Follows}
use Rattle.rules.proofs.Steps.{closing-step, place_after, diagnose_step}
use Rattle.rules.proofs.Laws.{done_allowed, next-view}
use Rattle.rules.proofs.Kept.{after-sound}
use Rattle.rules.proofs.Twice.{settled}

pub diagnose_nothing : (t : Table) → after t diagnose ≡ t
unfolding done
diagnose_nothing t = settled t diagnose refl

book_kept : (b : Book) (number : ℕ) → fed b diagnose number ≡ b
unfolding fed
book_kept b zero = refl
book_kept b (suc k) = refl

module _ (t : Table) where
  abbrev number : ℕ
  number = (reply t diagnose).number

  abbrev committing : ℕ
  committing = (reply t commit).number

  -- both are refused alike, with 1 or 5, or diagnose is done and commit gets neither
  abbrev Numbers : Type 0
  Numbers = ((number ≡ committing) × ((number ≡ 1) ⊎ (number ≡ 5))) ⊎ ((number ≡ 0) × ((committing ≡ 0) ⊎ (8 ≤ committing)))

  numbers : Numbers
  unfolding needs view
  numbers =
      either (view t).is_sound
      (λ s. either (is_idle (view t))
      (λ i. let e = (idle_none (view t).round.kind).0 i in
      let five = (numbered.number_exactly t diagnose 5).1 (inr (s, inl (λ o. o e, refl))) in inl (five ∙ sym (demand2.no_round_lem t s e), inr five))
      (λ i. let o = (a_round (view t).round.kind).0 i in
      inr ((numbered.done_exactly t diagnose).1 (s, (o, tt)), late (demand2.open_round t s o).no_other)))
      (λ s. let one = (numbered.number_exactly t diagnose 1).1 (inl (λ e. clash e s, refl)) in inl (one ∙ sym (demand2.unsound t s), inl one))
    where
      late : (committing ≡ 0) ⊎ ((committing ≡ 8) ⊎ ((committing ≡ 10) ⊎ (committing ≡ 11))) → (committing ≡ 0) ⊎ (8 ≤ committing)
      late (inl c) = inl c
      late (inr (inl c)) = inr (omega arith)
      late (inr (inr (inl c))) = inr (omega arith)
      late (inr (inr (inr c))) = inr (omega arith)

  -- 1 and 5 are among the numbers that both get or neither
  same_number : (k : ℕ) → 1 ≤ k → k ≤ 7 → (number ≡ k) ↔ (committing ≡ k)
  same_number k low high = go numbers
    where
      go : Numbers → (number ≡ k) ↔ (committing ≡ k)
      go (inl h) = (λ e. sym h.0 ∙ e, λ e. h.0 ∙ e)
      go (inr (z, inl c)) = (λ e. absurd (omega arith), λ e. absurd (omega arith))
      go (inr (z, inr c)) = (λ e. absurd (omega arith), λ e. absurd (omega arith))

  no_other : (number ≡ 0) ⊎ ((number ≡ 1) ⊎ (number ≡ 5))
  no_other = ⊎_elim (λ h. inr h.1) (λ h. inl h.0) numbers

  -- ---- where it is done
  module _ (e : number ≡ 0) where
    commit_number : (reply t diagnose).first ≡ committing
    unfolding figures_of reply_of
    commit_number = (reply_figures t diagnose e).0

    shows : Diagnosed (view t) (reply t diagnose)
    unfolding needs
    shows =
        let a = done_allowed t diagnose e in diagnose_step (view t) (is_sound_lem t a.0) a.0 a.1.0 (reply t diagnose) (reply_figures t diagnose e)

    unheard : ((reply t diagnose).third ≡ 0) ↔ ((reply t diagnose).first ≡ 8)
    unheard = (
      λ z. shows.commits.unheard.1 (λ h. shows.place.unheard.0 z h.0 h.1),
      λ z. shows.place.unheard.1 (λ g h. shows.commits.unheard.0 z (g, h)),
    )

    closing : (reply t diagnose).first ≡ 0
        → (f : Found (view t)) × ((reply t diagnose).second ≡ suc f.b) × Closing (view t) f (view t).round.kind (reply t commit)
    unfolding needs figures_of
    closing z =
        let finished : committing ≡ 0 = sym commit_number ∙ z in
        let a = done_allowed t commit finished in
        let f = found_in (view t) a.1.1.0 in
        let figures = reply_figures t commit finished in
        (f, (shows.station f.b).1 f.newest_version, closing-step (view t) f (reply t commit) (view t).round.kind a.1.0 figures)

    nothing_polled : (reply t diagnose).second ≡ 0 → (reply t diagnose).first ≡ 8
    nothing_polled z = shows.commits.unheard.1 (λ h. clash h.1.0.in_set (rw (shows.no_station.0 z) (promise.member_empty h.0)))

    then_gets : (reply (after t diagnose) commit).number ≡ (reply t diagnose).first
    then_gets = rw (diagnose_nothing t) (sym commit_number)

  -- ---- right after a poll
  module _ (s : ℕ) (b : AreBytes t) (e : (reply t (poll s)).number ≡ 0) where
    abbrev polled : Table
    polled = after t (poll s)

    still_open : (reply polled diagnose).number ≡ 0
    unfolding needs view
    still_open =
        let a = done_allowed t (poll s) e in
        let kind = ap (λ r. r.kind) (next-view t (poll s) e b tt).round in
        (numbered.done_exactly polled diagnose).1 (after-sound t (poll s) b tt e, (λ none_open. a.1.1.0 (sym kind ∙ none_open), tt))

    poll_shows : ((reply polled diagnose).number ≡ 0) × ((reply polled diagnose).third ≡ (reply t (poll s)).first)
    unfolding figures_of needs
    poll_shows =
        let is_sound = (done_allowed t (poll s) e).0 in
        let place = place_after (view t) (view polled) s (next-view t (poll s) e b tt) (is_sound_lem t is_sound) in
        (still_open, (reply_figures polled diagnose still_open).2 ∙ ap place_figure place ∙ sym (reply_figures t (poll s) e).0)

-- ---- a table that follows the book
-- a figure says that it is done
figured : (t : Table) (s : ℕ) → (reply t diagnose).second ≡ suc s → (reply t diagnose).number ≡ 0
figured t s e = go (reply t diagnose).number refl
  where
    go : (k : ℕ) → (reply t diagnose).number ≡ k → (reply t diagnose).number ≡ 0
    go zero d = d
    go (suc k) d = let z = (refusal_has_no_figures t diagnose (λ q. let y : suc k ≡ 0 = sym d ∙ q in omega arith)).1 in absurd (omega arith)

shows_current : (t : Table) (b : Book) → AreBytes t → sound t ≡ true → Follows (view t) b → ShowsCurrent t b
unfolding view
shows_current t b bytes is_sound inv s shown place =
    let v = view t in
    let i = v.round.item in
    let polled = v.round.polled in
    let told = shows t (figured t s shown) in
    let f = is_sound_lem t is_sound in
    let heard = (heard_by_lem v i polled).1 (told.place.heard.0 place) in
    let now = heard_current v.n (own v) _ _ _ polled (inv.kept i f.item) (λ k l. f.configs i k f.item l) heard in
    let its = by_version_lem (own v) polled v.n s ((told.station s).0 shown) in
    (ap (λ c. c.value) (sym its) ∙ now.value, ap (λ c. c.version) (sym its) ∙ now.version)

pub diagnose_exact : DiagnoseExact
diagnose_exact =
    record {
      unsound = λ t. same_number t 1 (omega arith) (omega arith);
      idle = λ t. same_number t 5 (omega arith) (omega arith);
      no_other = no_other;
      commit_number = commit_number;
      shows = shows;
      closing = closing;
      nothing_polled = nothing_polled;
      unheard = unheard;
      then_gets = then_gets;
      then_finishes = λ t e z. then_gets t e ∙ z;
      over_lists = after_lists ShowsCurrent shows_current;
      book_kept = book_kept;
      poll_shows = poll_shows;
    }

-- Soundness is kept: the state after a call that is done is sound, and the bytes hold it (Laws.antt).
use mathlib.Core.Path.{◌≡◌, refl, sym, ◌∙◌}
use mathlib.Core.Bool.{Bool, true, false, not}
use mathlib.Core.List.{List, [], ◌∷◌}
use mathlib.Core.Logic.{◌↔◌}
use Prim.Native.Nat.{ℕ, zero, suc}
use native.Mathlib.Omega.{arith}
use borrow.Author.Tests.{not-true}
use Rattle.basics.specs.Bytes.{AreBytes}
use Rattle.basics.proofs.Tests.{clash}
use Rattle.layout.specs.Soundness.{sound}
use Rattle.layout.specs.View.{Table, State, view}
use Rattle.layout.proofs.Contents.{SameWhole}
use Rattle.layout.proofs.Held.{Holds, held_view}
use Rattle.layout.proofs.Soundness.{StateSound, facts_sound}
use Rattle.rules.specs.Calls.{Call, lay, is_lay}
use Rattle.rules.specs.Passed.{Passable}
use Rattle.rules.specs.Rules.{tests, refusals}
use Rattle.rules.specs.Reply.{reply_of, reply, after}
use Rattle.rules.specs.Lists.{replies, AllPassable}
use Rattle.rules.specs.Needs.{needs}
use Rattle.rules.specs.SoundKept.{NoneUnsound, SoundKept}
use Rattle.rules.proofs.Chains.{Decides, first_tells}
use Rattle.rules.proofs.Judged.{judged, asked_first, unsound_number}
use Rattle.rules.proofs.Demand1.{refusal_changes_nothing}
use Rattle.rules.proofs.States.{next}
use Rattle.rules.proofs.Laws.{done_law, holds-next, bytes_kept}

-- a state like a sound one is sound
like_sound : (v w : State) → SameWhole v w → StateSound w → StateSound v
like_sound v w l f =
    record {
      positive = rw l.n f.positive;
      small = rw l.n f.small;
      some_item = rw l.m f.some_item;
      few_items = rw l.m f.few_items;
      item = rw (l.m, l.round) f.item;
      off = rw (l.n, l.off) f.off;
      polled = rw (l.n, l.round) f.polled;
      data_puts = rw (l.n, l.round) f.data_puts;
      config_puts = rw (l.n, l.round) f.config_puts;
      data_on = rw (l.off, l.round) f.data_on;
      config_on = rw (l.off, l.round) f.config_on;
      round = rw (l.n, l.round) f.round;
      configs = rw (l.n, l.m) (λ i s p q. rw (l.copies i s p q) (f.configs i s p q));
    }

-- and so is a table that holds one
pub held_sound : (u : Table) (w : State) → Holds u w → StateSound w → sound u ≡ true
held_sound u w h f =
    facts_sound u (record {
      size = rw (h.n, h.m) h.size;
      kind = h.kind;
      spare = h.spare;
      state = like_sound (view u) w (held_view u w h) f;
    })

pub after-sound : (t : Table) (c : Call) → AreBytes t → Passable c → (reply t c).number ≡ 0 → sound (after t c) ≡ true
after-sound t c b p e = held_sound (after t c) (next (view t) c) (holds-next t c e b p) (done_law t c e).is_sound

-- ---- a list of calls
-- every call but a lay gets 1 exactly if the table is not sound
pub unsound_one : (t : Table) (c : Call) → is_lay c ≡ false → ((reply t c).number ≡ 1) ↔ (sound t ≡ false)
unfolding reply_of refusals view
unsound_one t c l =
    let v = view t in
    let asked : Bool × ℕ = (not v.is_sound, 1) in
    let d : Decides (asked ∷ tests v c) (needs v c) = rw l at (judged v c).decided in (
      λ e. not-true (sound t) (first_tells asked (tests v c) (needs v c) d ((judged v c).rising l) (sym (asked_first v c l) ∙ e)),
      λ e. unsound_number v c l e,
    )

pub stays-sound : (t : Table) (c : Call) → AreBytes t → Passable c → sound t ≡ true → sound (after t c) ≡ true
stays-sound t c b p h = go (reply t c).number refl
  where
    go : (k : ℕ) → (reply t c).number ≡ k → sound (after t c) ≡ true
    go zero e = after-sound t c b p e
    go (suc k) e = rw (refusal_changes_nothing t c (λ z. let q : suc k ≡ 0 = sym e ∙ z in omega arith)) h

none_unsound : (t : Table) (calls : List Call) → AreBytes t → AllPassable calls → sound t ≡ true → NoneUnsound calls (replies t calls)
unfolding replies
none_unsound t [] b p h = tt
none_unsound t (c ∷ calls) b p h = (
  λ l e. clash h ((unsound_one t c l).0 e),
  none_unsound (after t c) calls (bytes_kept t c b p.0) p.1 (stays-sound t c b p.0 h),
)

pub sound_kept : SoundKept
unfolding replies
sound_kept =
    record {
      sound_kept = after-sound;
      never_unsound = λ t n m value config calls b p e. (
        λ l. clash refl l,
        none_unsound (after t (lay n m value config)) calls (bytes_kept t (lay n m value config) b p.0) p.1
            (after-sound t (lay n m value config) b p.0 e),
      );
    }

-- What lay and open change left when they stored the configuration as it was given: tables that differ from those of now in spelling alone.
use mathlib.Core.Path.{◌≡◌, refl}
use mathlib.Core.List.{List}
use Prim.Native.Nat.{ℕ}
use native.Mathlib.Omega.{arith}
use Rattle.basics.specs.Bytes.{AreBytes}
use Rattle.quorum.specs.Promise.{SamePasses}
use Rattle.quorum.proofs.Promise.{promise}
use Rattle.form.proofs.Laws.{form_spells, spells_itself}
use Rattle.layout.specs.Fields.{change, kind_byte}
use Rattle.layout.specs.Updates.{laid, set_round}
use Rattle.layout.specs.View.{Table, State, view, ContentsBy}
use Rattle.layout.proofs.Held.{with_round, Holds, holds-own, held_view}
use Rattle.layout.proofs.Fields.{opened}
use Rattle.layout.proofs.Soundness.{StateSound, is_sound_lem}
use Rattle.layout.proofs.Stored.{started, holds-laid}
use Rattle.rules.specs.Calls.{Call, lay, open_change}
use Rattle.rules.specs.Passed.{Passable}
use Rattle.rules.specs.Needs.{needs}
use Rattle.rules.specs.Reply.{reply, after}
use Rattle.rules.proofs.Alike.{contents_like}
use Rattle.rules.proofs.States.{next, laid-sound, renewed}
use Rattle.rules.proofs.Views.{opens}
use Rattle.rules.proofs.Laws.{done_allowed, next-view, bytes_kept}
use Rattle.rules.proofs.Kept.{held_sound, after-sound}
use Rattle.spelling.specs.Spellings.{SameButSpelling}

-- a table that holds a sound state which differs in spelling from the one after a call that is done
same_but_spelling : (t : Table) (c : Call) → AreBytes t → Passable c → (reply t c).number ≡ 0
    → (u : Table) (w : State) → Holds u w → StateSound w → ContentsBy SamePasses w (next (view t) c) → SameButSpelling u (after t c)
same_but_spelling t c b p e u w h f same =
    record {
      bytes = (h.bytes, bytes_kept t c b p);
      are_sound = (held_sound u w h f, after-sound t c b p e);
      contents = contents_like (held_view u w h) (next-view t c e b p) same;
    }

pub lay_before : (t : Table) (n m value : ℕ) (config : List ℕ) → AreBytes t → Passable (lay n m value config) → (reply t (lay n m value config)).number ≡ 0
    → SameButSpelling (laid n m value config) (after t (lay n m value config))
unfolding needs
lay_before t n m value config b p e =
    let c = lay n m value config in
    let a = done_allowed t c e in
    let size = a.0 in
    let ok = (promise.valid_exactly n config).1 a.1.1.0 in
    same_but_spelling t c b p e (laid n m value config) (started (view t) n m value config)
    (holds-laid (view t) n m value config size.1 (omega arith) p.0 (promise.valid_length n config ok) p.1)
    (laid-sound (view t) n m value config size ok)
    (record {
      n = refl;
      m = refl;
      off = refl;
      round = record { kind = refl; item = refl; polled = refl; data_puts = refl; config_puts = refl; value = refl; target = spells_itself refl };
      copies = λ i s g h. record { version = refl; value = refl; generation = refl; config = form_spells n config ok };
    })

pub change_before : (t : Table) (i : ℕ) (target : List ℕ) → AreBytes t → Passable (open_change i target) → (reply t (open_change i target)).number ≡ 0
    → SameButSpelling (set_round t (kind_byte change) i 0 target) (after t (open_change i target))
unfolding needs
change_before t i target b p e =
    let c = open_change i target in
    let v = view t in
    let a = done_allowed t c e in
    let ok = (promise.valid_exactly v.n target).1 a.1.1.0 in
    let f = renewed v (is_sound_lem t a.0) change i 0 target a.1.0 (refl, ok) in
    same_but_spelling t c b p e (set_round t (kind_byte change) i 0 target) (with_round v (opened change i 0 target))
    (opens t v (holds-own t b a.0) 3 i 0 target (omega arith) (omega arith) (promise.valid_length v.n target ok) p f) f
    (record {
      n = refl;
      m = refl;
      off = refl;
      round = record { kind = refl; item = refl; polled = refl; data_puts = refl; config_puts = refl; value = refl; target = form_spells v.n target ok };
      copies = λ i s g h. record { version = refl; value = refl; generation = refl; config = spells_itself refl };
    })

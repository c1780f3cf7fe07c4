-- What is proved of every call that is done, call by call: the one place where a new call's lemmas are handed over. Behind it, what follows
-- for every call at once.
use mathlib.Core.Path.{◌≡◌, refl, sym, ◌∙◌}
use mathlib.Core.Bool.{Bool, true, false, cond}
use Prim.Native.Nat.{ℕ}
use native.Mathlib.Nat.{le_refl}
use native.Mathlib.Omega.{arith}
use lib.Dec.{eqb}
use lib.ListN.{length}
use borrow.Author.Tests.{eqb-true, eq-eqb}
use Rattle.basics.specs.Bytes.{AreBytes}
use Rattle.basics.proofs.Tests.{by_cases}
use Rattle.quorum.proofs.Promise.{promise}
use Rattle.form.specs.Form.{standard_form}
use Rattle.form.proofs.Laws.{form_length, form_bytes, form_valid}
use Rattle.quorum.specs.Configurations.{config_size}
use Rattle.layout.specs.Layout.{table_length}
use Rattle.layout.specs.Fields.{Copy, Kind, none, read, write, change}
use Rattle.layout.specs.Soundness.{sound}
use Rattle.layout.specs.View.{Table, State, view, heard}
use Rattle.layout.specs.Updates.{set_off, no_target, put_copies}
use Rattle.basics.proofs.Parts.{read_zeros}
use Rattle.layout.proofs.Contents.{SameWhole}
use Rattle.layout.proofs.Fields.{off_only, polled_only, puts_only, round_only, target_length}
use Rattle.layout.proofs.Soundness.{StateSound, sound_facts, is_sound_lem, sound_head}
use Rattle.layout.proofs.Held.{with_off, with_copies, Holds, holds-own, held_view, holds_off, holds_polled, holds-puts}
use Rattle.layout.proofs.Stored.{Small, put_length, laid-length, committed, holds_copies, holds-laid}
use Rattle.rules.specs.Calls.{Call, lay, open_read, open_write, open_change, poll, put, commit, abandon, link, reach, diagnose, plan, is_off}
use Rattle.rules.specs.Passed.{Passable}
use Rattle.rules.specs.Rules.{number_of, spent, written}
use Rattle.rules.specs.Figures.{figures_of, closing}
use Rattle.rules.specs.After.{stores, linked, done}
use Rattle.rules.specs.Reply.{reply_of, reply, after}
use Rattle.rules.specs.Book.{Book, step}
use Rattle.rules.specs.Demand2.{Spent, Written}
use Rattle.rules.specs.Needs.{needs, Allowed}
use Rattle.rules.specs.Steps.{Step}
use Rattle.rules.specs.declared.Reply.{Reply}
use Rattle.rules.proofs.Quorums.{is_spent, is_written, heard_exactly, found_in, of_every, of_none}
use Rattle.rules.proofs.Judged.{allowed}
use Rattle.rules.proofs.States.{next, renewed, polled_sound, put_sound, closed-sound, committed_sound, link_sound, laid-sound}
use Rattle.rules.proofs.Views.{closing_fits, opens, opens_plain, two_bytes}
use Rattle.rules.proofs.Book.{Follows, keep_laid, keep_commit}
use Rattle.rules.proofs.Demand1.{Shows, reply_figures}
use Rattle.rules.proofs.Steps.{opened_step, polled_step, put_step, link_step, commit_step, reach_step, diagnose_step, plan_step, laid-step}

pub record Law (t : Table) (c : Call) : Type 0 where
  -- the state after it is sound
  pub is_sound : StateSound (next (view t) c)
  -- the bytes after it hold that state
  pub held : AreBytes t → Passable c → Holds (done t (view t) c) (next (view t) c)
  -- it does what Steps.antt says
  pub does : (w : State) (r : Reply) → SameWhole w (next (view t) c) → Shows r (figures_of (view t) c) → Step c (view t) w r
  -- a table that followed the book follows it after both
  pub follows : (b : Book) → Follows (view t) b → Follows (next (view t) c) (step b c)
  -- the table keeps its length
  pub size : length (done t (view t) c) ≡ length t

module _ (t : Table) where
  abbrev v : State
  v = view t

  abbrev kind : Kind
  kind = v.round.kind

  -- ---- a commit that is allowed
  pub commit_heard : Allowed v commit → heard v ≡ true
  unfolding needs
  commit_heard a = (heard_exactly v).1 a.1.1.0

  pub commit_unspent : Allowed v commit → spent v kind ≡ false
  unfolding needs
  commit_unspent a = (of_none v a.1.1.0 (spent v kind) (λ f. Spent v f kind) (λ f. is_spent v f kind)).1 a.1.1.1.0

  pub commit_written : Allowed v commit → written v kind ≡ true
  unfolding needs
  commit_written a = (of_every v a.1.1.0 (written v kind) (λ f. Written v f kind) (λ f. is_written v f kind)).1 a.1.1.1.1.0

  abbrev new : Copy
  new = stores (closing v kind) v.round.target

  -- the copies stored, and then the round closed
  commit_held : AreBytes t → Allowed v commit → v.is_sound ≡ true → StateSound (next v commit) → Holds (done t v commit) (next v commit)
  unfolding done
  commit_held b a s f =
      let x = closing_fits t b kind (commit_heard a) (commit_unspent a) in
      let small : Small new = record { value = x.0; version = x.1; generation = x.2 } in
      let h = holds_copies t v new refl (holds-own t b s) (is_sound_lem t s).item small in
      opens_plain (put_copies t v.n v.round new v.n) (with_copies v (committed v new)) h 0 0 0 (omega arith) (omega arith) f

  commit_size : sound t ≡ true → length (done t v commit) ≡ length t
  unfolding done view
  commit_size s =
      let f = sound_facts t s in
      let h = sound_head t s in
      let e = put_length t v.n v.round new v.m f.size f.state.item (target_length t h) v.n (le_refl v.n) in
      (round_only (put_copies t v.n v.round new v.n) (rw e h) 0 0 0 no_target refl).size ∙ e

  link_held : (s state : ℕ) → AreBytes t → v.is_sound ≡ true → StateSound (next v (link s state)) → Holds (done t v (link s state)) (next v (link s state))
  unfolding done
  link_held s state b e f =
      let o = linked v s (is_off state) in
      holds-puts (set_off t o) (with_off v o) (holds_off t v (holds-own t b e) o (two_bytes _ f o f.off)) _ _
      (two_bytes _ f _ f.data_puts) (two_bytes _ f _ f.config_puts)

  link_size : (s state : ℕ) → sound t ≡ true → length (done t v (link s state)) ≡ length t
  unfolding done view
  link_size s state e =
      let h = sound_head t e in
      let f = off_only t h (linked v s (is_off state)) in
      (puts_only _ (rw f.size h) _ _).size ∙ f.size

  -- ---- every call
  pub law : (c : Call) → Allowed v c → Law t c
  unfolding needs done view figures_of
  law (lay n m value config) a =
      let form = standard_form n config in
      let ok = form_valid n config ((promise.valid_exactly n config).1 a.1.1.0) in
      let long = form_length n config in
      let size = a.0 in
      record {
        is_sound = laid-sound v n m value form size ok;
        held = λ b p. holds-laid v n m value form size.1 (omega arith) p.0 long (form_bytes n config);
        does = λ w r l q. laid-step v w n m value form size.1 l;
        follows = λ b _. keep_laid v b n m value config ok size.3;
        size = laid-length n m value form long ∙ sym (eqb-true (length t) (table_length n m) a.1.0);
      }
  law (open_read i) a =
      let f = renewed v (is_sound_lem t a.0) read i 0 no_target a.1.0 (refl, refl, refl, read_zeros config_size) in
      record {
        is_sound = f;
        held = λ b p. opens_plain t v (holds-own t b a.0) 1 i 0 (omega arith) (omega arith) f;
        does = λ w r l q. opened_step v w read i 0 no_target l;
        follows = λ b k. record { kept = k.kept; noted = refl; entries = k.entries };
        size = (round_only t (sound_head t a.0) 1 i 0 no_target refl).size;
      }
  law (open_write i value) a =
      let f = renewed v (is_sound_lem t a.0) write i value no_target a.1.0 (refl, read_zeros config_size) in
      record {
        is_sound = f;
        held = λ b p. opens_plain t v (holds-own t b a.0) 2 i value (omega arith) p f;
        does = λ w r l q. opened_step v w write i value no_target l;
        follows = λ b k. record { kept = k.kept; noted = refl; entries = k.entries };
        size = (round_only t (sound_head t a.0) 2 i value no_target refl).size;
      }
  law (open_change i target) a =
      let form = standard_form v.n target in
      let ok = form_valid v.n target ((promise.valid_exactly v.n target).1 a.1.1.0) in
      let long = form_length v.n target in
      let f = renewed v (is_sound_lem t a.0) change i 0 form a.1.0 (refl, ok) in
      record {
        is_sound = f;
        held = λ b p. opens t v (holds-own t b a.0) 3 i 0 form (omega arith) (omega arith) long (form_bytes v.n target) f;
        does = λ w r l q. opened_step v w change i 0 form l;
        follows = λ b k. record { kept = k.kept; noted = refl; entries = k.entries };
        size = (round_only t (sound_head t a.0) 3 i 0 form long).size;
      }
  law (poll s) a =
      let f = polled_sound v (is_sound_lem t a.0) s a.1.0 a.1.1.0 in
      record {
        is_sound = f;
        held = λ b p. holds_polled t v (holds-own t b a.0) _ (two_bytes _ f _ f.polled);
        does = λ w r l q. polled_step v w s l (is_sound_lem t a.0) r a.1.0 q;
        follows = λ b k. record { kept = k.kept; noted = k.noted; entries = k.entries };
        size = (polled_only t (sound_head t a.0) _).size;
      }
  law (put s sort) a =
      let g = is_sound_lem t a.0 in
      let f = put_sound v g s sort a.1.0.0 a.1.1.1.0 a.1.1.1.1.1.0 in
      record {
        is_sound = f;
        held = λ b p. holds-puts t v (holds-own t b a.0) _ _ (two_bytes _ f _ f.data_puts) (two_bytes _ f _ f.config_puts);
        does = λ w r l q. let k = g.small in let h = a.1.0.0 in put_step v w s (omega arith) sort l;
        follows = λ b k. record { kept = k.kept; noted = k.noted; entries = k.entries };
        size = (puts_only t (sound_head t a.0) _ _).size;
      }
  law commit a =
      let g = is_sound_lem t a.0 in
      let f = committed_sound v g in
      record {
        is_sound = f;
        held = λ b p. commit_held b a a.0 f;
        does = λ w r l q. commit_step v w r l g.item q (found_in v a.1.1.0) a.1.0;
        follows = λ b k. keep_commit v b k g a.1.0 (commit_heard a) (commit_written a);
        size = commit_size a.0;
      }
  law abandon a =
      let f = closed-sound v (is_sound_lem t a.0) in
      record {
        is_sound = f;
        held = λ b p. opens_plain t v (holds-own t b a.0) 0 0 0 (omega arith) (omega arith) f;
        does = λ w r l q. opened_step v w none 0 0 no_target l;
        follows = λ b k. record { kept = k.kept; noted = refl; entries = k.entries };
        size = (round_only t (sound_head t a.0) 0 0 0 no_target refl).size;
      }
  law (link s state) a =
      let g = is_sound_lem t a.0 in
      let f = link_sound v g s state a.1.0.0 in
      record {
        is_sound = f;
        held = λ b p. link_held s state b a.0 f;
        does = λ w r l q. let k = g.small in let h = a.1.0.0 in link_step v w s (omega arith) state l;
        follows = λ b k. record { kept = k.kept; noted = k.noted; entries = k.entries };
        size = link_size s state a.0;
      }
  law (reach i) a =
      record {
        is_sound = is_sound_lem t a.0;
        held = λ b p. holds-own t b a.0;
        does = λ w r l q. reach_step v i (is_sound_lem t a.0) r q;
        follows = λ b k. k;
        size = refl;
      }
  law diagnose a =
      record {
        is_sound = is_sound_lem t a.0;
        held = λ b p. holds-own t b a.0;
        does = λ w r l q. diagnose_step v (is_sound_lem t a.0) a.0 a.1.0 r q;
        follows = λ b k. k;
        size = refl;
      }
  law (plan i) a =
      record {
        is_sound = is_sound_lem t a.0;
        held = λ b p. holds-own t b a.0;
        does = λ w r l q. plan_step v i (is_sound_lem t a.0) a.1.1.0 r q;
        follows = λ b k. k;
        size = refl;
      }

-- ---- a call that is done
module _ (t : Table) (c : Call) (e : (reply t c).number ≡ 0) where
  pub done-after : after t c ≡ done t (view t) c
  unfolding reply_of after
  done-after = rw (eq-eqb (number_of (view t) c) 0 e)

  pub done_allowed : Allowed (view t) c
  unfolding reply_of
  done_allowed = allowed (view t) c e

  pub done_law : Law t c
  done_law = law t c done_allowed

  pub holds-next : AreBytes t → Passable c → Holds (after t c) (next (view t) c)
  holds-next b p = rw done-after (done_law.held b p)

  -- what the rules see after it
  pub next-view : AreBytes t → Passable c → SameWhole (view (after t c)) (next (view t) c)
  next-view b p = held_view (after t c) (next (view t) c) (holds-next b p)

  -- it does what Steps.antt says
  pub done-step : AreBytes t → Passable c → Step c (view t) (view (after t c)) (reply t c)
  done-step b p = done_law.does (view (after t c)) (reply t c) (next-view b p) (reply_figures t c e)

-- ---- any call: the table is what the call makes of it if it is done, or as it was
pub by_number : (P : Table → Type 0) (t : Table) (c : Call) → ((reply t c).number ≡ 0 → P (done t (view t) c)) → P t → P (after t c)
unfolding reply_of after
by_number P t c f h =
    by_cases (λ (b : Bool). P (cond b (done t (view t) c) t)) (eqb (number_of (view t) c) 0) (λ e. f (eqb-true (number_of (view t) c) 0 e)) (λ _. h)

pub length_kept : (t : Table) (c : Call) → length (after t c) ≡ length t
length_kept t c = by_number (λ (u : Table). length u ≡ length t) t c (λ e. (done_law t c e).size) refl

pub bytes_kept : (t : Table) (c : Call) → AreBytes t → Passable c → AreBytes (after t c)
bytes_kept t c b p = by_number AreBytes t c (λ e. rw (done-after t c e) at (holds-next t c e b p).bytes) b

-- From a lay on every configuration in the table is its own form.
use mathlib.Core.Path.{◌≡◌, refl, sym, ap, ◌∙◌}
use mathlib.Core.Bool.{Bool, true, cond, ◌&&◌}
use mathlib.Core.List.{List, [], ◌∷◌}
use Prim.Native.Nat.{ℕ, zero, suc}
use native.Mathlib.Omega.{arith}
use lib.Dec.{eqb}
use Rattle.basics.specs.Bytes.{AreBytes}
use Rattle.basics.proofs.Tests.{by_cases}
use Rattle.quorum.specs.Sets.{member}
use Rattle.quorum.specs.Promise.{SamePasses}
use Rattle.quorum.proofs.Promise.{promise}
use Rattle.form.specs.Form.{standard_form}
use Rattle.form.proofs.Laws.{same_passes_form, own_form, form_nothing}
use Rattle.layout.specs.Soundness.{sound}
use Rattle.layout.specs.View.{Table, State, view}
use Rattle.layout.proofs.Contents.{SameWhole, EachConfig, contents_with}
use Rattle.layout.proofs.TableFacts.{table_facts}
use Rattle.rules.specs.Calls.{Call, lay, open_read, open_write, open_change, poll, put, commit, abandon, link, reach, diagnose, plan}
use Rattle.rules.specs.Passed.{Passable}
use Rattle.rules.specs.Needs.{needs, Allowed}
use Rattle.rules.specs.Reply.{reply, after}
use Rattle.rules.specs.Lists.{after_all, AllPassable}
use Rattle.rules.proofs.States.{next}
use Rattle.rules.proofs.Demand1.{refusal_changes_nothing}
use Rattle.rules.proofs.Laws.{done_allowed, next-view, bytes_kept}
use Rattle.spelling.specs.Spellings.{respelled}
use Rattle.spelling.proofs.Respelled.{respelled_bytes, respelled_contents, respelled_sound, respelled_passes}

-- the target and every copy's configuration are their own forms
abbrev pub InForm : State → Type 0
InForm v = EachConfig (λ c. standard_form v.n c ≡ c) v

-- ---- call by call
pub laid_in_form : (v : State) (n m value : ℕ) (config : List ℕ) → Allowed v (lay n m value config) → InForm (next v (lay n m value config))
unfolding needs
laid_in_form v n m value config a =
    record { target = form_nothing n; copies = λ i s p q. own_form n config ((promise.valid_exactly n config).1 a.1.1.0) }

module _ (v : State) (h : InForm v) where
  keeps : (c : Call) → Allowed v c → InForm (next v c)
  unfolding needs
  keeps (lay n m value config) a = laid_in_form v n m value config a
  keeps (open_read i) a = record { target = form_nothing v.n; copies = h.copies }
  keeps (open_write i value) a = record { target = form_nothing v.n; copies = h.copies }
  keeps (open_change i target) a =
      record { target = own_form v.n target ((promise.valid_exactly v.n target).1 a.1.1.0); copies = h.copies }
  keeps (poll s) a = record { target = h.target; copies = h.copies }
  keeps (put s sort) a = record { target = h.target; copies = h.copies }
  keeps commit a =
      record {
        target = form_nothing v.n;
        copies = λ i s p q. by_cases (λ (b : Bool).
            let config : List ℕ = cond b v.round.target (v.copies i s).config in standard_form v.n config ≡ config)
            (eqb i v.round.item && member v.round.config_puts s) (λ _. h.target) (λ _. h.copies i s p q);
      }
  keeps abandon a = record { target = form_nothing v.n; copies = h.copies }
  keeps (link s state) a = record { target = h.target; copies = h.copies }
  keeps (reach i) a = h
  keeps diagnose a = h
  keeps (plan i) a = h

-- ---- a list of calls
pub in_form_like : (v w : State) → SameWhole v w → InForm w → InForm v
in_form_like v w l f =
    record {
      target = rw (l.n, l.round) f.target;
      copies = λ i s p q. let i' = rw l.m at p in let s' = rw l.n at q in rw (l.n, l.copies i s i' s') (f.copies i s i' s');
    }

goes_on : (t : Table) (c : Call) → AreBytes t → Passable c → InForm (view t) → InForm (view (after t c))
goes_on t c b p h = go (reply t c).number refl
  where
    go : (k : ℕ) → (reply t c).number ≡ k → InForm (view (after t c))
    go zero e = in_form_like _ _ (next-view t c e b p) (keeps (view t) h c (done_allowed t c e))
    go (suc k) e = rw (refusal_changes_nothing t c (λ z. let q : suc k ≡ 0 = sym e ∙ z in omega arith)) h

-- ---- tables
-- a table respelled is in form
pub respelled_in_form : (t : Table) → sound t ≡ true → InForm (view (respelled t))
respelled_in_form t s =
    let forms = respelled_contents t s in
    let passes = respelled_passes t s in
    record {
      target = own forms.n passes.round.target forms.round.target;
      copies = λ i k p q. own forms.n (passes.copies i k p q).config (forms.copies i k p q).config;
    }
  where
    own : {n k : ℕ} {c d : List ℕ} → n ≡ k → SamePasses c d → d ≡ standard_form n c → standard_form k d ≡ d
    own {n = n} {k = k} {c = c} {d = d} e p form = ap (λ x. standard_form x d) (sym e) ∙ sym (same_passes_form n c d p) ∙ sym form

-- a sound table of bytes in form stays as it is when it is respelled
pub unchanged : (t : Table) → AreBytes t → sound t ≡ true → InForm (view t) → respelled t ≡ t
unchanged t b s h =
    sym (table_facts.same_bytes t (respelled t) b (respelled_bytes t b) s (respelled_sound t s)
    (contents_with (λ c d own form. sym (form ∙ own)) h (respelled_contents t s)))

pub all_in_form : (t : Table) (calls : List Call) → AreBytes t → AllPassable calls → InForm (view t) → InForm (view (after_all t calls))
unfolding after_all
all_in_form t [] b p h = h
all_in_form t (c ∷ calls) b p h = all_in_form (after t c) calls (bytes_kept t c b p.0) p.1 (goes_on t c b p.0 h)

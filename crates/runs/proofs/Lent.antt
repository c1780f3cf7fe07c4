-- What a call is lent, and the table in use after it.
use mathlib.Core.Path.{◌≡◌, refl, sym, ap, ◌∙◌}
use mathlib.Core.Bool.{false}
use mathlib.Core.List.{List, []}
use mathlib.Core.Logic.{◌⊎◌, inl, inr}
use mathlib.Core.Option.{some}
use Prim.Native.Nat.{ℕ, zero, suc}
use native.Mathlib.Omega.{arith}
use borrow.Author.Tests.{eq-eqb, ne_eqb}
use lib.ListN.{replicate}
use Rattle.basics.specs.Bytes.{AreBytes}
use Rattle.layout.specs.Layout.{lay_length}
use Rattle.layout.specs.View.{view}
use Rattle.basics.proofs.Parts.{bytes_zeros}
use Rattle.rules.specs.Calls.{Call, lay, is_lay}
use Rattle.rules.specs.Reply.{reply, after}
use Rattle.rules.proofs.Judged.{IsLay, of_lay, judged}
use Rattle.rules.proofs.Demand1.{refusal_changes_nothing}
use Rattle.runs.specs.Session.{lent, table_or}

-- ---- a lay, or another call, which is lent the table in use
pub by_lay : (P : Call → Type 0) → ((n m value : ℕ) (config : List ℕ) → P (lay n m value config)) → ((c : Call) → is_lay c ≡ false → P c) → (c : Call) → P c
by_lay P f g c = go (judged (view []) c).lay?
  where
    at_lay : {c : Call} → IsLay c → P c
    at_lay (of_lay {n} {m} {value} {config}) = f n m value config

    go : IsLay c ⊎ (is_lay c ≡ false) → P c
    go (inl l) = at_lay l
    go (inr e) = g c e

pub lent_lay : (t : List ℕ) (n m value : ℕ) (config : List ℕ) → lent t (lay n m value config) ≡ replicate (lay_length n m) 0
unfolding lent
lent_lay t n m value config = refl

pub lent_same : (t : List ℕ) (c : Call) → is_lay c ≡ false → lent t c ≡ t
unfolding lent
lent_same t c e = rw e

pub lent_bytes : (t : List ℕ) (c : Call) → AreBytes t → AreBytes (lent t c)
lent_bytes t c b =
    by_lay (λ c. AreBytes (lent t c)) (λ n m value config. rw (lent_lay t n m value config) (bytes_zeros (lay_length n m)))
    (λ c e. rw (lent_same t c e) b) c

-- ---- the table in use: a lay that is done replaces it, a lay that is refused keeps it, any other call goes on from it
pub replaced : (t : List ℕ) (c : Call) → (reply (lent t c) c).number ≡ 0 → table_or t (some c) ≡ after (lent t c) c
replaced t c e = rw (eq-eqb (reply (lent t c) c).number 0 e)

pub kept : (t : List ℕ) (c : Call) → ((reply (lent t c) c).number ≡ 0 → ⊥) → table_or t (some c) ≡ t
kept t c e = rw (ne_eqb (reply (lent t c) c).number 0 e)

-- by a call's number
pub by_number : {A : Type 0} (k : ℕ) → (k ≡ 0 → A) → ((k ≡ 0 → ⊥) → A) → A
by_number zero f g = f refl
by_number (suc k) f g = g (λ e. omega arith)

pub went_on : (t : List ℕ) (c : Call) → is_lay c ≡ false → table_or t (some c) ≡ after t c
went_on t c e =
    by_number (reply (lent t c) c).number (λ z. replaced t c z ∙ ap (λ u. after u c) (lent_same t c e))
    (λ z. kept t c z ∙ sym (refusal_changes_nothing t c (rw (lent_same t c e) at z)))

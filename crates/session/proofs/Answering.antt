-- A call on the table in its buffer.
use mathlib.Core.Path.{◌≡◌, refl, sym, ap, ◌∙◌}
use mathlib.Core.Bool.{Bool, false, cond}
use mathlib.Core.List.{List, ◌++◌}
use mathlib.Core.Option.{Option, none, some}
use Prim.Native.Nat.{ℕ, ◌-◌, ◌≤◌}
use native.Mathlib.Omega.{arith}
use lib.Dec.{ltb}
use lib.ListN.{length, get_or, take, drop, length-replicate, take-append-drop}
use lib.Seq.{take_at, drop_at, length-take-le}
use Rattle.basics.specs.Bytes.{number, over}
use Rattle.basics.proofs.Tests.{◌also◌, by_cases}
use Rattle.rules.specs.Calls.{Call, lay, is_lay}
use Rattle.rules.specs.After.{done}
use Rattle.rules.specs.Reply.{reply, after}
use Rattle.rules.specs.declared.Reply.{Reply}
use Rattle.rules.proofs.Laws.{done-after}
use Rattle.rules.proofs.Demands.{lay_alone}
use Rattle.dispatch.specs.Codes.{number_of}
use Rattle.dispatch.specs.declared.Code.{Code}
use Rattle.dispatch.specs.declared.Code.TheVariants.{Lay, OpenRead, OpenWrite, OpenChange, Poll, Put, Commit, Abandon, Link, Reach, Diagnose, Plan}
use Rattle.dispatch.specs.Dispatch.{frame_length, calls_of, call_at, reply_or, after_or}
use Rattle.dispatch.proofs.Entries.{Each, each_at}
use Rattle.dispatch.proofs.Codes.{enough}
use Rattle.frames.specs.Frame.{call_byte, call_of}
use Rattle.frames.specs.Reading.{most_arguments}
use Rattle.replies.specs.ReplyLine.{reply_line}
use Rattle.runs.specs.Session.{lent, replied, reply_to, table_or, printed}
use Rattle.rules.proofs.Demand1.{refusal_changes_nothing}
use Rattle.runs.proofs.Lent.{by_lay, lent_same, lent_lay, replaced, kept}
use Rattle.layout.specs.Layout.{largest, lay_length}
use Rattle.session.specs.Buffer.{InUse, lent_length}

-- ---- the length that is lent
-- a code that is not lay's stands for no lay
module _ (used : ℕ) (arguments : List ℕ) where
  others : Each (λ code o. (code ≡ 1 → ⊥) → lent_length used o ≡ used) (calls_of arguments)
  unfolding calls_of
  others =
      (λ n. refl) also (λ n. absurd (n refl)) also (λ n. refl) also (λ n. refl) also (λ n. refl) also (λ n. refl) also (λ n. refl)
      also (λ n. refl) also (λ n. refl) also (λ n. refl) also (λ n. refl) also (λ n. refl) also (λ n. refl) also tt

  pub in_use : (code : ℕ) → (code ≡ 1 → ⊥) → lent_length used (call_at code arguments) ≡ used
  unfolding call_at
  in_use code n =
      by_cases (λ (b : Bool). lent_length used (cond b none (get_or (calls_of arguments) code none)) ≡ used)
      (ltb (length arguments) (frame_length code - 1)) (λ _. refl)
      (λ _. each_at (λ code o. (code ≡ 1 → ⊥) → lent_length used o ≡ used) (calls_of arguments) none others (λ k past _. refl) code n)

  -- and so for a code that is not lay's
  pub in_use_but_lay : (code : Code) → (code ≡ Lay → ⊥) → lent_length used (call_at (number_of code) arguments) ≡ used
  in_use_but_lay Lay n = absurd (n refl)
  in_use_but_lay OpenRead n = in_use 2 (λ e. absurd (omega arith))
  in_use_but_lay OpenWrite n = in_use 3 (λ e. absurd (omega arith))
  in_use_but_lay OpenChange n = in_use 4 (λ e. absurd (omega arith))
  in_use_but_lay Poll n = in_use 5 (λ e. absurd (omega arith))
  in_use_but_lay Put n = in_use 6 (λ e. absurd (omega arith))
  in_use_but_lay Commit n = in_use 7 (λ e. absurd (omega arith))
  in_use_but_lay Abandon n = in_use 8 (λ e. absurd (omega arith))
  in_use_but_lay Link n = in_use 9 (λ e. absurd (omega arith))
  in_use_but_lay Reach n = in_use 10 (λ e. absurd (omega arith))
  in_use_but_lay Diagnose n = in_use 11 (λ e. absurd (omega arith))
  in_use_but_lay Plan n = in_use 12 (λ e. absurd (omega arith))

  pub needed : length arguments ≡ most_arguments → lent_length used (call_at 1 arguments) ≡ lay_length (number arguments 0 1) (number arguments 1 1)
  unfolding calls_of frame_length
  needed e = ap (lent_length used) (enough 1 arguments (omega arith))

-- ---- a call, or none, performed on the front of the buffer: what is known of it
pub record Performed (old : List ℕ) (used lend : ℕ) (o : Option Call) (r : Reply) (last : List ℕ) : Type 0 where
  pub whole : length old ≡ largest
  pub used_fits : used ≤ largest
  pub lend_fits : lend ≤ largest
  pub is_lent : lend ≡ lent_length used o
  pub replies : r ≡ reply_or (take lend old) o
  pub leaves : last ≡ after_or (take lend old) o
  pub same_length : length last ≡ length (take lend old)

-- ---- the call on the bytes that are lent is the call on those that the definition lends
abbrev Alike : List ℕ → List ℕ → Call → Type 0
Alike t u c = (reply t c ≡ reply u c) × ((reply t c).number ≡ 0 → after t c ≡ after u c)

module _ (old : List ℕ) (whole : length old ≡ largest) (used lend : ℕ) (fits : lend ≤ largest) where
  abbrev AlikeLent : Call → Type 0
  AlikeLent c = Alike (take lend old) (lent (take used old) c) c

  lay_alike : (n m value : ℕ) (config : List ℕ) → lend ≡ lay_length n m → AlikeLent (lay n m value config)
  unfolding done
  lay_alike n m value config d =
      let c = lay n m value config in
      let zeros = lent_lay (take used old) n m value config in
      let long : length (take lend old) ≡ length (lent (take used old) c) =
      length-take-le lend old (omega arith) ∙ d ∙ sym (ap length zeros ∙ length-replicate (lay_length n m) 0)
      in
      let same = lay_alone.lay_reply (take lend old) (lent (take used old) c) n m value config long in (
        same,
        λ z. done-after (take lend old) c z ∙ sym (done-after (lent (take used old) c) c (rw same at z)),
      )

  other_alike : (c : Call) → is_lay c ≡ false → lend ≡ lent_length used (some c) → AlikeLent c
  other_alike c o d =
      let e : lend ≡ used = d ∙ rw o in
      rw (lent_same (take used old) c o, e) (refl, λ z. refl)

  alike : (c : Call) → lend ≡ lent_length used (some c) → AlikeLent c
  alike c = by_lay (λ c. lend ≡ lent_length used (some c) → AlikeLent c) lay_alike other_alike c

-- ---- so the reply is the session's, and the buffer has the session's table
module _ (old : List ℕ) (used lend : ℕ) (r : Reply) (last : List ℕ) where
  alike_of : (c : Call) → Performed old used lend (some c) r last → Alike (take lend old) (lent (take used old) c) c
  alike_of c f = alike old f.whole used lend f.lend_fits c f.is_lent

  pub its_reply : (o : Option Call) → Performed old used lend o r last → r ≡ replied (take used old) o
  its_reply none f = f.replies
  its_reply (some c) f = f.replies ∙ (alike_of c f).0

  pub is_done : (o : Option Call) → Performed old used lend o r last → r.number ≡ 0
      → InUse old (last ++ drop lend old) lend (table_or (take used old) o)
  is_done none f z = let no : ◌≡◌ {A = ℕ} 12 0 = rw f.replies at z in absurd (omega arith)
  is_done (some c) f z =
      let whole = f.whole in
      let fits = f.lend_fits in
      let n : length last ≡ lend = f.same_length ∙ length-take-le lend old (omega arith) in
      let a = alike_of c f in
      let y : (reply (take lend old) c).number ≡ 0 = rw f.replies at z in
      let now : last ≡ table_or (take used old) (some c) = f.leaves ∙ a.1 y ∙ sym (replaced (take used old) c (rw a.0 at y)) in
      record { room = fits; table = take_at last (drop lend old) lend n ∙ now; beyond = drop_at last (drop lend old) lend n }

  untouched : (t : List ℕ) → used ≤ largest → last ≡ take lend old → take used old ≡ t → InUse old (last ++ drop lend old) used t
  untouched t l e is =
      let same : last ++ drop lend old ≡ old = ap (λ u. u ++ drop lend old) e ∙ take-append-drop lend old in
      rw same (record { room = l; table = is; beyond = refl })

  pub is_refused : (o : Option Call) → Performed old used lend o r last → (r.number ≡ 0 → ⊥)
      → InUse old (last ++ drop lend old) used (table_or (take used old) o)
  is_refused none f z = untouched (take used old) f.used_fits f.leaves refl
  is_refused (some c) f z =
      let y : (reply (take lend old) c).number ≡ 0 → ⊥ = rw f.replies at z in
      let x = rw (alike_of c f).0 at y in
      untouched _ f.used_fits (f.leaves ∙ refusal_changes_nothing (take lend old) c y) (sym (kept (take used old) c x))

-- ---- the reply line, of the line's call byte and call
pub shows_reply : (t line out shown : List ℕ) (at call : ℕ) (r : Reply) (o : Option Call) → o ≡ call_of line → call ≡ call_byte line
    → r ≡ replied t o → shown ≡ over out at (reply_line call r) → shown ≡ over out at (printed t line)
unfolding reply_to printed
shows_reply t line out shown at call r o e b p s = s ∙ rw (b, p, e)

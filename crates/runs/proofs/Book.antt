-- A session and the book: the table in use follows the book from the first lay that replies 0 on.
use mathlib.Core.Path.{◌≡◌, refl, ap, ◌∙◌}
use mathlib.Core.Bool.{Bool, true, false, cond}
use mathlib.Core.List.{List, [], ◌∷◌}
use mathlib.Core.Logic.{◌⊎◌, inl, inr}
use mathlib.Core.Option.{Option, none, some}
use Prim.Native.Nat.{ℕ, zero, suc}
use native.Mathlib.Omega.{arith}
use Rattle.basics.specs.Tests.{all}
use Rattle.basics.specs.Bytes.{little_endian, AreBytes}
use Rattle.basics.proofs.Tests.{by_cases}
use Rattle.layout.specs.Layout.{table_length, lay_length}
use Rattle.layout.specs.Soundness.{soundness, sound}
use Rattle.layout.specs.View.{Table, view}
use Rattle.basics.proofs.Parts.{bytes_zeros}
use Rattle.rules.specs.Calls.{Call, is_lay, lay, commit}
use Rattle.rules.specs.Reply.{reply}
use Rattle.rules.specs.Passed.{Passable}
use Rattle.rules.specs.Lists.{replies}
use Rattle.rules.specs.Book.{Book, fed}
use Rattle.rules.specs.Demand3.{OneCopy, Agrees}
use Rattle.rules.proofs.Laws.{bytes_kept}
use Rattle.rules.proofs.Kept.{unsound_one}
use Rattle.rules.proofs.Book.{Follows}
use Rattle.rules.proofs.Demand3.{agrees, goes_on, begins}
use Rattle.frames.specs.Frame.{call_of}
use Rattle.runs.specs.Session.{lent, replied, reply_to, table_or, table_after}
use Rattle.runs.specs.Calls.{with_call, calls_in, with_reply, replies_in, call_then, calls_on, reply_then, replies_on, NoLayDone}
use Rattle.frames.proofs.FrameLines.{passable}
use Rattle.runs.proofs.Lent.{by_lay, lent_same, lent_lay, replaced, kept, by_number, went_on}

-- ---- what a refusal keeps
refused_book : (b : Book) (c : Call) (k : ℕ) → (k ≡ 0 → ⊥) → fed b c k ≡ b
unfolding fed
refused_book b c zero e = absurd (e refl)
refused_book b c (suc k) e = refl

-- ---- before a lay succeeds the table is empty, and every call on it but a lay is refused
empty_unsound : sound [] ≡ false
unfolding sound soundness all table_length little_endian
empty_unsound = refl

empty_refuses : (c : Call) → is_lay c ≡ false → (reply [] c).number ≡ 0 → ⊥
empty_refuses c l z = let q = (unsound_one [] c l).1 empty_unsound in omega arith

-- ---- the book along a session
-- no lay has succeeded yet, or the table in use follows the book
abbrev Ready : Table → Book → Type 0
Ready t b = (t ≡ []) ⊎ (AreBytes t × Follows (view t) b)

-- what a frame does: it agrees with the book, and the session is ready for the next
abbrev Step : Table → Book → Call → Type 0
Step t b c =
    let r = reply (lent t c) c in
    (c ≡ commit → r.number ≡ 0 → Agrees b (fed b c r.number) r) × Ready (table_or t (some c)) (fed b c r.number)

-- a refused frame changes nothing
refused_step : (t : Table) (b : Book) (c : Call) → ((reply (lent t c) c).number ≡ 0 → ⊥) → Ready t b → Step t b c
refused_step t b c x r = ((λ q z. absurd (x z)), rw (kept t c x, refused_book b c (reply (lent t c) c).number x) r)

-- a frame that is no lay
call_step : (t : Table) (b : Book) (c : Call) → is_lay c ≡ false → Passable c → Ready t b → Step t b c
call_step t b c l p (inl z) = refused_step t b c (λ q. empty_refuses c l (rw (lent_same t c l, z) at q)) (inl z)
call_step t b c l p (inr f) =
    rw (went_on t c l, lent_same t c l)
    ((λ q. rw q (agrees t b f.1)), inr (bytes_kept t c f.0 p, goes_on t b c f.0 p f.1))

-- a lay that replies 0 begins anew; one that is refused changes nothing
lay_step : (t : Table) (b : Book) (n m value : ℕ) (config : List ℕ) → Passable (lay n m value config) → Ready t b → Step t b (lay n m value config)
unfolding fed
lay_step t b n m value config p r =
    let c = lay n m value config in
    let u = lent t c in
    let zeros : AreBytes u = rw (lent_lay t n m value config) (bytes_zeros (lay_length n m)) in
    by_number (reply u c).number
    (λ z. (
      (λ q. let no : ◌≡◌ {A = ℕ} 0 1 = cc in absurd (omega arith)),
      inr (rw (replaced t c z) (bytes_kept u c zeros p), rw (replaced t c z, z) (begins u b n m value config zeros p z)),
    ))
    (λ x. refused_step t b c x r)

step : (t : Table) (b : Book) (c : Call) → Passable c → Ready t b → Step t b c
step t b c p r =
    by_lay (λ c. Passable c → Step t b c) (λ n m value config q. lay_step t b n m value config q r) (λ c l q. call_step t b c l q r) c p

-- ---- the whole session
shows : (t : Table) (b : Book) (lines : List (List ℕ)) → Ready t b → OneCopy b (calls_in lines) (replies_in t lines)
unfolding calls_in replies_in reply_to table_after
shows t b [] r = tt
shows t b (line ∷ lines) r = go (call_of line) (passable line) (λ u d s. shows u d lines s)
  where
    go : (o : Option Call) → ((c : Call) → o ≡ some c → Passable c)
        → ((u : Table) (d : Book) → Ready u d → OneCopy d (calls_in lines) (replies_in u lines))
        → OneCopy b (with_call o (calls_in lines)) (with_reply o (replied t o) (replies_in (table_or t o) lines))
    go none p f = f t b r
    go (some c) p f = let s = step t b c (p c refl) r in (s.0, f (table_or t (some c)) (fed b c (reply (lent t c) c).number) s.1)

pub shows_the_book : (lines : List (List ℕ)) (b : Book) → OneCopy b (calls_in lines) (replies_in [] lines)
shows_the_book lines b = shows [] b lines (inl refl)

-- ---- the replies of a session are those of its lists
reply-step : (t : List ℕ) (o : Option Call) (lines : List (List ℕ))
    → ((c : Call) → o ≡ some c → is_lay c ≡ true → (replied t o).number ≡ 0 → ⊥)
    → replies_on (table_or t o) lines ≡ replies (table_or t o) (calls_on lines)
    → reply_then o (replied t o) (replies_on (table_or t o) lines) ≡ replies t (call_then o (calls_on lines))
unfolding replies
reply-step t none lines h e = e
reply-step t (some c) lines h e =
    by_cases
    (λ (b : Bool).
    is_lay c ≡ b
    → cond b (replies_on (table_or t (some c)) lines) (replied t (some c) ∷ replies_on (table_or t (some c)) lines)
    ≡ replies t (cond b (calls_on lines) (c ∷ calls_on lines))) (is_lay c)
    (λ _ l. e ∙ ap (λ u. replies u (calls_on lines)) (kept t c (h c refl l)))
    (λ _ l. rw (e, went_on t c l, lent_same t c l)) refl

replies_on_lem : (t : List ℕ) (lines : List (List ℕ)) → NoLayDone t lines → replies_on t lines ≡ replies t (calls_on lines)
unfolding replies_on calls_on replies reply_to table_after
replies_on_lem t [] h = refl
replies_on_lem t (line ∷ lines) h =
    reply-step t (call_of line) lines h.0 (replies_on_lem (table_or t (call_of line)) lines h.1)

pub list_of_demand_3 : (t line : List ℕ) (n m value : ℕ) (config : List ℕ) (lines : List (List ℕ))
    → call_of line ≡ some (lay n m value config) → (reply_to t line).number ≡ 0 → NoLayDone (table_after t line) lines
    → reply_to t line ∷ replies_on (table_after t line) lines
    ≡ replies (lent t (lay n m value config)) (lay n m value config ∷ calls_on lines)
unfolding replies reply_to table_after
list_of_demand_3 t line n m value config lines e z h =
    rw (replies_on_lem (table_after t line) lines h, e, replaced t (lay n m value config) (rw e at z))

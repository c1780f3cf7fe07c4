-- What a session prints is its reply, each figure whole; and its table stays bytes.
use mathlib.Core.Path.{◌≡◌, refl}
use mathlib.Core.Bool.{Bool, cond}
use mathlib.Core.List.{List, [], ◌∷◌}
use mathlib.Core.Logic.{inl, inr}
use mathlib.Core.Option.{Option, none, some}
use Prim.Native.Nat.{ℕ, ◌<◌}
use native.Mathlib.Omega.{arith}
use lib.Dec.{eqb}
use lib.ListN.{get_or}
use Rattle.basics.specs.Bytes.{AreBytes}
use Rattle.basics.proofs.Tests.{by_cases}
use Rattle.rules.specs.Calls.{Call}
use Rattle.rules.specs.Reply.{reply, after}
use Rattle.rules.specs.Passed.{Passable}
use Rattle.rules.specs.Demand1.{ListedNumber}
use Rattle.rules.proofs.Demands.{demand1}
use Rattle.frames.specs.Hex.{bytes_in}
use Rattle.frames.specs.Frame.{call_byte, call_of}
use Rattle.runs.specs.Session.{lent, replied, reply_to, table_or, table_after, printed}
use Rattle.replies.specs.ReplyLine.{Showable, Shows}
use Rattle.frames.proofs.Digits.{bytes_in_lem}
use Rattle.frames.proofs.FrameLines.{passable}
use Rattle.replies.proofs.ReplyLine.{reply_read_back}
use Rattle.runs.proofs.Lent.{lent_bytes}

first_byte : (l : List ℕ) → AreBytes l → get_or l 0 0 < 256
first_byte [] h = omega arith
first_byte (b ∷ rest) h = h.0

call_byte_fits : (line : List ℕ) → call_byte line < 256
unfolding call_byte
call_byte_fits line = first_byte (bytes_in line) (bytes_in_lem line)

-- the number of a call has room in a byte
listed_fits : {c : Call} {k : ℕ} → ListedNumber c k → k < 256
listed_fits (inl l) = omega arith
listed_fits (inr p) = let e = p.2 in omega arith

showable : (t : List ℕ) (o : Option Call) → AreBytes t → Showable (replied t o)
showable t none b = (omega arith, omega arith, omega arith, omega arith)
showable t (some c) b =
    let f = demand1.figures_fit (lent t c) c (lent_bytes t c b) in
    (listed_fits (demand1.number_is_listed (lent t c) c), f.0, f.1, f.2)

pub prints_the_reply : (t line : List ℕ) → AreBytes t → Shows (bytes_in (printed t line)) (call_byte line) (reply_to t line)
unfolding printed reply_to
prints_the_reply t line b = reply_read_back (call_byte line) (replied t (call_of line)) (call_byte_fits line) (showable t (call_of line) b)

after_bytes : (t : List ℕ) (o : Option Call) → ((c : Call) → o ≡ some c → Passable c) → AreBytes t → AreBytes (table_or t o)
after_bytes t none p b = b
after_bytes t (some c) p b =
    by_cases (λ (x : Bool). AreBytes (cond x (after (lent t c) c) t)) (eqb (reply (lent t c) c).number 0)
    (λ e. demand1.bytes_kept (lent t c) c (lent_bytes t c b) (p c refl)) (λ e. b)

pub stays_bytes : (t line : List ℕ) → AreBytes t → AreBytes (table_after t line)
unfolding table_after
stays_bytes t line b = after_bytes t (call_of line) (passable line) b

-- Codes, their frames' lengths, and the calls that they stand for.
use mathlib.Core.Path.{◌≡◌, refl, sym, subst, ap, ◌∙◌}
use Rattle.std.specs.Prelude.{Option as Answer, None, Some, MatchOption}
use mathlib.Core.Bool.{Bool, cond}
use mathlib.Core.List.{List, ◌++◌}
use mathlib.Core.Option.{Option, none, some}
use Prim.Native.Nat.{ℕ, zero, suc, ◌+◌, ◌-◌, ◌≤◌, ◌<◌}
use native.Mathlib.Omega.{arith}
use lib.Dec.{ltb, leb}
use lib.ListN.{length, get_or, get_or-eq_default, length-append}
use borrow.Author.Tests.{lt-ltb, le-ltb, leb-true, leb-false}
use Rattle.basics.specs.Bytes.{part, number, AreBytes}
use Rattle.basics.proofs.Tests.{◌also◌, by_cases, either}
use Rattle.quorum.specs.Configurations.{config_size}
use Rattle.basics.proofs.Parts.{part_left, bytes_part, number_lt}
use Rattle.rules.specs.Calls.{Call, lay, open_read, open_write, open_change, poll, put, commit, abandon, link, reach, diagnose, plan}
use Rattle.rules.specs.Passed.{Passable, Word}
use Rattle.rules.specs.Reply.{reply, after}
use Rattle.rules.specs.declared.Reply.{Reply}
use Rattle.dispatch.specs.Dispatch.{lengths, longest, frame_length, calls_of, call_at, false_frame, reply_or, after_or}
use Rattle.dispatch.specs.Codes.{number_of, number_or}
use Rattle.dispatch.specs.declared.Code.{Code}
use Rattle.dispatch.specs.declared.Code.TheVariants.{Lay, OpenRead, OpenWrite, OpenChange, Poll, Put, Commit, Abandon, Link, Reach, Diagnose, Plan}
use Rattle.dispatch.proofs.Entries.{entry, Each, each_at}

-- the longest frame
pub frame_length_le : (code : ℕ) → frame_length code ≤ longest
unfolding frame_length
frame_length_le code = leb-true _ longest (entry (λ x. leb x longest) lengths refl refl code)

-- every code has frames
pub has_frame : (code : Code) → 0 < frame_length (number_of code)
unfolding frame_length
has_frame Lay = omega arith
has_frame OpenRead = omega arith
has_frame OpenWrite = omega arith
has_frame OpenChange = omega arith
has_frame Poll = omega arith
has_frame Put = omega arith
has_frame Commit = omega arith
has_frame Abandon = omega arith
has_frame Link = omega arith
has_frame Reach = omega arith
has_frame Diagnose = omega arith
has_frame Plan = omega arith

-- ---- bytes enough, or too few
pub enough : (code : ℕ) (arguments : List ℕ) → frame_length code ≤ length arguments + 1 → call_at code arguments ≡ get_or (calls_of arguments) code none
unfolding call_at
enough code arguments h = let l : frame_length code - 1 ≤ length arguments = omega arith in rw (le-ltb (length arguments) (frame_length code - 1) l)

pub too_few : (code : ℕ) (arguments : List ℕ) → length arguments + 1 < frame_length code → call_at code arguments ≡ none
unfolding call_at
too_few code arguments h = let l : length arguments < frame_length code - 1 = omega arith in rw (lt-ltb (length arguments) (frame_length code - 1) l)

-- what a call tells of its code and arguments
pub at_code : (code : ℕ) (arguments : List ℕ) (c : Call) → call_at code arguments ≡ some c → get_or (calls_of arguments) code none ≡ some c
unfolding call_at
at_code code arguments c e =
    by_cases (λ (b : Bool). cond b none (get_or (calls_of arguments) code none) ≡ some c → get_or (calls_of arguments) code none ≡ some c)
    (ltb (length arguments) (frame_length code - 1)) (λ _ q. let z : ◌≡◌ {A = ℕ} 0 1 = cc in absurd (omega arith)) (λ _ q. q) e

-- ---- a code that has no call
past_codes : (arguments : List ℕ) (code : ℕ) → 13 ≤ code → get_or (calls_of arguments) code none ≡ none
unfolding calls_of
past_codes arguments code h = get_or-eq_default (calls_of arguments) none h

abbrev pub NoneOf : ℕ → ℕ → Type 0
NoneOf code zero = Unit {0}
NoneOf code (suc k) = NoneOf code k × (code ≡ suc k → ⊥)

code_zero : (code k : ℕ) → NoneOf code k → code ≤ k → code ≡ 0
code_zero code zero n h = omega arith
code_zero code (suc k) n h = let other = n.1 in code_zero code k n.0 (omega arith)

pub no_code : (arguments : List ℕ) → call_at 0 arguments ≡ none
unfolding frame_length calls_of
no_code arguments = enough 0 arguments (omega arith)

pub no_length : (code : ℕ) → NoneOf code 12 → frame_length code ≡ 0
unfolding frame_length
no_length code n =
    either (leb code 12) (λ e. rw (code_zero code 12 n (leb-true code 12 e)))
    (λ e. get_or-eq_default lengths 0 (leb-false code 12 e))

no_frames : (arguments : List ℕ) → Each (λ code o. frame_length code ≡ 0 → o ≡ none) (calls_of arguments)
unfolding calls_of frame_length
no_frames arguments =
    (λ z. refl) also (λ z. absurd (omega (arith, z))) also (λ z. absurd (omega (arith, z))) also (λ z. absurd (omega (arith, z)))
    also (λ z. absurd (omega (arith, z))) also (λ z. absurd (omega (arith, z))) also (λ z. absurd (omega (arith, z)))
    also (λ z. absurd (omega (arith, z))) also (λ z. absurd (omega (arith, z))) also (λ z. absurd (omega (arith, z)))
    also (λ z. absurd (omega (arith, z))) also (λ z. absurd (omega (arith, z))) also (λ z. absurd (omega (arith, z))) also tt

pub no_frame : (code : ℕ) (arguments : List ℕ) → frame_length code ≡ 0 → call_at code arguments ≡ none
no_frame code arguments z =
    enough code arguments (omega (arith, z))
    ∙ each_at (λ code o. frame_length code ≡ 0 → o ≡ none) (calls_of arguments) none (no_frames arguments) (λ k past _. refl) code z

-- a byte's code stands for what the byte does
pub of_byte : (o : Answer Code) (byte : ℕ) (arguments : List ℕ) → MatchOption o (frame_length byte ≡ 0) (λ code. number_of code ≡ byte)
    → call_at (number_or o) arguments ≡ call_at byte arguments
of_byte None byte arguments is = no_code arguments ∙ sym (no_frame byte arguments is)
of_byte (Some code) byte arguments is = ap (λ k. call_at k arguments) is

-- ---- every call of bytes is one that a caller can pass
abbrev MaybePassable : Option Call → Type 0
MaybePassable none = Unit {0}
MaybePassable (some c) = Passable c

module _ (arguments : List ℕ) (h : AreBytes arguments) where
  pub large : (at : ℕ) → Word (number arguments at 8)
  large at = let l = number_lt arguments at 8 h in omega arith

  all_passable : Each (λ code. MaybePassable) (calls_of arguments)
  unfolding calls_of
  all_passable =
      tt also (large 2, bytes_part arguments 10 config_size h) also tt also large 1 also bytes_part arguments 1 config_size h also tt also tt
      also tt also tt also tt also tt also tt also tt also tt

  pub passable : (code : ℕ) (c : Call) → call_at code arguments ≡ some c → Passable c
  passable code c e =
      subst MaybePassable (at_code code arguments c e)
      (each_at (λ code. MaybePassable) (calls_of arguments) none all_passable (λ k past. tt) code)

-- ---- bytes behind the arguments are not read
module _ (arguments more : List ℕ) where
  same : (at width : ℕ) → at + width ≤ length arguments → part (arguments ++ more) at width ≡ part arguments at width
  same at width h = part_left arguments more at width h

  same_calls : Each (λ code o. frame_length code ≤ length arguments + 1 → get_or (calls_of (arguments ++ more)) code none ≡ o) (calls_of arguments)
  unfolding calls_of frame_length
  same_calls =
      (λ h. refl)
      also (λ h. rw (same 0 1 (omega arith), same 1 1 (omega arith), same 2 8 (omega arith), same 10 config_size (omega arith)))
      also (λ h. rw (same 0 1 (omega arith)))
      also (λ h. rw (same 0 1 (omega arith), same 1 8 (omega arith)))
      also (λ h. rw (same 0 1 (omega arith), same 1 config_size (omega arith)))
      also (λ h. rw (same 0 1 (omega arith)))
      also (λ h. rw (same 0 1 (omega arith), same 1 1 (omega arith)))
      also (λ h. refl)
      also (λ h. refl)
      also (λ h. rw (same 0 1 (omega arith), same 1 1 (omega arith)))
      also (λ h. rw (same 0 1 (omega arith)))
      also (λ h. refl)
      also (λ h. rw (same 0 1 (omega arith)))
      also tt

  pub unread : (code : ℕ) → frame_length code ≤ length arguments + 1 → call_at code (arguments ++ more) ≡ call_at code arguments
  unfolding calls_of
  unread code h =
      let l : frame_length code ≤ length (arguments ++ more) + 1 = simp length-append (omega arith) in
      enough code (arguments ++ more) l
      ∙ each_at (λ code o. frame_length code ≤ length arguments + 1 → get_or (calls_of (arguments ++ more)) code none ≡ o) (calls_of arguments) none
      same_calls (λ k past _. past_codes (arguments ++ more) k past) code h
      ∙ sym (enough code arguments h)

-- ---- a code's call, in order of its arguments
abbrev pub call_with : Code → List ℕ → Call
call_with Lay arguments = lay (number arguments 0 1) (number arguments 1 1) (number arguments 2 8) (part arguments 10 config_size)
call_with OpenRead arguments = open_read (number arguments 0 1)
call_with OpenWrite arguments = open_write (number arguments 0 1) (number arguments 1 8)
call_with OpenChange arguments = open_change (number arguments 0 1) (part arguments 1 config_size)
call_with Poll arguments = poll (number arguments 0 1)
call_with Put arguments = put (number arguments 0 1) (number arguments 1 1)
call_with Commit arguments = commit
call_with Abandon arguments = abandon
call_with Link arguments = link (number arguments 0 1) (number arguments 1 1)
call_with Reach arguments = reach (number arguments 0 1)
call_with Diagnose arguments = diagnose
call_with Plan arguments = plan (number arguments 0 1)

called : (code : Code) (arguments : List ℕ) → get_or (calls_of arguments) (number_of code) none ≡ some (call_with code arguments)
unfolding calls_of
called Lay arguments = refl
called OpenRead arguments = refl
called OpenWrite arguments = refl
called OpenChange arguments = refl
called Poll arguments = refl
called Put arguments = refl
called Commit arguments = refl
called Abandon arguments = refl
called Link arguments = refl
called Reach arguments = refl
called Diagnose arguments = refl
called Plan arguments = refl

-- what a call replies and leaves is what its code and arguments do
pub performed : (t arguments : List ℕ) {last : List ℕ} {r : Reply} {code k : Code} → code ≡ k → frame_length (number_of code) ≤ length arguments + 1
    → r ≡ reply t (call_with k arguments) → last ≡ after t (call_with k arguments)
    → record {
      value : r ≡ reply_or t (call_at (number_of code) arguments);
      table_after : last ≡ after_or t (call_at (number_of code) arguments);
    }
performed t arguments {code} is long p q =
    let e = enough (number_of code) arguments long ∙ called code arguments in
    record { value = rw (e, is) p; table_after = rw (e, is) q }

-- and nothing, where there is no such call
pub not_called : (t : List ℕ) {r : Reply} {o : Option Call} → o ≡ none → r ≡ false_frame
    → record { value : r ≡ reply_or t o; table_after : t ≡ after_or t o }
not_called t e is = record { value = rw e is; table_after = rw e }

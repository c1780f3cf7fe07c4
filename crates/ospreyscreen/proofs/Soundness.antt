-- Soundness is asked once: a table that is not sound gets 1, and is left as it was; and one that is goes on to the call.
use mathlib.Core.Path.{◌≡◌, sym, ◌∙◌}
use mathlib.Core.Bool.{Bool, true, false, not}
use mathlib.Core.List.{List}
use Prim.Native.Nat.{ℕ}
use borrow.Author.Tests.{not-false}
use Rattle.layout.specs.Soundness.{sound}
use Rattle.layout.specs.View.{view}
use Rattle.rules.specs.Calls.{Call, is_lay}
use Rattle.rules.specs.Reply.{reply, after}
use Rattle.rules.specs.declared.Refusal.TheVariants.{Unsound}
use Rattle.rules.proofs.Judged.{unsound_number}
use Rattle.rules.proofs.Outcomes.{bare, Answers, by_refusal}

pub unsound : (t : List ℕ) (c : Call) → sound t ≡ false → is_lay c ≡ false → Answers t c (bare 1) t
unfolding view
unsound t c s l = by_refusal t c Unsound (sym (unsound_number (view t) c l s))

pub unsound_reply : (t : List ℕ) (c : Call) → sound t ≡ false → is_lay c ≡ false → reply t c ≡ bare 1
unsound_reply t c s l = sym (unsound t c s l).value

pub unsound_after : (t : List ℕ) (c : Call) → sound t ≡ false → is_lay c ≡ false → after t c ≡ t
unsound_after t c s l = sym (unsound t c s l).table_after

pub is_sound_lem : (t : List ℕ) {asked : Bool} → asked ≡ sound t → not asked ≡ false → sound t ≡ true
is_sound_lem t {asked = asked} e h = sym e ∙ not-false asked h

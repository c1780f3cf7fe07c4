-- The number and the output where the writer returns.
use mathlib.Core.Path.{◌≡◌, refl, sym, ◌∙◌}
use mathlib.Core.Bool.{true, false, cond, ◌&&◌}
use mathlib.Core.List.{List}
use Prim.Native.Nat.{ℕ, ◌≤◌}
use lib.Dec.{eqb}
use lib.ListN.{length}
use Rattle.basics.specs.Bytes.{over}
use Rattle.basics.proofs.Tests.{fails}
use Rattle.basics.proofs.Writing.{over-all}
use Rattle.quorum.specs.Sets.{listed_stations}
use Rattle.quorum.specs.Configurations.{config_size, valid}
use Rattle.form.specs.Form.{standard_form}
use Rattle.form.proofs.Laws.{form_length, form_any}
use Rattle.rules.specs.Rules.{first}
use Rattle.spelling.specs.Writer.{form_refusals, form_number, form_output}
use Rattle.spelling.proofs.StandardForm.{sizes}

module _ (n : ℕ) (config out : List ℕ) where
  -- what a call that returns this number and leaves this output is asked for, as the contract names the two
  abbrev pub Answers : ℕ → List ℕ → Type 0
  Answers k after = record { value : k ≡ form_number n config out; out_after : after ≡ form_output n config out }

  answers : (k : ℕ) (after : List ℕ) → form_number n config out ≡ k → after ≡ cond (eqb k 0) (standard_form n config) out → Answers k after
  unfolding form_output
  answers k after e o = record { value = sym e; out_after = o ∙ rw e }

  -- there are 1 to 16 stations, and the output is 32 bytes long
  abbrev Listed : Type 0
  Listed = (1 ≤ n) × (n ≤ 16) × (length out ≡ config_size)

  pub not_listed : (Listed → ⊥) → Answers 2 out
  unfolding form_number form_refusals first
  not_listed h = answers 2 out (rw (fails (listed_stations n && eqb (length out) config_size) (λ e. h ((sizes n out).0 e)))) refl

  module _ (low : 1 ≤ n) (high : n ≤ 16) (long : length out ≡ config_size) where
    listed : (listed_stations n && eqb (length out) config_size) ≡ true
    listed = (sizes n out).1 (low, high, long)

    pub false_configuration : valid n config ≡ false → Answers 3 out
    unfolding form_number form_refusals first
    false_configuration e = answers 3 out (rw (listed, e)) refl

    pub formed : valid n config ≡ true → Answers 0 (over out 0 (standard_form 16 config))
    unfolding form_number form_refusals first
    formed v =
        answers 0 _ (rw (listed, v)) (over-all out (standard_form 16 config) (form_length 16 config ∙ sym long) ∙ sym (form_any n config v))

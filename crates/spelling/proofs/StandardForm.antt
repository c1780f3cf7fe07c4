-- The claims of the standard form and of its writer.
use mathlib.Core.Path.{◌≡◌, refl}
use mathlib.Core.Bool.{true, ◌&&◌}
use mathlib.Core.List.{List, [], ◌∷◌}
use mathlib.Core.Logic.{◌↔◌, inl, inr}
use Prim.Native.Nat.{ℕ, ◌≤◌}
use native.Mathlib.Omega.{arith}
use lib.Dec.{eqb}
use lib.ListN.{length}
use borrow.Author.Tests.{eqb-true, eq-eqb, ne_eqb}
use Rattle.basics.proofs.Tests.{and_left, and_right, and_both}
use Rattle.quorum.specs.Sets.{listed_stations}
use Rattle.quorum.specs.Configurations.{config_size, valid}
use Rattle.quorum.specs.Promise.{SamePasses, Valid}
use Rattle.quorum.proofs.Promise.{promise}
use Rattle.form.specs.Form.{standard_form}
use Rattle.form.proofs.Laws.{form_bytes, form_valid, form_spells, form_passes, passes_form, stations_form, own_form}
use Rattle.form.proofs.Laws.{reads_smallest, writes_smallest, reads_given, writes_given, any_stations, form_nothing}
use Rattle.rules.specs.Needs.{Gets}
use Rattle.rules.proofs.Quorums.{passes}
use Rattle.rules.proofs.Chains.{Decides, exactly}
use Rattle.spelling.specs.Writer.{form_refusals, form_number, form_output}
use Rattle.spelling.specs.StandardForm.{form_needs, StandardForm}
use Rattle.spelling.proofs.Votes.{votes_own_form}

-- what gets 2
pub sizes : (n : ℕ) (out : List ℕ) → ((listed_stations n && eqb (length out) config_size) ≡ true) ↔ ((1 ≤ n) × (n ≤ 16) × (length out ≡ config_size))
sizes n out = (
  λ e. let stations = (promise.listed_stations_lem n).0 (and_left (listed_stations n) _ e) in
      (stations.0, stations.1, eqb-true _ _ (and_right (listed_stations n) _ e)),
  λ h. and_both _ _ ((promise.listed_stations_lem n).1 (h.0, h.1)) (eq-eqb _ _ h.2),
)

module _ (n : ℕ) (config out : List ℕ) where
  decided : Decides (form_refusals n config out) (form_needs n config out)
  unfolding form_refusals
  decided = (refl, passes _ (sizes n out), λ _. (refl, passes (valid n config) (promise.valid_exactly n config), λ _. tt))

  number-gets : (k : ℕ) → (form_number n config out ≡ k) ↔ Gets (form_needs n config out) k
  unfolding form_number
  number-gets = exactly (form_refusals n config out) (form_needs n config out) decided

  output_done : form_number n config out ≡ 0 → form_output n config out ≡ standard_form n config
  unfolding form_output
  output_done e = rw (eq-eqb (form_number n config out) 0 e)

  output_refused : (form_number n config out ≡ 0 → ⊥) → form_output n config out ≡ out
  unfolding form_output
  output_refused h = rw (ne_eqb (form_number n config out) 0 h)

  -- a configuration of which the form is written is valid
  done-valid : form_number n config out ≡ 0 → valid n config ≡ true
  done-valid e = (promise.valid_exactly n config).1 (needed ((number-gets 0).0 e))
    where
      judged : Gets ((3, Valid n config) ∷ []) 0 → Valid n config
      judged (inl p) = absurd (omega (arith, p.1))
      judged (inr p) = p.0

      needed : Gets (form_needs n config out) 0 → Valid n config
      needed (inl p) = absurd (omega (arith, p.1))
      needed (inr p) = judged p.1

same_output : (n : ℕ) (c d out other : List ℕ) → form_number n c out ≡ 0 → form_number n d other ≡ 0
    → (form_output n c out ≡ form_output n d other) ↔ SamePasses c d
same_output n c d out other e h =
    let v = done-valid n c out e in
    let w = done-valid n d other h in
    rw (output_done n c out e, output_done n d other h) (form_passes n n c d v w, passes_form n n c d v w)

pub standard_form_lem : StandardForm
standard_form_lem =
    record {
      form_valid = form_valid;
      form_bytes = form_bytes;
      form_passes = form_spells;
      same_form = λ n m c d v w. (form_passes n m c d v w, passes_form n m c d v w);
      stations_decide = λ n c d v w p. stations_form n c d v w (λ set i. (p set i).0) (λ set i. (p set i).1);
      own_form = own_form;
      zeros_own_form = form_nothing;
      reads_smallest = reads_smallest;
      writes_smallest = writes_smallest;
      reads_given = reads_given;
      writes_given = writes_given;
      any_stations = any_stations;
      votes_own_form = votes_own_form;
      number_exactly = number-gets;
      no_figures_lem = λ n config out. (refl, refl, refl);
      done = output_done;
      same_output = same_output;
      refused = output_refused;
    }

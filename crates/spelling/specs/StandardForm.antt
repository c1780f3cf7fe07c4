-- What is claimed of the standard form (document 02, 2026-06), and of the call that writes it: `ospreyscreen_standard_form` is equal to the definitions in
-- Writer.antt.
use Rattle.std.specs.Prelude.{◌≡◌, true, List, [], ◌∷◌, ◌↔◌, ℕ, ◌≤◌, ◌<◌, length, replicate}
use Rattle.basics.specs.Tests.{Some}
use Rattle.basics.specs.Bytes.{AreBytes}
use Rattle.quorum.specs.Sets.{used, within}
use Rattle.quorum.specs.Configurations.{config_size, read_set, write_set, valid, holds_read, holds_write}
use Rattle.quorum.specs.Promise.{SamePasses, Valid}
use Rattle.form.specs.Sides.{SideLists}
use Rattle.form.specs.Form.{standard_form, SmallestOf}
use Rattle.rules.specs.Demand1.{ZeroFigures}
use Rattle.rules.specs.Needs.{Needs, Gets}
use Rattle.votes.specs.Votes.{votes_reply, votes_output}
use Rattle.spelling.specs.Writer.{form_reply, form_output}

-- what the writer needs, with the numbers, in their order
abbrev pub form_needs : ℕ → List ℕ → List ℕ → Needs
form_needs n config out = (2, (1 ≤ n) × (n ≤ 16) × (length out ≡ config_size)) ∷ (3, Valid n config) ∷ []

pub record StandardForm : Type 0 where
  -- ---- the form of a valid configuration: it is valid for the same stations, and the same station sets pass
  pub form_valid : (n : ℕ) (c : List ℕ) → valid n c ≡ true → valid n (standard_form n c) ≡ true
  pub form_bytes : (n : ℕ) (c : List ℕ) → AreBytes (standard_form n c)
  pub form_passes : (n : ℕ) (c : List ℕ) → valid n c ≡ true → SamePasses c (standard_form n c)
  -- "Two configurations have the same form exactly when the same station sets pass for reading and the same for writing."
  pub same_form : (n m : ℕ) (c d : List ℕ) → valid n c ≡ true → valid m d ≡ true → (standard_form n c ≡ standard_form m d) ↔ SamePasses c d
  -- of configurations of n stations it is enough to try the sets of these
  pub stations_decide : (n : ℕ) (c d : List ℕ) → valid n c ≡ true → valid n d ≡ true
      → ((set : ℕ) → within n set ≡ true → (holds_read c set ≡ holds_read d set) × (holds_write c set ≡ holds_write d set))
      → standard_form n c ≡ standard_form n d
  -- a form is its own form, and so are 32 zeros, which a table has for a target while no change is open
  pub own_form : (n : ℕ) (c : List ℕ) → valid n c ≡ true → standard_form n (standard_form n c) ≡ standard_form n c
  pub zeros_own_form : (n : ℕ) → standard_form n (replicate config_size 0) ≡ replicate config_size 0
  -- the sets of a side of the form are exactly the smallest that pass, each once, rising as numbers; and each of them is one of the side as it was given
  pub reads_smallest : (n : ℕ) (c : List ℕ) → valid n c ≡ true → SideLists (SmallestOf (holds_read c)) (read_set (standard_form n c))
  pub writes_smallest : (n : ℕ) (c : List ℕ) → valid n c ≡ true → SideLists (SmallestOf (holds_write c)) (write_set (standard_form n c))
  pub reads_given : (n : ℕ) (c : List ℕ) → valid n c ≡ true → (k : ℕ) → k < 8 → used (read_set (standard_form n c) k) ≡ true
      → Some 8 (λ j. read_set c j ≡ read_set (standard_form n c) k)
  pub writes_given : (n : ℕ) (c : List ℕ) → valid n c ≡ true → (k : ℕ) → k < 8 → used (write_set (standard_form n c) k) ≡ true
      → Some 8 (λ j. write_set c j ≡ write_set (standard_form n c) k)
  -- of a configuration that is valid for several numbers of stations there is one form
  pub any_stations : (n m : ℕ) (c : List ℕ) → valid n c ≡ true → valid m c ≡ true → standard_form n c ≡ standard_form m c
  -- the output of votes (2026-01) is its own form
  pub votes_own_form : (votes : List ℕ) (read write : ℕ) (out : List ℕ) → (votes_reply votes read write out).number ≡ 0
      → standard_form (length votes) (votes_output votes read write out) ≡ votes_output votes read write out
  -- ---- the writer
  -- every input gets the number of the first need that fails, 2 or 3, and 0 if none does
  pub number_exactly : (n : ℕ) (config out : List ℕ) (k : ℕ) → ((form_reply n config out).number ≡ k) ↔ Gets (form_needs n config out) k
  pub no_figures_lem : (n : ℕ) (config out : List ℕ) → ZeroFigures (form_reply n config out)
  pub done : (n : ℕ) (config out : List ℕ) → (form_reply n config out).number ≡ 0 → form_output n config out ≡ standard_form n config
  -- "Two sheets for one house should compare byte for byte."
  pub same_output : (n : ℕ) (c d out other : List ℕ) → (form_reply n c out).number ≡ 0 → (form_reply n d other).number ≡ 0
      → (form_output n c out ≡ form_output n d other) ↔ SamePasses c d
  pub refused : (n : ℕ) (config out : List ℕ) → ((form_reply n config out).number ≡ 0 → ⊥) → form_output n config out ≡ out

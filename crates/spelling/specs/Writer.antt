-- The writer of standard forms (document 02, 2026-06): "A writer, given n and 32 lent bytes, takes a valid configuration to its standard form".
use Rattle.std.specs.Prelude.{not, cond, ◌&&◌, List, [], ◌∷◌, ℕ, eqb, length}
use Rattle.quorum.specs.Sets.{listed_stations}
use Rattle.quorum.specs.Configurations.{config_size, valid}
use Rattle.form.specs.Form.{standard_form}
use Rattle.rules.specs.Rules.{Chain, first}
use Rattle.rules.specs.declared.Reply.{Reply}

-- "A function that turns one configuration into another gives 2 for a false n or output length, then 3." (document 01). A configuration of another length
-- is not valid.
unfoldable pub form_refusals : ℕ → List ℕ → List ℕ → Chain
form_refusals n config out =
    (not (listed_stations n && eqb (length out) config_size), 2)
    ∷ (not (valid n config), 3)
    ∷ []

unfoldable pub form_number : ℕ → List ℕ → List ℕ → ℕ
form_number n config out = first (form_refusals n config out)

-- It has no figures: "All other figures are zero" (document 01).
abbrev pub form_reply : ℕ → List ℕ → List ℕ → Reply
form_reply n config out = record { number = form_number n config out; first = 0; second = 0; third = 0 }

-- "A refusal leaves .. every other lent buffer untouched" (document 01).
unfoldable pub form_output : ℕ → List ℕ → List ℕ → List ℕ
form_output n config out = cond (eqb (form_number n config out) 0) (standard_form n config) out

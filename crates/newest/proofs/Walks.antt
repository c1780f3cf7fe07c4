-- What the walk has found, by the answer told.
use mathlib.Core.Path.{◌≡◌, sym, ap, ◌∙◌}
use Rattle.std.specs.Prelude.{Option, Some, None}
use Rattle.layout.specs.Walk.{Walked}
use Rattle.newest.specs.Walks.{as_walked, as_option}
use Rattle.newest.specs.declared.Newest.{Newest}

module _ {found : Option Newest} {o : Option Walked} (e : as_option found ≡ o) where
  pub has_found : {newest : Newest} → found ≡ Some newest → o ≡ Some (as_walked newest)
  has_found p = sym e ∙ ap as_option p

  pub nobody_found : found ≡ None → o ≡ None
  nobody_found p = sym e ∙ ap as_option p

-- What a step over the stations of a set gives: the lowest station, and the set without it. So the stations come in the order of `rising`.
use Rattle.std.specs.Prelude.{◌≡◌, ◌∷◌, ℕ, Option, MatchOption}
use Rattle.quorum.specs.Sets.{rising, remove, lowest}
use Rattle.sets.specs.declared.Stations.{Stations}

abbrev pub TakesLowest : Stations → Option ℕ → Stations → Type 0
TakesLowest before station after =
    MatchOption station ((before.0 ≡ 0) × (after.0 ≡ 0))
    (λ s. (before.0 ≡ 0 → ⊥) × (s ≡ lowest before.0) × (after.0 ≡ remove before.0 (lowest before.0)) × (rising before.0 ≡ s ∷ rising after.0))

-- What commit and diagnose hand on of the copies that the open round has found.
use mathlib.Core.Path.{◌≡◌, ap, ◌∙◌}
use mathlib.Core.Bool.{true}
use mathlib.Core.List.{List}
use Prim.Native.Nat.{ℕ, ◌<◌}
use Rattle.quorum.specs.Configurations.{is_place}
use Rattle.std.specs.Prelude.{Option}
use Rattle.layout.specs.Layout.{address}
use Rattle.layout.specs.Fields.{stations, round_of}
use Rattle.layout.specs.Newest.{hears}
use Rattle.layout.specs.Soundness.{sound}
use Rattle.layout.specs.View.{view, read_place, heard}
use Rattle.layout.specs.declared.Kind.{Kind}
use Rattle.layout.proofs.OneWalk.{version_below, generation_below, version_found, generation_found}
use Rattle.newest.specs.declared.Newest.{Newest}
use Rattle.rounds.specs.Heard.{OwnFound}
use Rattle.rounds.proofs.Hearing.{own_fits, own_copy}
use Rattle.closing.specs.Closing.{OpenRound, HeardAt, VersionAt}

module _ (t : List ℕ) {newest : Newest} (e : OwnFound t newest) where
  -- the stations found are among the n
  pub version_there : newest.by_version < stations t
  unfolding view
  version_there = version_below _ _ _ e

  pub generation_there : newest.by_generation < stations t
  unfolding view
  generation_there = generation_below _ _ _ e

  -- where their copies start
  module _ (s : sound t ≡ true) where
    pub value_at_lem : {a : ℕ} → a ≡ address (stations t) (round_of t).item newest.by_version → VersionAt t a
    value_at_lem q = (version_found _ _ _ e ∙ own_copy t s version_there q, own_fits t s version_there q)

    pub heard_at : {kind : Kind} → OpenRound t kind → {a : ℕ} → a ≡ address (stations t) (round_of t).item newest.by_generation
        → heard (view t) ≡ true → HeardAt t kind a
    heard_at o q h =
        record {
          is_open = o;
          is_heard = h;
          generation = generation_found _ _ _ e ∙ own_copy t s generation_there q;
          fits = own_fits t s generation_there q;
        }

-- the round is heard exactly if it holds a read place
pub place_heard : (t : List ℕ) {place : Option ℕ} → place ≡ read_place (view t) → is_place place ≡ heard (view t)
unfolding hears
place_heard t e = ap is_place e

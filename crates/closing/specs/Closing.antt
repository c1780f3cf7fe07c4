-- What the functions behind commit's outcome are held to; diagnose asks them too.
use Rattle.std.specs.Prelude.{◌≡◌, true, List, ℕ, ◌+◌, ◌≤◌, length}
use Rattle.layout.specs.Layout.{copy_size}
use Rattle.layout.specs.Fields.{copy_from}
use Rattle.layout.specs.declared.Kind.{Kind}
use Rattle.layout.specs.View.{view, found_by_version, found_by_generation, heard}
use Rattle.table.specs.Kinds.{opened_kind}
use Rattle.rules.specs.Rules.{first, commit_tests}

-- a round of this kind is open
pub record OpenRound (t : List ℕ) (kind : Kind) : Type 0 where
  pub kind_is : opened_kind kind ≡ (view t).round.kind

-- the round is heard, and what it has found by generation stands from byte g on, whole. (At which station does not matter to the number.)
pub record HeardAt (t : List ℕ) (kind : Kind) (g : ℕ) : Type 0 where
  pub is_open : OpenRound t kind
  pub is_heard : heard (view t) ≡ true
  pub generation : found_by_generation (view t) ≡ copy_from t g
  pub fits : g + copy_size ≤ length t

-- what it has found by version stands from byte b on
abbrev pub VersionAt : List ℕ → ℕ → Type 0
VersionAt t b = (found_by_version (view t) ≡ copy_from t b) × (b + copy_size ≤ length t)

-- the counters that the round has found
abbrev pub VersionFound : List ℕ → ℕ → Type 0
VersionFound t version = version ≡ (found_by_version (view t)).version

abbrev pub GenerationFound : List ℕ → ℕ → Type 0
GenerationFound t generation = generation ≡ (found_by_generation (view t)).generation

-- the number of a commit of a heard round, by the tests past "idle" and "unheard"
abbrev pub closing_number : List ℕ → ℕ
closing_number t = first (commit_tests (view t) (view t).round.kind)

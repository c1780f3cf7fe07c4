-- Put sorts and link states by their numbers, and the tests that several calls share.
use Rattle.std.specs.Prelude.{◌≡◌, not, List, ℕ, [], ◌∷◌}
use Rattle.quorum.specs.Sets.{member}
use Rattle.quorum.specs.Configurations.{valid}
use Rattle.layout.specs.View.{State, heard, found_by_version, found_by_generation}
use Rattle.layout.specs.declared.Kind.{Kind}
use Rattle.layout.specs.declared.Sort.{Sort}
use Rattle.layout.specs.declared.Sort.TheVariants.{Data, Configuration}
use Rattle.rules.specs.Calls.{data_sort, config_sort, off_state, on_state}
use Rattle.rules.specs.Rules.{Chain, no_station, no_sort, no_link, is_idle}
use Rattle.table.specs.Kinds.{opened_kind}
use Rattle.newest.specs.declared.Newest.{Newest}
use Rattle.numbers.specs.declared.arguments.Link.{Link}
use Rattle.numbers.specs.declared.arguments.Link.TheVariants.{Off, On}

abbrev pub sort_number : Sort → ℕ
sort_number Data = data_sort
sort_number Configuration = config_sort

abbrev pub link_number : Link → ℕ
link_number Off = off_state
link_number On = on_state

-- one test of a call's each
abbrev pub by_station : State → ℕ → Chain
by_station v s = (no_station v s, 2) ∷ []

abbrev pub by_sort : ℕ → Chain
by_sort sort = (no_sort sort, 2) ∷ []

abbrev pub by_link : ℕ → Chain
by_link state = (no_link state, 2) ∷ []

abbrev pub by_target : State → List ℕ → Chain
by_target v target = (not (valid v.n target), 3) ∷ []

abbrev pub by_busy : State → Chain
by_busy v = (not (is_idle v), 4) ∷ []

abbrev pub by_off : State → ℕ → Chain
by_off v s = (member v.off s, 6) ∷ []

abbrev pub by_heard : State → Chain
by_heard v = (not (heard v), 8) ∷ []

-- a state in which a round of this kind is open, that has found these counters
pub record Stands (v : State) (kind : Kind) (newest : Newest) : Type 0 where
  pub kind_is : opened_kind kind ≡ v.round.kind
  pub version : newest.version.0 ≡ (found_by_version v).version
  pub generation : newest.generation.0 ≡ (found_by_generation v).generation

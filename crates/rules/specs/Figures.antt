-- The figures of each call that is done (document 01, "The calls", and document 02, 2026-03 to 2026-05).
use Rattle.std.specs.Prelude.{cond, ℕ, ◌+◌}
use Rattle.quorum.specs.Configurations.{place_figure, holds_write}
use Rattle.layout.specs.Rounds.{with_poll}
use Rattle.layout.specs.Fields.{Copy, Kind, none, read, write, change}
use Rattle.layout.specs.Newest.{station_figure, by_generation, heard_place, hears}
use Rattle.layout.specs.View.{State, on_bus, own, found_by_version, found_by_generation, version_from, read_place}
use Rattle.plan.specs.Plan.{planned_polls, planned_puts}
use Rattle.rules.specs.Calls.{Call, lay, open_read, open_write, open_change, poll, put, commit, abandon, link, reach, diagnose, plan}
use Rattle.rules.specs.Rules.{number_of}
use Rattle.rules.specs.declared.Figures.{Figures}

abbrev pub no_figures : Figures
no_figures = record { first = 0; second = 0; third = 0 }

abbrev pub one_figure : ℕ → Figures
one_figure x = record { first = x; second = 0; third = 0 }

-- "Commit's figures are value, version, generation after the round": "a write stores its value with the version plus one; a
-- change's data puts store the found version and value, its configuration puts store the target with the generation plus one."
abbrev pub closing : State → Kind → Figures
closing v none = no_figures
closing v read = record { first = (found_by_version v).value; second = (found_by_version v).version; third = (found_by_generation v).generation }
closing v write = record { first = v.round.value; second = (found_by_version v).version + 1; third = (found_by_generation v).generation }
closing v change = record { first = (found_by_version v).value; second = (found_by_version v).version; third = (found_by_generation v).generation + 1 }

-- Document 02, 2026-03: "Reach shall be judged by what polling every station on the bus finds: 1 if that is heard, 3 if they also hold a write set
-- of the configuration found, else 0". Found and heard are as in a round (Newest.antt of the layout), with the stations on the bus for the polled set: of
-- copies with equal generations that of the lowest station counts, and with nobody on the bus nothing is heard. An open round does not matter.
abbrev pub reach_of : (ℕ → Copy) → ℕ → ℕ → ℕ
reach_of copies on n = cond (hears copies on n) (cond (holds_write (by_generation copies on n).config on) 3 1) 0

abbrev pub reach_figure : State → ℕ → ℕ
reach_figure v i = reach_of (v.copies i) (on_bus v) v.n

-- Document 02, 2026-04: "gives on an open round: the number commit would give now; one plus the station that gave the version, or 0; one plus the
-- read place, or 0". The station is the one whose copy gives the version, heard or not.
abbrev pub diagnosis : State → Figures
diagnosis v =
    record {
      first = number_of v commit;
      second = station_figure (version_from v);
      third = place_figure (read_place v);
    }

-- Document 02, 2026-05: "how many polls first make a new round heard if the stations on the bus are polled in rising number, and how many rising puts
-- then hold a write set of the configuration found; this second figure is 0 if none can".
abbrev pub planned : State → ℕ → Figures
planned v i = record { first = place_figure (planned_polls v i); second = place_figure (planned_puts v i); third = 0 }

-- Document 02, 2026-04: "poll's first figure becomes one plus that place, or 0", the first read place held with this station
-- polled too. Document 01: "Reach has its figure first. All other figures are zero."
unfoldable pub figures_of : State → Call → Figures
figures_of v (lay n m value config) = no_figures
figures_of v (open_read i) = no_figures
figures_of v (open_write i value) = no_figures
figures_of v (open_change i target) = no_figures
figures_of v (poll s) = one_figure (place_figure (heard_place (own v) (with_poll v.round s).polled v.n))
figures_of v (put s sort) = no_figures
figures_of v commit = closing v v.round.kind
figures_of v abandon = no_figures
figures_of v (link s state) = no_figures
figures_of v (reach i) = one_figure (reach_figure v i)
figures_of v diagnose = diagnosis v
figures_of v (plan i) = planned v i

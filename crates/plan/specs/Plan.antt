-- The plan of an item (document 02, 2026-05): "how many polls first make a new round heard if the stations on the bus are polled in rising number, and
-- how many rising puts then hold a write set of the configuration found; this second figure is 0 if none can". What these mean for the calls is in
-- PlanExact.antt of `plan_exact`. The definitions take the item's copies, the stations on the bus and n; found and heard are as in a round (Newest.antt of
-- the layout).
use Rattle.std.specs.Prelude.{List, ℕ, take, Option}
use Rattle.quorum.specs.Configurations.{place_figure, holds_write}
use Rattle.layout.specs.Fields.{Copy}
use Rattle.layout.specs.Newest.{by_generation, hears}
use Rattle.layout.specs.View.{State, on_bus}
use Rattle.plan.specs.Starts.{rising, start, first_start}

-- the polls: the first start that is heard, by what its own copies give. Where there is none the item is out of hearing.
unfoldable pub polls_needed : (ℕ → Copy) → ℕ → ℕ → Option ℕ
polls_needed copies on n = first_start (λ set. hears copies set n) (rising on)

-- the stations that are polled so, and the copy that gives the configuration found by them. With no such start these are none, and nothing is found; nobody
-- asks then, since 15 comes first.
abbrev pub heard_start : (ℕ → Copy) → ℕ → ℕ → ℕ
heard_start copies on n = start (rising on) (place_figure (polls_needed copies on n))

abbrev pub found_by_start : (ℕ → Copy) → ℕ → ℕ → Copy
found_by_start copies on n = by_generation copies (heard_start copies on n) n

-- the puts: the first start that holds a write set of that configuration, of all stations on the bus and not only of those polled
unfoldable pub puts_needed : (ℕ → Copy) → ℕ → ℕ → Option ℕ
puts_needed copies on n = first_start (holds_write (found_by_start copies on n).config) (rising on)

-- ---- the same of a table's state: an open round does not matter
-- the stations on the bus in rising number, the k lowest of them, and these as a set
abbrev pub order_on : State → List ℕ
order_on v = rising (on_bus v)

abbrev pub lowest_on : State → ℕ → List ℕ
lowest_on v k = take k (order_on v)

abbrev pub start_on : State → ℕ → ℕ
start_on v k = start (order_on v) k

abbrev pub planned_polls : State → ℕ → Option ℕ
planned_polls v i = polls_needed (v.copies i) (on_bus v) v.n

abbrev pub planned_puts : State → ℕ → Option ℕ
planned_puts v i = puts_needed (v.copies i) (on_bus v) v.n

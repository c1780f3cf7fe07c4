-- The case of specs/OnTheWay.antt, computed.
use mathlib.Core.Path.{refl}
use Rattle.basics.specs.Listing.{passing}
use Rattle.basics.specs.Bytes.{little_endian}
use Rattle.quorum.specs.Sets.{member, used, holds, join}
use Rattle.quorum.specs.Configurations.{set_at, read_set, write_set, holds_place, first_place, first_read, first_write, place_figure}
use Rattle.layout.specs.Newest.{newest, by_generation, hears}
use Rattle.plan.specs.Plan.{polls_needed, puts_needed}
use Rattle.plan.specs.OnTheWay.{OnTheWay}

pub on_the_way : OnTheWay
unfolding passing little_endian member used holds join set_at read_set write_set holds_place first_place first_read first_write place_figure
    newest by_generation hears polls_needed puts_needed
on_the_way = (refl, refl)

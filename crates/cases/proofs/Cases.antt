-- The cases hold: the checker computes every reply from the definitions.
use mathlib.Core.Path.{refl}
use Rattle.basics.specs.Tests.{all, all_below, any_below}
use Rattle.basics.specs.Listing.{passing}
use Rattle.basics.specs.Bytes.{little_endian, bytes_of, over}
use Rattle.quorum.specs.Sets.{member, used, holds, shares, within, join, minus, remove, full}
use Rattle.quorum.specs.Configurations.{set_at, read_set, write_set, used_first, some_used, all_within, shares_all, all_share, validity, valid}
use Rattle.quorum.specs.Configurations.{holds_place, first_place, first_read, first_write, place_figure}
use Rattle.form.specs.Sides.{places, side_bytes, config_bytes}
use Rattle.form.specs.Form.{is_set_of, contains_another, stays, form_sets, standard_form}
use Rattle.layout.specs.Layout.{address, table_length}
use Rattle.layout.specs.Fields.{copy_from}
use Rattle.layout.specs.Soundness.{round_sound, copies_valid, soundness, sound}
use Rattle.layout.specs.Newest.{newest, by_version, by_generation, hears}
use Rattle.layout.specs.View.{view}
use Rattle.plan.specs.Plan.{polls_needed, puts_needed}
use Rattle.layout.specs.Updates.{set_off, set_polled, set_puts, set_round, put_data, put_config, copy_bytes, repeated, put_copies}
use Rattle.rules.specs.Rules.{first, tests, refusals, number_of}
use Rattle.rules.specs.Figures.{figures_of}
use Rattle.rules.specs.After.{done}
use Rattle.rules.specs.Reply.{reply_of, after}
use Rattle.rules.specs.Lists.{replies}
use Rattle.cases.specs.Cases.{Cases, table, last_of}

pub cases : Cases
unfolding all all_below any_below little_endian
    member used holds shares within join minus remove full
    set_at read_set write_set used_first some_used all_within shares_all all_share validity valid holds_place
    first_place first_read first_write place_figure
    is_set_of contains_another stays form_sets places side_bytes config_bytes standard_form
    address table_length copy_from round_sound copies_valid soundness sound newest by_version by_generation hears view
    bytes_of over set_off set_polled set_puts set_round put_data put_config copy_bytes repeated put_copies
    passing polls_needed puts_needed
    first tests refusals number_of figures_of done reply_of after replies table last_of
cases = record { rows = refl; sheet_form_lem = refl; in_older = refl; in_newer = refl }

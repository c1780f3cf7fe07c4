-- Worked examples, computed: lines, and the whole runs of FrameCases.antt.
use mathlib.Core.Path.{◌≡◌, refl}
use mathlib.Core.List.{[], ◌∷◌}
use Rattle.basics.specs.Bytes.{little_endian, bytes_of, over}
use Rattle.basics.specs.Tests.{all, all_below, any_below}
use Rattle.quorum.specs.Sets.{member, used, holds, shares, within, join, minus, remove, full}
use Rattle.quorum.specs.Configurations.{set_at, read_set, write_set, used_first, some_used, all_within, shares_all, all_share}
use Rattle.quorum.specs.Configurations.{validity, valid, holds_place, first_place, first_read, first_write, place_figure}
use Rattle.form.specs.Sides.{places, side_bytes, config_bytes}
use Rattle.form.specs.Form.{is_set_of, contains_another, stays, form_sets, standard_form}
use Rattle.layout.specs.Layout.{address, table_length}
use Rattle.layout.specs.Fields.{copy_from}
use Rattle.layout.specs.Soundness.{round_sound, copies_valid, soundness, sound}
use Rattle.layout.specs.View.{view}
use Rattle.layout.specs.Updates.{set_off, set_polled, set_puts, set_round, put_data, put_config, copy_bytes, repeated, put_copies}
use Rattle.layout.specs.Newest.{newest, by_version, by_generation, hears}
use Rattle.layout.specs.Layout.{lay_length}
use Rattle.basics.specs.Listing.{passing}
use Rattle.plan.specs.Plan.{polls_needed, puts_needed}
use Rattle.rules.specs.Rules.{first, tests, refusals, number_of}
use Rattle.rules.specs.Figures.{figures_of}
use Rattle.rules.specs.After.{done}
use Rattle.rules.specs.Reply.{reply_of, after}
use Rattle.replies.specs.ReplyLine.{reply_bytes, reply_line}
use Rattle.runs.specs.Session.{lent, reply_to, table_after, printed}
use Rattle.runs.specs.Run.{answers, run}
use Rattle.frames.specs.Hex.{is_digit, all_digits, value_of, byte_of, bytes_in, digit_of, hex_of}
use Rattle.dispatch.specs.Dispatch.{frame_length, calls_of, call_at}
use Rattle.frames.specs.Frame.{call_byte, is_frame, call_of}
use Rattle.runs.specs.FrameCases.{shown, frame_case, frame_replies, mixed_case, mixed_replies, FrameCases}
use Rattle.runs.specs.Lines.{in_front, lines_of}
use Rattle.frames.specs.Text.{chars, text}

some_lines : lines_of (text "07\n\n0200\r\n05") ∷ lines_of (text "07\n") ∷ lines_of (text "\n") ∷ lines_of [] ∷ []
    ≡ (text "07" ∷ [] ∷ text "0200\r" ∷ text "05" ∷ []) ∷ (text "07" ∷ []) ∷ ([] ∷ []) ∷ [] ∷ []
unfolding text chars in_front lines_of
some_lines = refl

-- ---- whole runs
pub frame_cases : FrameCases
unfolding text chars shown little_endian is_digit all_digits value_of byte_of bytes_in frame_length call_byte is_frame calls_of call_at call_of in_front
    lines_of run answers printed table_after reply_to lent lay_length reply_line reply_bytes digit_of hex_of reply_of after number_of tests refusals first view
    figures_of done table_length address sound soundness round_sound copies_valid all all_below any_below valid validity set_at read_set write_set used_first
    some_used all_within shares_all all_share holds_place first_place first_read first_write place_figure member used holds shares within join
    minus remove full copy_from bytes_of over set_off set_polled set_puts set_round put_data put_config copy_bytes repeated put_copies newest by_version
    by_generation hears passing polls_needed puts_needed is_set_of contains_another stays form_sets places side_bytes config_bytes standard_form
    frame_case frame_replies mixed_case mixed_replies
frame_cases = refl

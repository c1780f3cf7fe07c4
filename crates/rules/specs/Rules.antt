-- The number of each call's reply (document 01, "The calls" and the table of numbers; document 02, 2026-04 and 2026-05).
use Rattle.std.specs.Prelude.{Bool, true, false, not, cond, ◌&&◌, ◌||◌, List, [], ◌∷◌, ℕ, ltb, eqb}
use Rattle.quorum.specs.Sets.{member}
use Rattle.quorum.specs.Configurations.{valid, is_place, holds_write}
use Rattle.layout.specs.Layout.{listed}
use Rattle.layout.specs.Fields.{last_count, Kind, none, read, write, change}
use Rattle.layout.specs.View.{State, found_by_version, found_by_generation, heard}
use Rattle.plan.specs.Plan.{planned_polls}
use Rattle.rules.specs.Calls.{Call, lay, open_read, open_write, open_change, poll, put, commit, abandon, link, reach, diagnose, plan}
use Rattle.rules.specs.Calls.{is_lay, is_data, is_config_sort, is_off, is_on}

-- tests with their numbers, in the order in which they are made; the first that applies gives the number, 0 is done
abbrev pub Chain : Type 0
Chain = List (Bool × ℕ)

unfoldable pub first : Chain → ℕ
first [] = 0
first (x ∷ rest) = cond x.0 x.1 (first rest)

-- 2, no such thing: "station, item, put sort, link state, n or m not listed above"
abbrev pub no_station : State → ℕ → Bool
no_station v s = not (ltb s v.n)

abbrev pub no_item : State → ℕ → Bool
no_item v i = not (ltb i v.m)

abbrev pub no_sort : ℕ → Bool
no_sort sort = not (is_data sort || is_config_sort sort)

abbrev pub no_link : ℕ → Bool
no_link state = not (is_off state || is_on state)

abbrev pub no_size : ℕ → ℕ → Bool
no_size n m = not (listed n m)

-- 4, busy: "an opening while a round is open"; 5, idle: "poll, put, commit, abandon without a round", and diagnose
abbrev pub idle : Kind → Bool
idle none = true
idle read = false
idle write = false
idle change = false

abbrev pub is_idle : State → Bool
is_idle v = idle v.round.kind

-- 7, reading over: "poll while a put set is not empty"
abbrev pub reading_over : State → Bool
reading_over v = not (eqb v.round.data_puts 0 && eqb v.round.config_puts 0)

-- 9, wrong put: "a put in a read, a configuration put in a write". With no round this is never asked, here and below: idle comes
-- first.
abbrev pub wrong_put : Kind → ℕ → Bool
wrong_put none sort = true
wrong_put read sort = true
wrong_put write sort = is_config_sort sort
wrong_put change sort = false

-- 10, spent: "found version is 2^64 − 1 at a data put or commit of a write, or found generation at a configuration put or commit of a
-- change"
abbrev pub last : ℕ → Bool
last counter = eqb counter last_count

abbrev pub spent : State → Kind → Bool
spent v none = false
spent v read = false
spent v write = last (found_by_version v).version
spent v change = last (found_by_generation v).generation

-- a data put of a change raises no counter
abbrev pub spent_at_put : State → Kind → ℕ → Bool
spent_at_put v none sort = false
spent_at_put v read sort = false
spent_at_put v write sort = is_data sort && spent v write
spent_at_put v change sort = is_config_sort sort && spent v change

-- "A write needs data puts that hold a write set of the found configuration. A change needs data puts that hold a write set
-- of the target, and configuration puts that hold a write set of the old, found configuration (source 000, 5.4)."
abbrev pub written : State → Kind → Bool
written v none = true
written v read = true
written v write = holds_write (found_by_generation v).config v.round.data_puts
written v change = holds_write v.round.target v.round.data_puts && holds_write (found_by_generation v).config v.round.config_puts

-- the last tests of a commit, by the round's kind
abbrev pub commit_tests : State → Kind → Chain
commit_tests v k = (spent v k, 10) ∷ (not (written v k), 11) ∷ []

-- "The lowest number that applies is given": the tests of each call, but for that of soundness; "lay tests 2, then 1, then 3"
unfoldable pub tests : State → Call → Chain
tests v (lay n m value config) = (no_size n m, 2) ∷ (not (v.fits n m), 1) ∷ (not (valid n config), 3) ∷ []
tests v (open_read i) = (no_item v i, 2) ∷ (not (is_idle v), 4) ∷ []
tests v (open_write i value) = (no_item v i, 2) ∷ (not (is_idle v), 4) ∷ []
tests v (open_change i target) = (no_item v i, 2) ∷ (not (valid v.n target), 3) ∷ (not (is_idle v), 4) ∷ []
tests v (poll s) = (no_station v s, 2) ∷ (is_idle v, 5) ∷ (member v.off s, 6) ∷ (reading_over v, 7) ∷ []
tests v (put s sort) =
    (no_station v s || no_sort sort, 2) ∷ (is_idle v, 5) ∷ (member v.off s, 6) ∷ (not (heard v), 8) ∷ (wrong_put v.round.kind sort, 9)
    ∷ (spent_at_put v v.round.kind sort, 10) ∷ []
tests v commit = (is_idle v, 5) ∷ (not (heard v), 8) ∷ commit_tests v v.round.kind
tests v abandon = (is_idle v, 5) ∷ []
tests v (link s state) = (no_station v s || no_link state, 2) ∷ []
tests v (reach i) = (no_item v i, 2) ∷ []
-- document 02, 2026-04: "It gets 1 and 5 as commit does."
tests v diagnose = (is_idle v, 5) ∷ []
-- document 02, 2026-05: "15 out of hearing (no such start of the rising order is heard), last for this call after 1 and 2"
tests v (plan i) = (no_item v i, 2) ∷ (not (is_place (planned_polls v i)), 15) ∷ []

-- every call but lay asks first whether the table is sound
unfoldable pub refusals : State → Call → Chain
refusals v c = cond (is_lay c) (tests v c) ((not v.is_sound, 1) ∷ tests v c)

unfoldable pub number_of : State → Call → ℕ
number_of v c = first (refusals v c)

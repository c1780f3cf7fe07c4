-- The starred cases of document 01, "Trays through the house", the mistakes of "What growers' programs get wrong", the stations of a new table and the
-- house whose sets move, what holds a round up, how many polls it will take and a sheet that is not in its form (document 02, 2026-02 to 2026-06), as one
-- table: on bytes, lists of calls from a lay on, of each of which the last reply is compared.
use Rattle.std.specs.Prelude.{◌≡◌, List, [], ◌∷◌, ◌++◌, ℕ, replicate}
use Rattle.std.proofs.Math.Option.{Option, none, some}
use Rattle.form.specs.Form.{standard_form}
use Rattle.layout.specs.Layout.{table_length}
use Rattle.layout.specs.View.{Table}
use Rattle.layout.specs.Updates.{set_off, laid}
use Rattle.rules.specs.Calls.{Call, lay, open_read, open_write, open_change, poll, put, commit, abandon, link, reach, diagnose, plan}
use Rattle.rules.specs.Calls.{data_sort, config_sort, off_state, on_state}
use Rattle.rules.specs.Lists.{replies}
use Rattle.rules.specs.declared.Reply.{Reply}

-- ---- configurations: three sets of stations below 8 on each side
abbrev pub side : ℕ → ℕ → ℕ → List ℕ
side a b c = a ∷ 0 ∷ b ∷ 0 ∷ c ∷ 0 ∷ replicate 10 0

-- "the pair sets 0003, 0005, 0006 on both sides"
abbrev pub pairs : List ℕ
pairs = side 3 5 6 ++ side 3 5 6

-- "0004 on both sides"
abbrev pub single : List ℕ
single = side 4 0 0 ++ side 4 0 0

-- "Read 0001 with write 0002"
abbrev pub apart : List ℕ
apart = side 1 0 0 ++ side 2 0 0

-- "Places 0001, 0000, 0002", with a write set that meets both
abbrev pub gap : List ℕ
gap = side 1 0 2 ++ side 3 0 0

-- "A house has four stations, with read and write set {0, 1}. It changes to read {2}, write {2, 3}"
abbrev pub from_pair : List ℕ
from_pair = side 3 0 0 ++ side 3 0 0

abbrev pub to_other : List ℕ
to_other = side 4 0 0 ++ side 12 0 0

-- a sheet that reads with {1, 2}, with all, with {0, 1}, and writes with all, with {1}, with {1}; and its form
abbrev pub sheet : List ℕ
sheet = side 6 7 3 ++ side 7 2 2

abbrev pub sheet_form : List ℕ
sheet_form = side 3 6 0 ++ side 2 0 0

-- ---- calls
-- "A round polls 0 and 1 before its puts or commit unless the case says otherwise."
abbrev pub round : Call → List Call → List Call
round opening calls = opening ∷ poll 0 ∷ poll 1 ∷ calls

-- a data put and a configuration put
abbrev pub data_put : ℕ → Call
data_put s = put s data_sort

abbrev pub config_put : ℕ → Call
config_put s = put s config_sort

-- a station that drops, and one that is wired or returns
abbrev pub drops : ℕ → Call
drops s = link s off_state

abbrev pub returns : ℕ → Call
returns s = link s on_state

-- a finished write and a finished change that several rows begin with
abbrev pub writes : List Call
writes = round (open_write 0 510) (data_put 0 ∷ data_put 1 ∷ commit ∷ [])

abbrev pub changes : List Call
changes = round (open_change 0 single) (data_put 2 ∷ config_put 0 ∷ config_put 1 ∷ commit ∷ [])

-- the same change with the configuration at every station
abbrev pub everywhere : List Call
everywhere = round (open_change 0 single) (data_put 2 ∷ config_put 0 ∷ config_put 1 ∷ config_put 2 ∷ commit ∷ [])

-- a change to that sheet
abbrev pub changes_to_sheet : List Call
changes_to_sheet = round (open_change 0 sheet) (data_put 1 ∷ config_put 0 ∷ config_put 1 ∷ commit ∷ [])

-- "data puts 2, 3, configuration puts 0, 1": the change of the house of four
abbrev pub moves : List Call
moves = round (open_change 0 to_other) (data_put 2 ∷ data_put 3 ∷ config_put 0 ∷ config_put 1 ∷ commit ∷ [])

-- a house of five whose first four read, and which the fourth alone writes, changes to its fifth station, with data put 4 and configuration put 3. Of polls
-- in rising number only the fourth finds the change.
abbrev pub first_four : List ℕ
first_four = side 15 0 0 ++ side 8 0 0

abbrev pub fifth : List ℕ
fifth = side 16 0 0 ++ side 16 0 0

abbrev pub moves_to_fifth : List Call
moves_to_fifth = open_change 0 fifth ∷ poll 0 ∷ poll 1 ∷ poll 2 ∷ poll 3 ∷ data_put 4 ∷ config_put 3 ∷ commit ∷ []

-- a reply: its number and three figures
abbrev pub gets : ℕ → ℕ → ℕ → ℕ → Reply
gets number first second third = record { number = number; first = first; second = second; third = third }

-- ---- rows: the stations and the configuration of a lay, the calls after it, and what the last of them gets, its number and three figures
pub record Row : Type 0 where
  pub stations : ℕ
  pub config : List ℕ
  pub calls : List Call
  pub reply : Reply

abbrev pub laid_with : ℕ → List ℕ → List Call → ℕ → ℕ → ℕ → ℕ → Row
laid_with n config calls number first second third =
    record { stations = n; config = config; calls = calls; reply = gets number first second third }

-- "Three stations, one item, start 500, pair sets", just laid
abbrev pub unwired : List Call → ℕ → ℕ → ℕ → ℕ → Row
unwired = laid_with 3 pairs

-- and with its stations linked: "starred cases relied on the old default and gain a link call per station"
abbrev pub row : List Call → ℕ → ℕ → ℕ → ℕ → Row
row calls = unwired (returns 0 ∷ returns 1 ∷ returns 2 ∷ calls)

-- the house of four, with its stations linked and its sets moved
abbrev pub moved : List Call → ℕ → ℕ → ℕ → ℕ → Row
moved calls = laid_with 4 from_pair (returns 0 ∷ returns 1 ∷ returns 2 ∷ returns 3 ∷ moves ++ calls)

-- the house of five, with its stations linked
abbrev pub five : List Call → ℕ → ℕ → ℕ → ℕ → Row
five calls = laid_with 5 first_four (returns 0 ∷ returns 1 ∷ returns 2 ∷ returns 3 ∷ returns 4 ∷ calls)

unfoldable pub table : List Row
table =
    -- the lay itself is done, and has no figures
    unwired [] 0 0 0 0
    -- ---- "New stations start off the bus"
    -- nothing is reached, and in a round a poll of each station gets 6, and so does a put
    ∷ unwired (reach 0 ∷ []) 0 0 0 0
    ∷ unwired (open_read 0 ∷ poll 0 ∷ []) 6 0 0 0
    ∷ unwired (open_write 0 510 ∷ poll 1 ∷ []) 6 0 0 0
    ∷ unwired (open_change 0 single ∷ poll 2 ∷ []) 6 0 0 0
    ∷ unwired (open_write 0 510 ∷ data_put 2 ∷ []) 6 0 0 0
    ∷ unwired (open_change 0 single ∷ config_put 1 ∷ []) 6 0 0 0
    -- until that station's link, and no other's; a round that was open before goes on with it
    ∷ unwired (returns 0 ∷ []) 0 0 0 0
    ∷ unwired (open_read 0 ∷ returns 0 ∷ poll 0 ∷ []) 0 0 0 0
    ∷ unwired (open_read 0 ∷ returns 0 ∷ poll 0 ∷ poll 1 ∷ []) 6 0 0 0
    ∷ unwired (open_read 0 ∷ returns 0 ∷ poll 0 ∷ poll 1 ∷ returns 1 ∷ poll 1 ∷ commit ∷ []) 0 500 0 0
    ∷ unwired (returns 0 ∷ reach 0 ∷ []) 0 0 0 0
    ∷ unwired (returns 0 ∷ returns 2 ∷ reach 0 ∷ []) 0 3 0 0
    -- a further lay takes every station off again; one that is refused takes none
    ∷ row (lay 3 1 500 pairs ∷ reach 0 ∷ []) 0 0 0 0
    ∷ row (lay 3 1 500 pairs ∷ open_read 0 ∷ poll 2 ∷ []) 6 0 0 0
    ∷ row (lay 3 1 500 apart ∷ reach 0 ∷ []) 0 3 0 0
    -- ---- "Trays through the house"
    -- "Polled {0}: unheard. Polled {0, 1}: heard."
    ∷ row (open_read 0 ∷ poll 0 ∷ []) 0 0 0 0
    ∷ row (open_read 0 ∷ poll 0 ∷ poll 1 ∷ []) 0 1 0 0
    -- "Commit with nothing polled: 8."
    ∷ row (open_read 0 ∷ commit ∷ []) 8 0 0 0
    -- "Write 510, put at 0: commit 11. Put at 0, 1: version 1."
    ∷ row (round (open_write 0 510) (data_put 0 ∷ commit ∷ [])) 11 0 0 0
    ∷ row writes 0 510 1 0
    -- "Then polling 1, 2 reads 510, version 1."
    ∷ row (writes ++ (open_read 0 ∷ poll 1 ∷ poll 2 ∷ commit ∷ [])) 0 510 1 0
    -- "Puts at 0, 1, station 1 drops: commit 11;"
    ∷ row (round (open_write 0 510) (data_put 0 ∷ data_put 1 ∷ drops 1 ∷ commit ∷ [])) 11 0 0 0
    -- "abandoned, reads that poll 0, 2 give the old value."
    ∷ row (round (open_write 0 510) (data_put 0 ∷ data_put 1 ∷ drops 1 ∷ commit ∷ abandon ∷ open_read 0 ∷ poll 0 ∷ poll 2 ∷ commit ∷ [])) 0 500 0 0
    -- "Change to 0004 on both sides, data put 2, configuration puts 0, 1: generation 1."
    ∷ row changes 0 500 0 1
    -- "Then polled {2} is unheard; {0, 2} is heard."
    ∷ row (changes ++ (open_read 0 ∷ poll 2 ∷ [])) 0 0 0 0
    ∷ row (changes ++ (open_read 0 ∷ poll 0 ∷ poll 2 ∷ [])) 0 1 0 0
    -- "The same with the configuration put at 2 alone: 11."
    ∷ row (round (open_change 0 single) (data_put 2 ∷ config_put 2 ∷ commit ∷ [])) 11 0 0 0
    -- "Read 0001 with write 0002: 3. Places 0001, 0000, 0002: 3." In a change and in a lay
    ∷ row (open_change 0 apart ∷ []) 3 0 0 0
    ∷ row (open_change 0 gap ∷ []) 3 0 0 0
    ∷ row (lay 3 1 500 apart ∷ []) 3 0 0 0
    ∷ row (lay 3 1 500 gap ∷ []) 3 0 0 0
    -- ---- "What growers' programs get wrong"
    -- "Counting a returned station's copy as new because it was heard last": station 2 was off during the write
    ∷ row (drops 2 ∷ writes ++ (returns 2 ∷ open_read 0 ∷ poll 0 ∷ poll 2 ∷ commit ∷ [])) 0 510 1 0
    -- "Letting an abandoned write show in a copy": a read polls the very stations that had its puts
    ∷ row (round (open_write 0 510) (data_put 0 ∷ data_put 1 ∷ abandon ∷ round (open_read 0) (commit ∷ []))) 0 500 0 0
    -- "Testing the configuration puts against the target's write sets": in a change from 0004, which every station has, back to the
    -- pairs, a configuration put at 2 holds a write set of the old configuration only, and the change is done; puts at 0, 1 hold one
    -- of the target only, and it is not
    ∷ row (everywhere ++ (open_change 0 pairs ∷ poll 2 ∷ data_put 0 ∷ data_put 1 ∷ config_put 2 ∷ commit ∷ [])) 0 500 0 2
    ∷ row (everywhere ++ (open_change 0 pairs ∷ poll 2 ∷ data_put 0 ∷ data_put 1 ∷ config_put 0 ∷ config_put 1 ∷ commit ∷ [])) 11 0 0 0
    -- "Taking the first configuration found, not the one of the highest generation": after a change with configuration puts 1, 2
    -- station 0 still has the pairs, of which 0, 1 are one; station 1 has 0004, by which they are unheard
    ∷ row (round (open_change 0 single) (data_put 2 ∷ config_put 1 ∷ config_put 2 ∷ commit ∷ round (open_read 0) (commit ∷ []))) 8 0 0 0
    -- "Raising the version in a change": not in the change's own figures, and not in those of a read after it
    ∷ row (writes ++ changes) 0 510 1 1
    ∷ row (writes ++ (changes ++ (open_read 0 ∷ poll 0 ∷ poll 2 ∷ commit ∷ []))) 0 510 1 1
    -- ---- "Reach after a move"
    ∷ moved [] 0 500 0 1
    ∷ moved (reach 0 ∷ []) 0 3 0 0
    -- "Stations 0 and 1 go off." Reach is "0, as here": "2 and 3 know only generation 0", and "no round is heard"
    ∷ moved (drops 0 ∷ drops 1 ∷ reach 0 ∷ []) 0 0 0 0
    ∷ moved (drops 0 ∷ drops 1 ∷ open_read 0 ∷ poll 2 ∷ poll 3 ∷ []) 0 0 0 0
    ∷ moved (drops 0 ∷ drops 1 ∷ open_read 0 ∷ poll 2 ∷ poll 3 ∷ commit ∷ []) 8 0 0 0
    -- one of the two that know the change is enough, and what is found then asks for 2 to read and for 2 and 3 to write
    ∷ moved (drops 0 ∷ drops 1 ∷ returns 1 ∷ reach 0 ∷ []) 0 3 0 0
    ∷ moved (drops 0 ∷ drops 3 ∷ reach 0 ∷ []) 0 1 0 0
    ∷ moved (drops 2 ∷ reach 0 ∷ []) 0 0 0 0
    -- the open round does not matter: this one has polled station 0, which goes off, and can still be done
    ∷ moved (open_read 0 ∷ poll 0 ∷ poll 2 ∷ drops 0 ∷ drops 1 ∷ reach 0 ∷ []) 0 0 0 0
    ∷ moved (open_read 0 ∷ poll 0 ∷ poll 2 ∷ drops 0 ∷ drops 1 ∷ commit ∷ []) 0 500 0 1
    -- the newest configuration on the bus, not that of the lowest station: with configuration puts 1, 2 station 0 still has the pairs, which 0, 1 would hold
    ∷ row (round (open_change 0 single) (data_put 2 ∷ config_put 1 ∷ config_put 2 ∷ commit ∷ drops 2 ∷ reach 0 ∷ [])) 0 0 0 0
    -- a write set alone: read 0003, write 0002, and station 1 on the bus
    ∷ laid_with 2 (side 3 0 0 ++ side 2 0 0) (returns 1 ∷ reach 0 ∷ []) 0 0 0 0
    -- ---- "Why a round will not close"
    -- poll shows one plus the first read place held: {0, 2} is that of 0005, {1, 2} that of 0006, and all three stations hold that of 0003 first
    ∷ row (open_read 0 ∷ poll 0 ∷ poll 2 ∷ []) 0 2 0 0
    ∷ row (open_read 0 ∷ poll 1 ∷ poll 2 ∷ []) 0 3 0 0
    ∷ row (open_read 0 ∷ poll 1 ∷ poll 2 ∷ poll 0 ∷ []) 0 1 0 0
    -- diagnose "gets 1 and 5 as commit does": here with no round
    ∷ row (diagnose ∷ []) 5 0 0 0
    -- nothing polled: no station, no place. One station polled: it gave the version, in an unheard round too. Unheard comes before short
    ∷ row (open_read 0 ∷ diagnose ∷ []) 0 8 0 0
    ∷ row (open_read 0 ∷ poll 2 ∷ diagnose ∷ []) 0 8 3 0
    ∷ row (open_write 0 510 ∷ poll 0 ∷ diagnose ∷ []) 0 8 1 0
    -- the place is that of the newest configuration: 0 and 1 hold a pair, but know the change to 0004. Station 1 gave the version, 0 has an older one
    ∷ row (round (open_write 0 510) (data_put 1 ∷ data_put 2 ∷ commit ∷ changes ++ round (open_read 0) (diagnose ∷ []))) 0 8 2 0
    -- of equal versions the lowest station, not the first polled; the place of 0005
    ∷ row (open_read 0 ∷ poll 2 ∷ poll 0 ∷ diagnose ∷ []) 0 0 1 2
    -- a heard read can be closed, and the commit right after it is done; a station that has gone off still counts, and is shown
    ∷ row (round (open_read 0) (diagnose ∷ [])) 0 0 1 1
    ∷ row (round (open_read 0) (diagnose ∷ commit ∷ [])) 0 500 0 0
    ∷ row (round (open_read 0) (drops 0 ∷ diagnose ∷ [])) 0 0 1 1
    -- a write lacks a put, then has both, then loses one
    ∷ row (round (open_write 0 510) (data_put 0 ∷ diagnose ∷ [])) 0 11 1 1
    ∷ row (round (open_write 0 510) (data_put 0 ∷ data_put 1 ∷ diagnose ∷ [])) 0 0 1 1
    ∷ row (round (open_write 0 510) (data_put 0 ∷ data_put 1 ∷ drops 1 ∷ diagnose ∷ [])) 0 11 1 1
    -- a change lacks a data put, or a configuration put, then has all
    ∷ row (round (open_change 0 single) (config_put 0 ∷ config_put 1 ∷ diagnose ∷ [])) 0 11 1 1
    ∷ row (round (open_change 0 single) (data_put 2 ∷ config_put 0 ∷ diagnose ∷ [])) 0 11 1 1
    ∷ row (round (open_change 0 single) (data_put 2 ∷ config_put 0 ∷ config_put 1 ∷ diagnose ∷ [])) 0 0 1 1
    -- the station that gave the version, and not the one that gave the generation: 510 is at 1 and 2, and of 0 and 2 only 0 knows the change to 0004
    ∷ row (round (open_write 0 510) (data_put 1 ∷ data_put 2 ∷ commit ∷ changes ++ (open_read 0 ∷ poll 0 ∷ poll 2 ∷ diagnose ∷ []))) 0 0 3 1
    -- ---- "How many polls a reading will take"
    -- with all stations on two polls and two puts, as the rows of "Trays through the house" take; and there is no item 1
    ∷ row (plan 0 ∷ []) 0 2 2 0
    ∷ row (plan 1 ∷ []) 2 0 0 0
    -- "15 out of hearing": nobody is on the bus, or one station, which is no pair
    ∷ unwired (plan 0 ∷ []) 15 0 0 0
    ∷ unwired (returns 1 ∷ plan 0 ∷ []) 15 0 0 0
    -- stations off the bus are not counted: {1, 2}; and {0, 3} of the house of four that reads and writes at 3, where with all on it takes four
    ∷ row (drops 0 ∷ plan 0 ∷ []) 0 2 2 0
    ∷ laid_with 4 (side 8 0 0 ++ side 8 0 0) (returns 0 ∷ returns 3 ∷ plan 0 ∷ []) 0 2 2 0
    ∷ laid_with 4 (side 8 0 0 ++ side 8 0 0) (returns 0 ∷ returns 1 ∷ returns 2 ∷ returns 3 ∷ plan 0 ∷ []) 0 4 4 0
    -- the puts are counted from the same start, also beyond the polls: read {0}, write {0, 1, 2}; and read {0, 1, 2}, write {0}
    ∷ laid_with 3 (side 1 0 0 ++ side 7 0 0) (returns 0 ∷ returns 1 ∷ returns 2 ∷ plan 0 ∷ []) 0 1 3 0
    ∷ laid_with 3 (side 7 0 0 ++ side 1 0 0) (returns 0 ∷ returns 1 ∷ returns 2 ∷ plan 0 ∷ []) 0 3 1 0
    -- "this second figure is 0 if none can": no write set on the bus, which is not 15
    ∷ laid_with 3 (side 1 0 0 ++ side 7 0 0) (returns 0 ∷ returns 1 ∷ plan 0 ∷ []) 0 1 0 0
    -- the house whose sets moved: 0 and 1 know that 2 reads, and 2 and 3 write; with neither of them nothing is heard, and without 3 nothing is written
    ∷ moved (plan 0 ∷ []) 0 3 4 0
    ∷ moved (drops 0 ∷ plan 0 ∷ []) 0 2 3 0
    ∷ moved (drops 0 ∷ drops 1 ∷ plan 0 ∷ []) 15 0 0 0
    ∷ moved (drops 3 ∷ plan 0 ∷ []) 0 3 0 0
    -- a configuration found that changes on the way: by the old sets four polls would do, but the fourth finds the newer generation, and the round is
    -- unheard until the fifth
    ∷ five (plan 0 ∷ []) 0 4 4 0
    ∷ five (open_read 0 ∷ poll 0 ∷ poll 1 ∷ poll 2 ∷ poll 3 ∷ []) 0 1 0 0
    ∷ five (moves_to_fifth ++ (plan 0 ∷ [])) 0 5 5 0
    ∷ five (moves_to_fifth ++ (open_read 0 ∷ poll 0 ∷ poll 1 ∷ poll 2 ∷ poll 3 ∷ [])) 0 0 0 0
    ∷ five (moves_to_fifth ++ (open_read 0 ∷ poll 0 ∷ poll 1 ∷ poll 2 ∷ poll 3 ∷ poll 4 ∷ [])) 0 1 0 0
    -- with station 3 off the others know nothing of it, and are not heard by the old sets either
    ∷ five (moves_to_fifth ++ (drops 3 ∷ plan 0 ∷ [])) 15 0 0 0
    -- the open round does not matter, whatever it has polled and put
    ∷ row (round (open_write 0 510) (data_put 2 ∷ drops 0 ∷ plan 0 ∷ [])) 0 2 2 0
    -- ---- "One spelling of a configuration"
    -- "read places follow the stored form": 0006 stands first on the sheet, and second in the form; in poll and in diagnose, after a lay and after a change
    ∷ laid_with 3 sheet (returns 1 ∷ returns 2 ∷ open_read 0 ∷ poll 1 ∷ poll 2 ∷ []) 0 2 0 0
    ∷ laid_with 3 sheet_form (returns 1 ∷ returns 2 ∷ open_read 0 ∷ poll 1 ∷ poll 2 ∷ []) 0 2 0 0
    ∷ laid_with 3 sheet (returns 1 ∷ returns 2 ∷ open_read 0 ∷ poll 1 ∷ poll 2 ∷ diagnose ∷ []) 0 0 2 2
    ∷ row (changes_to_sheet ++ (open_read 0 ∷ poll 1 ∷ poll 2 ∷ [])) 0 2 0 0
    ∷ row (changes_to_sheet ++ (open_read 0 ∷ poll 1 ∷ poll 2 ∷ diagnose ∷ [])) 0 0 2 2
    -- "drop a set that contains another of its side, keep one of equals": of 0008, 0007, 0003, of 0003, 0007, 0008 and of 0003, 0008, 0003 stays 0003, 0008
    ∷ laid_with 4 (side 8 7 3 ++ side 9 9 0) (returns 3 ∷ open_read 0 ∷ poll 3 ∷ []) 0 2 0 0
    ∷ laid_with 4 (side 3 7 8 ++ side 9 9 0) (returns 3 ∷ open_read 0 ∷ poll 3 ∷ []) 0 2 0 0
    ∷ laid_with 4 (side 3 8 3 ++ side 9 9 0) (returns 3 ∷ open_read 0 ∷ poll 3 ∷ []) 0 2 0 0
    -- the same sets pass: {0, 1} reads too, {0, 2} does not, and a put at 1 alone is enough for a write
    ∷ laid_with 3 sheet (returns 0 ∷ returns 1 ∷ open_read 0 ∷ poll 0 ∷ poll 1 ∷ []) 0 1 0 0
    ∷ laid_with 3 sheet (returns 0 ∷ returns 2 ∷ open_read 0 ∷ poll 0 ∷ poll 2 ∷ []) 0 0 0 0
    ∷ laid_with 3 sheet (returns 1 ∷ returns 2 ∷ open_write 0 510 ∷ poll 1 ∷ poll 2 ∷ data_put 1 ∷ commit ∷ []) 0 510 1 0
    -- 3 is judged on the sheet as it is given: a set that would be dropped names station 2 of two, and one of two equals stands behind an unused place
    ∷ laid_with 2 (side 1 5 0 ++ side 1 0 0) [] 3 0 0 0
    ∷ row (open_change 0 (side 1 0 1 ++ side 1 0 0) ∷ []) 3 0 0 0
    ∷ []

-- ---- the replies
unfoldable pub last_of : List Reply → Option Reply
last_of [] = none
last_of (r ∷ []) = some r
last_of (r ∷ (s ∷ rest)) = last_of (s ∷ rest)

-- "one item, start 500", laid over bytes that are all 7
abbrev pub got : List Row → List (Option Reply)
got [] = []
got (r ∷ rows) = last_of (replies (replicate (table_length r.stations 1) 7) (lay r.stations 1 500 r.config ∷ r.calls)) ∷ got rows

abbrev pub expected : List Row → List (Option Reply)
expected [] = []
expected (r ∷ rows) = some r.reply ∷ expected rows

-- ---- an older spelling: the sheet as it was stored before 2026-06, with all stations on the bus, and its form
abbrev pub older : Table
older = set_off (laid 3 1 500 sheet) 0

abbrev pub newer : Table
newer = set_off (laid 3 1 500 sheet_form) 0

-- a read of {1, 2}: the polls, what holds it up, the commit
abbrev pub reads_second : List Call
reads_second = open_read 0 ∷ poll 1 ∷ poll 2 ∷ diagnose ∷ commit ∷ []

-- what it gets where the polls hold a place with this figure
abbrev pub got_by : ℕ → List Reply
got_by place = gets 0 0 0 0 ∷ gets 0 0 0 0 ∷ gets 0 place 0 0 ∷ gets 0 0 2 place ∷ gets 0 500 0 0 ∷ []

-- the theorem
pub record Cases : Type 0 where
  -- each row gets the reply that it names
  pub rows : got table ≡ expected table
  -- the form of the sheet is the one named
  pub sheet_form_lem : standard_form 3 sheet ≡ sheet_form
  -- "Older spellings in a table stay sound, and commits reply as before; read places follow the stored form"
  pub in_older : replies older reads_second ≡ got_by 1
  pub in_newer : replies newer reads_second ≡ got_by 2

-- The number of a code: byte 0 of its frames.
use Rattle.std.specs.Prelude.{ℕ, Option, Some, None}
use Rattle.dispatch.specs.declared.Code.{Code}
use Rattle.dispatch.specs.declared.Code.TheVariants.{Lay, OpenRead, OpenWrite, OpenChange, Poll, Put, Commit, Abandon, Link, Reach, Diagnose, Plan}

-- "Byte 0 is the call: 01 lay, 02 open read, 03 open write, 04 open change, 05 poll, 06 put, 07 commit, 08 abandon, 09 link, 0A reach"; 0B and 0C
-- are document 02's, 2026-04 and 2026-05.
abbrev pub number_of : Code → ℕ
number_of Lay = 1
number_of OpenRead = 2
number_of OpenWrite = 3
number_of OpenChange = 4
number_of Poll = 5
number_of Put = 6
number_of Commit = 7
number_of Abandon = 8
number_of Link = 9
number_of Reach = 10
number_of Diagnose = 11
number_of Plan = 12

-- and 00, which stands for no call, where there is no code
abbrev pub number_or : Option Code → ℕ
number_or None = 0
number_or (Some code) = number_of code

-- What a caller can pass, as far as it matters: a value is a number of 64 bits, and a configuration a list of bytes. Of the other
-- arguments every number is allowed for: one that document 01 does not list gets 2.
use Rattle.std.specs.Prelude.{ℕ, ◌^◌, ◌<◌}
use Rattle.basics.specs.Bytes.{AreBytes}
use Rattle.rules.specs.Calls.{Call, lay, open_read, open_write, open_change, poll, put, commit, abandon, link, reach, diagnose, plan}

abbrev pub Word : ℕ → Type 0
Word x = x < 2 ^ 64

abbrev pub Passable : Call → Type 0
Passable (lay n m value config) = Word value × AreBytes config
Passable (open_read i) = Unit {0}
Passable (open_write i value) = Word value
Passable (open_change i target) = AreBytes target
Passable (poll s) = Unit {0}
Passable (put s sort) = Unit {0}
Passable commit = Unit {0}
Passable abandon = Unit {0}
Passable (link s state) = Unit {0}
Passable (reach i) = Unit {0}
Passable diagnose = Unit {0}
Passable (plan i) = Unit {0}

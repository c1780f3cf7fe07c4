-- The copies of an item, by their stations, as the definitions have them.
use Rattle.std.specs.Prelude.{ℕ}
use Rattle.layout.specs.Fields.{Copy, copies_of}
use Rattle.newest.specs.declared.copies.Copies.{Copies}

abbrev pub seen : Copies → ℕ → Copy
seen c = copies_of c.table.now c.n c.item

-- What the walk carries, and what it has found: the code's struct, and an option of it, as the definitions' record, and an option of it.
use Rattle.std.specs.Prelude.{Option, option_map}
use Rattle.layout.specs.Walk.{Walked}
use Rattle.newest.specs.declared.Newest.{Newest}

abbrev pub as_walked : Newest → Walked
as_walked r = record { by_version = r.by_version; version = r.version.0; by_generation = r.by_generation; generation = r.generation.0 }

abbrev pub as_option : Option Newest → Option Walked
as_option = option_map as_walked

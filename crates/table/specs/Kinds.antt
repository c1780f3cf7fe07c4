-- The kind of a round: the code's enum, and an option of it, as the definitions' kind. With no round there is none.
use Rattle.std.specs.Prelude.{Option, Some, None}
use Rattle.layout.specs.Fields.{Kind, none, read, write, change}
use Rattle.layout.specs.declared.Kind.{Kind as CodeKind}
use Rattle.layout.specs.declared.Kind.TheVariants.{Read, Write, Change}

abbrev pub opened_kind : CodeKind → Kind
opened_kind Read = read
opened_kind Write = write
opened_kind Change = change

abbrev pub as_kind : Option CodeKind → Kind
as_kind None = none
as_kind (Some k) = opened_kind k

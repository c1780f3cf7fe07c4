-- Tables that differ in spelling alone: taken the other way round, and one after the other.
use mathlib.Core.Path.{sym, ◌∙◌}
use mathlib.Core.List.{List}
use Prim.Native.Nat.{ℕ}
use Rattle.quorum.specs.Promise.{SamePasses}
use Rattle.layout.specs.View.{Table}
use Rattle.layout.proofs.Contents.{contents_back, contents_on}
use Rattle.spelling.specs.Spellings.{SameButSpelling}

passes_back : (c d : List ℕ) → SamePasses c d → SamePasses d c
passes_back c d p = record { reads = λ set. sym (p.reads set); writes = λ set. sym (p.writes set) }

passes_on : (c d e : List ℕ) → SamePasses c d → SamePasses d e → SamePasses c e
passes_on c d e p q = record { reads = λ set. p.reads set ∙ q.reads set; writes = λ set. p.writes set ∙ q.writes set }

pub but_back : {t u : Table} → SameButSpelling t u → SameButSpelling u t
but_back h =
    record { bytes = (h.bytes.1, h.bytes.0); are_sound = (h.are_sound.1, h.are_sound.0); contents = contents_back passes_back h.contents }

pub but_on : {t u w : Table} → SameButSpelling t u → SameButSpelling u w → SameButSpelling t w
but_on h g =
    record { bytes = (h.bytes.0, g.bytes.1); are_sound = (h.are_sound.0, g.are_sound.1); contents = contents_on passes_on h.contents g.contents }

-- What a walk over polled copies has found, as the calls hand it on.
use Rattle.std.specs.Prelude.{◌≡◌, List, ℕ}
use Rattle.std.specs.Prelude.{Option, Some}
use Rattle.layout.specs.Fields.{copies_of}
use Rattle.layout.specs.View.{view, own}
use Rattle.layout.specs.Walk.{Walked, walk}
use Rattle.newest.specs.Walks.{as_walked}
use Rattle.newest.specs.declared.Newest.{Newest}

-- of an item's copies at n stations and a polled set
abbrev pub HasFound : List ℕ → ℕ → ℕ → ℕ → Newest → Type 0
HasFound t n item polled newest = walk (copies_of t n item) polled n ≡ Some (as_walked newest)

-- of the open round's: the walk, and the copies found
abbrev pub own_walk : List ℕ → Option Walked
own_walk t = walk (own (view t)) (view t).round.polled (view t).n

abbrev pub OwnFound : List ℕ → Newest → Type 0
OwnFound t newest = own_walk t ≡ Some (as_walked newest)

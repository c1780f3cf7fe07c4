-- A list of calls: "Each gets the table's bytes as the call before it left them" (document 01, "The book of one copy").
use Rattle.std.specs.Prelude.{List, [], ◌∷◌}
use Rattle.layout.specs.View.{Table}
use Rattle.rules.specs.Calls.{Call}
use Rattle.rules.specs.Passed.{Passable}
use Rattle.rules.specs.Reply.{reply, after}
use Rattle.rules.specs.declared.Reply.{Reply}

-- the replies to the calls, and the table after them
unfoldable pub replies : Table → List Call → List Reply
replies t [] = []
replies t (c ∷ calls) = reply t c ∷ replies (after t c) calls

unfoldable pub after_all : Table → List Call → Table
after_all t [] = t
after_all t (c ∷ calls) = after_all (after t c) calls

-- each can be passed
abbrev pub AllPassable : List Call → Type 0
AllPassable [] = Unit {0}
AllPassable (c ∷ calls) = Passable c × AllPassable calls

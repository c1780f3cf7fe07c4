-- The reply and the table of every input: "For each call, every input determines one reply and one table, refused calls too."
use Rattle.std.specs.Prelude.{cond, ℕ, eqb}
use Rattle.layout.specs.View.{Table, State, view}
use Rattle.rules.specs.Calls.{Call}
use Rattle.rules.specs.Rules.{number_of}
use Rattle.rules.specs.Figures.{figures_of}
use Rattle.rules.specs.declared.Figures.{Figures}
use Rattle.rules.specs.After.{done}
use Rattle.rules.specs.declared.Reply.{Reply}

-- "Number 0 is done." A refusal has zero figures.
abbrev pub answer : ℕ → Figures → Reply
answer k f =
    record {
      number = k;
      first = cond (eqb k 0) f.first 0;
      second = cond (eqb k 0) f.second 0;
      third = cond (eqb k 0) f.third 0;
    }

-- the reply as the state gives it, and that of a table
unfoldable pub reply_of : State → Call → Reply
reply_of v c = answer (number_of v c) (figures_of v c)

abbrev pub reply : Table → Call → Reply
reply t c = reply_of (view t) c

-- "A refusal leaves the table and every other lent buffer untouched": the table is here; the other buffers of a call on a
-- table are the configuration slices, which are lent for reading only. The outputs of votes and of the writer of forms are in Votes.antt and Writer.antt.
unfoldable pub after : Table → Call → Table
after t c = cond (eqb (number_of (view t) c) 0) (done t (view t) c) t

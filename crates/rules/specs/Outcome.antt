-- What the code answers for a number: a result, whose error is the refusal.
use Rattle.std.specs.Prelude.{ℕ, Result, Ok, Err}
use Rattle.rules.specs.declared.Figures.{Figures}
use Rattle.rules.specs.declared.Refusal.{Refusal}
use Rattle.rules.specs.declared.Refusal.TheVariants.{Unsound, NoSuchThing, FalseConfiguration, Busy, Idle, OffTheBus, ReadingOver, Unheard}
use Rattle.rules.specs.declared.Refusal.TheVariants.{WrongPut, Spent, Short, FalseFrame, FalseVotes, TooManySets, OutOfHearing}
use Rattle.rules.specs.declared.Reply.{Reply}

-- the numbers of document 01, and of document 02, 2026-01 and 2026-05
abbrev pub refusal_number : Refusal → ℕ
refusal_number Unsound = 1
refusal_number NoSuchThing = 2
refusal_number FalseConfiguration = 3
refusal_number Busy = 4
refusal_number Idle = 5
refusal_number OffTheBus = 6
refusal_number ReadingOver = 7
refusal_number Unheard = 8
refusal_number WrongPut = 9
refusal_number Spent = 10
refusal_number Short = 11
refusal_number FalseFrame = 12
refusal_number FalseVotes = 13
refusal_number TooManySets = 14
refusal_number OutOfHearing = 15

-- the number that an outcome stands for: "Number 0 is done."
abbrev pub outcome_number : {A : Type 0} → Result A Refusal → ℕ
outcome_number (Ok x) = 0
outcome_number (Err e) = refusal_number e

-- the reply that it stands for, with the figures of a call that has some, and of one that has none
abbrev pub reply_to : Result Figures Refusal → Reply
reply_to (Ok f) = record { number = 0; first = f.first; second = f.second; third = f.third }
reply_to (Err e) = record { number = refusal_number e; first = 0; second = 0; third = 0 }

abbrev pub plain_reply : {A : Type 0} → Result A Refusal → Reply
plain_reply r = record { number = outcome_number r; first = 0; second = 0; third = 0 }

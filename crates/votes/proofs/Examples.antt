-- Worked examples, computed: the definitions run on small sheets.
use mathlib.Core.Path.{◌≡◌, refl}
use mathlib.Core.List.{List, [], ◌∷◌, ◌++◌}
use Prim.Native.Nat.{ℕ}
use lib.ListN.{replicate}
use Rattle.basics.specs.Tests.{all, all_below}
use Rattle.basics.specs.Bytes.{bytes_of}
use Rattle.quorum.specs.Sets.{member, minus, remove}
use Rattle.rules.specs.Rules.{first}
use Rattle.basics.specs.Listing.{passing}
use Rattle.votes.specs.Votes.{sum_below, votes_of, total, reaches, smallest, smallest_sets, true_votes, too_many}
use Rattle.form.specs.Sides.{places, side_bytes, config_bytes}
use Rattle.votes.specs.Votes.{votes_refusals, votes_number, configuration_of, votes_output}

abbrev blank : List ℕ
blank = replicate 32 170

-- any two of three; one heavy station, whose votes any set of the others needs too; a station without votes
sets : smallest_sets (1 ∷ 1 ∷ 1 ∷ []) 2 ∷ smallest_sets (3 ∷ 1 ∷ 1 ∷ []) 3 ∷ smallest_sets (3 ∷ 1 ∷ 1 ∷ []) 4 ∷ smallest_sets (0 ∷ 2 ∷ 1 ∷ []) 2 ∷ []
    ≡ (3 ∷ 5 ∷ 6 ∷ []) ∷ (1 ∷ []) ∷ (3 ∷ 5 ∷ []) ∷ (2 ∷ []) ∷ []
unfolding sum_below votes_of member minus remove all_below reaches smallest passing smallest_sets
sets = refl

majority : votes_output (1 ∷ 1 ∷ 1 ∷ []) 2 2 blank ≡ (3 ∷ 0 ∷ 5 ∷ 0 ∷ 6 ∷ 0 ∷ replicate 10 0) ++ (3 ∷ 0 ∷ 5 ∷ 0 ∷ 6 ∷ 0 ∷ replicate 10 0)
unfolding sum_below votes_of member minus remove total all all_below reaches smallest passing smallest_sets true_votes too_many first votes_refusals
    votes_number bytes_of places side_bytes config_bytes configuration_of votes_output
majority = refl

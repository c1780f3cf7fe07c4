-- Votes off the installer's sheet (document 02, 2026-01): "one byte per station, 16-bit read and write thresholds", and the configuration that they give.
-- The stations are as many as there are votes. Any number is taken as a threshold: 16 bytes have a total of 4,080 at most, so one that needs more than
-- 16 bits is above it.
use Rattle.std.specs.Prelude.{Bool, not, cond, ◌&&◌, ◌||◌, List, [], ◌∷◌, ℕ, zero, suc, ◌+◌, ◌^◌, ltb, leb, eqb, length, get_or}
use Rattle.basics.specs.Tests.{all, all_below}
use Rattle.basics.specs.Listing.{passing}
use Rattle.quorum.specs.Sets.{listed_stations, member, remove}
use Rattle.quorum.specs.Configurations.{config_size}
use Rattle.form.specs.Sides.{config_bytes}
use Rattle.rules.specs.Rules.{Chain, first}
use Rattle.rules.specs.declared.Reply.{Reply}

-- ---- sets and thresholds
-- f summed over the numbers below a bound
unfoldable pub sum_below : (ℕ → ℕ) → ℕ → ℕ
sum_below f zero = 0
sum_below f (suc k) = sum_below f k + f k

-- the votes of a station set, and all votes
unfoldable pub votes_of : List ℕ → ℕ → ℕ
votes_of votes set = sum_below (λ i. cond (member set i) (get_or votes i 0) 0) (length votes)

unfoldable pub total : List ℕ → ℕ
total votes = sum_below (λ i. get_or votes i 0) (length votes)

-- the votes of the set reach the threshold
unfoldable pub reaches : List ℕ → ℕ → ℕ → Bool
reaches votes threshold set = leb threshold (votes_of votes set)

-- "A smallest set reaches it and no longer does with any one station left out.": of sets of stations that are on the sheet
unfoldable pub smallest : List ℕ → ℕ → ℕ → Bool
smallest votes threshold set =
    reaches votes threshold set && all_below (λ i. not (member set i) || not (reaches votes threshold (remove set i))) (length votes)

-- "the smallest sets that reach each threshold, rising as numbers"
unfoldable pub smallest_sets : List ℕ → ℕ → List ℕ
smallest_sets votes threshold = passing (smallest votes threshold) (2 ^ length votes)

-- ---- the reply
-- what votes have to pass, or they are "13 false votes (not 1 to 16 stations, a threshold of zero or above the total, or thresholds that together do
-- not exceed the total)"
unfoldable pub true_votes : List ℕ → ℕ → ℕ → List Bool
true_votes votes read write =
    listed_stations (length votes)
    ∷ leb 1 read
    ∷ leb read (total votes)
    ∷ leb 1 write
    ∷ leb write (total votes)
    ∷ ltb (total votes) (read + write)
    ∷ []

-- 14, too many sets: "more than eight on a side"
unfoldable pub too_many : List ℕ → ℕ → Bool
too_many votes threshold = ltb 8 (length (smallest_sets votes threshold))

-- "An output not 32 bytes long gets 2. Errors: 13 .., then 14 ..; both after 2."
unfoldable pub votes_refusals : List ℕ → ℕ → ℕ → List ℕ → Chain
votes_refusals votes read write out =
    (not (eqb (length out) config_size), 2)
    ∷ (not (all (true_votes votes read write)), 13)
    ∷ (too_many votes read || too_many votes write, 14)
    ∷ []

unfoldable pub votes_number : List ℕ → ℕ → ℕ → List ℕ → ℕ
votes_number votes read write out = first (votes_refusals votes read write out)

-- It has no figures: "All other figures are zero" (document 01).
abbrev pub votes_reply : List ℕ → ℕ → ℕ → List ℕ → Reply
votes_reply votes read write out = record { number = votes_number votes read write out; first = 0; second = 0; third = 0 }

-- ---- the output
-- "the valid configuration, written into a lent 32 bytes": of a call that is done, so that no side has more sets than places
unfoldable pub configuration_of : List ℕ → ℕ → ℕ → List ℕ
configuration_of votes read write = config_bytes (smallest_sets votes read) (smallest_sets votes write)

-- "A refusal leaves .. every other lent buffer untouched" (document 01).
unfoldable pub votes_output : List ℕ → ℕ → ℕ → List ℕ → List ℕ
votes_output votes read write out = cond (eqb (votes_number votes read write out) 0) (configuration_of votes read write) out

-- A configuration found that changes on the way, on copies that no list of calls leaves (document 02, 2026-05: "how many polls first make a new round
-- heard"): three polls are heard by the old configuration, with the fourth, which finds a newer generation, the round is unheard again, and with the fifth
-- it is heard by the new one. The first start that is heard counts, and its configuration.
use Rattle.std.specs.Prelude.{◌≡◌, Bool, true, false, cond, List, [], ◌∷◌, ◌++◌, ℕ, ltb, replicate}
use Rattle.quorum.specs.Configurations.{place_figure}
use Rattle.layout.specs.Fields.{Copy, new_copy}
use Rattle.layout.specs.Newest.{hears}
use Rattle.plan.specs.Starts.{rising, start}
use Rattle.plan.specs.Plan.{polls_needed, puts_needed}

-- one read set and one write set of stations below 8
abbrev pub one_of_each : ℕ → ℕ → List ℕ
one_of_each read write = (read ∷ replicate 15 0) ++ (write ∷ replicate 15 0)

-- stations 0 to 2 have generation 0, read {0, 1, 2} and write {1, 3}; 3 and 4 have generation 1, read and write {4}
abbrev pub hand_made : ℕ → Copy
hand_made s = cond (ltb s 3) (new_copy 0 500 0 (one_of_each 7 10)) (new_copy 0 500 1 (one_of_each 16 16))

-- whether polls of the k lowest of five stations are heard
abbrev pub heard_by : ℕ → Bool
heard_by k = hears hand_made (start (rising 31) k) 5

abbrev pub OnTheWay : Type 0
OnTheWay = (heard_by 1 ∷ heard_by 2 ∷ heard_by 3 ∷ heard_by 4 ∷ heard_by 5 ∷ [] ≡ false ∷ false ∷ true ∷ false ∷ true ∷ [])
    × (place_figure (polls_needed hand_made 31 5) ∷ place_figure (puts_needed hand_made 31 5) ∷ [] ≡ 3 ∷ 4 ∷ [])

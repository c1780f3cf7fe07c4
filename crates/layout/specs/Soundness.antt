-- A sound table (document 01, "Bytes of the table"). A table of any length and content has an answer.
use Rattle.std.specs.Prelude.{Bool, not, ◌&&◌, List, [], ◌∷◌, ℕ, ◌-◌, length, ltb, leb, eqb}
use Rattle.basics.specs.Tests.{all, all_below}
use Rattle.basics.specs.Bytes.{number}
use Rattle.quorum.specs.Sets.{shares, within}
use Rattle.quorum.specs.Configurations.{valid, config_size}
use Rattle.layout.specs.Layout.{head_size, table_length, listed, kind_at, item_at, spare_at, value_at, target_at}
use Rattle.layout.specs.Fields.{Kind, none, read, write, change, kind_byte, stations, items, off_set, round_of, copy_of}

-- the bytes from a place on, as many as the width says, are zero: so is the number in them, and no other bytes give zero
abbrev pub is_zero : List ℕ → ℕ → ℕ → Bool
is_zero t at width = eqb (number t at width) 0

-- "with no round, bytes 5–11 and 16–55 are zero; in a read both put sets, value and target are zero; in a write the
-- configuration puts and target are zero; in a change the value is zero and the target valid"
unfoldable pub round_sound : List ℕ → Kind → Bool
round_sound t none = is_zero t item_at (spare_at - item_at) && is_zero t value_at (head_size - value_at)
round_sound t read = eqb (round_of t).data_puts 0 && eqb (round_of t).config_puts 0 && is_zero t value_at (head_size - value_at)
round_sound t write = eqb (round_of t).config_puts 0 && is_zero t target_at config_size
round_sound t change = eqb (round_of t).value 0 && valid (stations t) (round_of t).target

-- "every copy's configuration is valid"
unfoldable pub copies_valid : List ℕ → Bool
copies_valid t = all_below (λ i. all_below (λ s. valid (stations t) (copy_of t i s).config) (stations t)) (items t)

unfoldable pub soundness : List ℕ → List Bool
soundness t =
    -- its length fits
    eqb (length t) (table_length (stations t) (items t))
    -- n, m, round and item are in range
    ∷ listed (stations t) (items t)
    ∷ leb (number t kind_at 1) (kind_byte change)
    ∷ ltb (round_of t).item (items t)
    -- all head sets name stations below n
    ∷ within (stations t) (off_set t)
    ∷ within (stations t) (round_of t).polled
    ∷ within (stations t) (round_of t).data_puts
    ∷ within (stations t) (round_of t).config_puts
    -- no put set meets the off set
    ∷ not (shares (round_of t).data_puts (off_set t))
    ∷ not (shares (round_of t).config_puts (off_set t))
    -- with no round .. in a read .. in a write .. in a change
    ∷ round_sound t (round_of t).kind
    -- 12–15 are zero
    ∷ is_zero t spare_at (value_at - spare_at)
    -- every copy's configuration is valid
    ∷ copies_valid t
    ∷ []

unfoldable pub sound : List ℕ → Bool
sound t = all (soundness t)

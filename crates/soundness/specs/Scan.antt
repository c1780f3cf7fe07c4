-- How the code tests soundness: the parts of the list of tests, and the configurations in a row.
-- Not for the crates above: a reader needs `sound`, to which `is_sound` is proved equal.
use Rattle.std.specs.Prelude.{Bool, true, not, ◌&&◌, List, ℕ, ◌+◌, ◌-◌, ◌*◌, take, ltb, leb, eqb}
use Rattle.basics.specs.Tests.{all}
use Rattle.basics.specs.Bytes.{number}
use Rattle.quorum.specs.Sets.{shares, within, unite}
use Rattle.quorum.specs.Configurations.{valid}
use Rattle.validity.specs.Rows.{valid_to}
use Rattle.layout.specs.Layout.{kind_at, spare_at, value_at, target_at, copy_size}
use Rattle.layout.specs.Fields.{Kind, none, read, write, change, kind_byte, stations, items, off_set, round_of}
use Rattle.layout.specs.Soundness.{is_zero, round_sound, soundness}

-- the length, n and m
unfoldable pub size_sound : List ℕ → Bool
size_sound t = all (take 2 (soundness t))

-- the rest of the head, but for what the round's kind asks of it; its four sets are tested as one
unfoldable pub head_sound : List ℕ → Bool
head_sound t =
    leb (number t kind_at 1) (kind_byte change)
    && ltb (round_of t).item (items t)
    && within (stations t) (unite (unite (unite (off_set t) (round_of t).polled) (round_of t).data_puts) (round_of t).config_puts)
    && not (shares (round_of t).data_puts (off_set t))
    && not (shares (round_of t).config_puts (off_set t))
    && is_zero t spare_at (value_at - spare_at)

-- what the round's kind asks of the head, without a change's target; and the target
unfoldable pub round_blank : List ℕ → Kind → Bool
round_blank t none = round_sound t none
round_blank t read = round_sound t read
round_blank t write = round_sound t write
round_blank t change = eqb (round_of t).value 0

unfoldable pub target_sound : List ℕ → Kind → Bool
target_sound t none = true
target_sound t read = true
target_sound t write = true
target_sound t change = valid (stations t) (round_of t).target

-- The configurations in a row: number 0 is the target, which stands in the head where that of a copy stands in the copy; number
-- 1 + i × n + s is that of the copy of item i at station s. Those from number `first` on are valid.
abbrev pub configs_from : List ℕ → ℕ → Bool
configs_from t first = valid_to (stations t) t (target_at + copy_size * first) copy_size (stations t * items t + 1 - first)

-- what the round's kind asks of the head without its target, and the configurations from number `first` on: 0 in a change, 1 in
-- any other round and in none
abbrev pub rest_sound : List ℕ → ℕ → Bool
rest_sound t first = round_blank t (round_of t).kind && configs_from t first

-- What is written into the table's bytes.
use Rattle.std.specs.Prelude.{Bool, cond, List, [], ◌∷◌, ◌++◌, ℕ, zero, suc, ◌+◌, ◌-◌, ◌*◌, replicate}
use Rattle.basics.specs.Bytes.{bytes_of, over}
use Rattle.quorum.specs.Sets.{member, full}
use Rattle.quorum.specs.Configurations.{config_size}
use Rattle.layout.specs.Layout.{head_size, off_at, kind_at, polled_at, data_puts_at, spare_at, value_at, copy_version_at, copy_generation_at, address}
use Rattle.layout.specs.Fields.{Copy, none, kind_byte, Round}

-- ---- the head
unfoldable pub set_off : List ℕ → ℕ → List ℕ
set_off t off = over t off_at (bytes_of 2 off)

unfoldable pub set_polled : List ℕ → ℕ → List ℕ
set_polled t polled = over t polled_at (bytes_of 2 polled)

unfoldable pub set_puts : List ℕ → ℕ → ℕ → List ℕ
set_puts t data_puts config_puts = over t data_puts_at (bytes_of 2 data_puts ++ bytes_of 2 config_puts)

-- a round of a kind on an item, with nothing polled and no puts, its value and its target
unfoldable pub set_round : List ℕ → ℕ → ℕ → ℕ → List ℕ → List ℕ
set_round t kind item value target =
    over (over t kind_at (kind ∷ item ∷ replicate (spare_at - polled_at) 0)) value_at (bytes_of 8 value ++ target)

-- the target of a round that has none
abbrev pub no_target : List ℕ
no_target = replicate config_size 0

-- ---- one copy, by the place of its first byte
unfoldable pub put_data : List ℕ → ℕ → ℕ → ℕ → List ℕ
put_data t at version value = over t (at + copy_version_at) (bytes_of 8 version ++ bytes_of 8 value)

unfoldable pub put_config : List ℕ → ℕ → ℕ → List ℕ → List ℕ
put_config t at generation config = over t (at + copy_generation_at) (bytes_of 8 generation ++ config)

-- the bytes of a whole copy
unfoldable pub copy_bytes : ℕ → ℕ → ℕ → List ℕ → List ℕ
copy_bytes version value generation config = bytes_of 8 version ++ (bytes_of 8 value ++ (bytes_of 8 generation ++ config))

-- ---- what lay writes
-- bytes, so many times over
unfoldable pub repeated : ℕ → List ℕ → List ℕ
repeated zero bytes = []
repeated (suc k) bytes = bytes ++ repeated k bytes

-- "Lay (n, m, starting value, configuration): every item alike, .. no round." "Versions and generations start at 0." And document 02, 2026-02:
-- "From now on lay puts all n stations in the off set."
abbrev pub laid_head : ℕ → ℕ → List ℕ
laid_head n m = n ∷ m ∷ (bytes_of 2 (full n) ++ replicate (head_size - kind_at) 0)

abbrev pub laid : ℕ → ℕ → ℕ → List ℕ → List ℕ
laid n m value config = laid_head n m ++ repeated (n * m) (copy_bytes 0 value 0 config)

-- ---- what commit writes
-- "Then every put takes effect": what the round stores goes to one copy, its version and value by a data put, its generation and
-- configuration by a configuration put
abbrev pub put_copy : List ℕ → ℕ → Bool → Bool → Copy → List ℕ
put_copy t at data? config? new =
    let u = cond data? (put_data t at new.version new.value) t in cond config? (put_config u at new.generation new.config) u

-- and so to the copies of the round's item at the stations 0 to bound − 1 of the n
unfoldable pub put_copies : List ℕ → ℕ → Round → Copy → ℕ → List ℕ
put_copies t n r new zero = t
put_copies t n r new (suc s) =
    put_copy (put_copies t n r new s) (address n r.item s) (member r.data_puts s) (member r.config_puts s) new

-- "The round closes."
abbrev pub closed : List ℕ → List ℕ
closed t = set_round t (kind_byte none) 0 0 no_target

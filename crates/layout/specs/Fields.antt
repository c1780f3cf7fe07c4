-- The fields of the table, read from its bytes.
use Rattle.std.specs.Prelude.{List, ℕ, zero, suc, ◌+◌, ◌-◌, ◌^◌}
use Rattle.basics.specs.Bytes.{part, number}
use Rattle.layout.specs.Layout.{stations_at, items_at, off_at, kind_at, item_at, polled_at, data_puts_at, config_puts_at, value_at, target_at}
use Rattle.quorum.specs.Configurations.{config_size}
use Rattle.layout.specs.Layout.{copy_version_at, copy_value_at, copy_generation_at, copy_config_at, address}

-- One copy: the data replica (version and value) and the configuration replica (generation and configuration) of source 000
-- at one station. Here both counters are numbers; "A version is compared only with versions, and a generation only with
-- generations" is kept by the code's types (table/src/copy.rt).
pub record Copy : Type 0 where
  pub version : ℕ
  pub value : ℕ
  pub generation : ℕ
  pub config : List ℕ

-- "Value, version and generation are unsigned, 64 bits." The last number that a version or a generation can have
abbrev pub last_count : ℕ
last_count = 2 ^ 64 - 1

abbrev pub new_copy : ℕ → ℕ → ℕ → List ℕ → Copy
new_copy version value generation config = record { version = version; value = value; generation = generation; config = config }

-- A round is a logical access of source 000: none is open, or one that reads, writes or reconfigures.
pub data Kind : Type 0 where
  none read write change : Kind

-- "4 round (0 none, 1 read, 2 write, 3 change)": the byte of a kind, and the kind of a byte. A table whose byte is above 3 is not
-- sound, so that nothing hangs on what it is read as.
abbrev pub kind_byte : Kind → ℕ
kind_byte none = 0
kind_byte read = 1
kind_byte write = 2
kind_byte change = 3

abbrev pub kind_of : ℕ → Kind
kind_of zero = none
kind_of (suc zero) = read
kind_of (suc (suc zero)) = write
kind_of (suc (suc (suc k))) = change

pub record Round : Type 0 where
  pub kind : Kind
  pub item : ℕ
  pub polled : ℕ
  pub data_puts : ℕ
  pub config_puts : ℕ
  pub value : ℕ
  pub target : List ℕ

-- ---- the head
abbrev pub stations : List ℕ → ℕ
stations t = number t stations_at 1

abbrev pub items : List ℕ → ℕ
items t = number t items_at 1

abbrev pub off_set : List ℕ → ℕ
off_set t = number t off_at 2

abbrev pub round_of : List ℕ → Round
round_of t =
    record {
      kind = kind_of (number t kind_at 1);
      item = number t item_at 1;
      polled = number t polled_at 2;
      data_puts = number t data_puts_at 2;
      config_puts = number t config_puts_at 2;
      value = number t value_at 8;
      target = part t target_at config_size;
    }

-- ---- the copy that starts at a place, and the copy of an item at one of n stations, and at one of the table's own
unfoldable pub copy_from : List ℕ → ℕ → Copy
copy_from t at =
    record {
      version = number t (at + copy_version_at) 8;
      value = number t (at + copy_value_at) 8;
      generation = number t (at + copy_generation_at) 8;
      config = part t (at + copy_config_at) config_size;
    }

abbrev pub copies_of : List ℕ → ℕ → ℕ → ℕ → Copy
copies_of t n i s = copy_from t (address n i s)

abbrev pub copy_of : List ℕ → ℕ → ℕ → Copy
copy_of t i s = copies_of t (stations t) i s

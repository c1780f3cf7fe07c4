-- Bytes of the table (document 01): its sizes and offsets.
use Rattle.std.specs.Prelude.{Bool, not, cond, ◌&&◌, ℕ, ◌+◌, ◌*◌, leb}
use Rattle.quorum.specs.Sets.{listed_stations}

-- "Head, 56 bytes: 0 n; 1 m; 2–3 set of stations off the bus; 4 round (0 none, 1 read, 2 write, 3 change); 5 item;
-- 6–7 polled set; 8–9 data puts; 10–11 configuration puts; 12–15 zero; 16–23 value to write; 24–55 target configuration."
-- Its size, where its last field ends; then the places of its fields, in this order.
abbrev pub head_size : ℕ
head_size = 56

abbrev pub stations_at : ℕ
stations_at = 0

abbrev pub items_at : ℕ
items_at = 1

abbrev pub off_at : ℕ
off_at = 2

abbrev pub kind_at : ℕ
kind_at = 4

abbrev pub item_at : ℕ
item_at = 5

abbrev pub polled_at : ℕ
polled_at = 6

abbrev pub data_puts_at : ℕ
data_puts_at = 8

abbrev pub config_puts_at : ℕ
config_puts_at = 10

abbrev pub spare_at : ℕ
spare_at = 12

abbrev pub value_at : ℕ
value_at = 16

abbrev pub target_at : ℕ
target_at = 24

-- Where the copies start: "The copy of item i at station s starts at 56 + ..", where the head ends.
abbrev pub copies_at : ℕ
copies_at = 56

-- "The copy .. 0–7 version, 8–15 value, 16–23 generation, 24–55 configuration."
abbrev pub copy_size : ℕ
copy_size = 56

abbrev pub copy_version_at : ℕ
copy_version_at = 0

abbrev pub copy_value_at : ℕ
copy_value_at = 8

abbrev pub copy_generation_at : ℕ
copy_generation_at = 16

abbrev pub copy_config_at : ℕ
copy_config_at = 24

-- where the copy k of all starts, in their order
abbrev pub copy_at : ℕ → ℕ
copy_at k = copies_at + copy_size * k

-- "The copy of item i at station s starts at 56 + 56 × (i × n + s)"
unfoldable pub address : ℕ → ℕ → ℕ → ℕ
address n i s = copy_at (i * n + s)

-- "The length is 56 × (1 + n × m)": the head, and behind it n × m copies.
unfoldable pub table_length : ℕ → ℕ → ℕ
table_length n m = copy_at (n * m)

-- "at most 28,728": the length for 16 stations and 32 items (TableFacts.antt)
abbrev pub largest : ℕ
largest = 28728

-- "A table has n stations, 1 to 16, and m items, 1 to 32."
abbrev pub listed : ℕ → ℕ → Bool
listed n m = listed_stations n && leb 1 m && leb m 32

-- the length that a lay needs; for n or m out of range it needs nothing
unfoldable pub lay_length : ℕ → ℕ → ℕ
lay_length n m = cond (not (listed n m)) 0 (table_length n m)

-- The fields of the table after each update of its bytes.
use mathlib.Core.Path.{◌≡◌, refl, ap, ◌∙◌}
use mathlib.Core.Bool.{Bool, true, ◌||◌}
use mathlib.Core.List.{List, ◌∷◌, ◌++◌}
use Prim.Native.Nat.{ℕ, suc, ◌+◌, ◌^◌, ◌≤◌, ◌<◌}
use native.Mathlib.Omega.{arith}
use native.Mathlib.Nat.{add-zero, add_assoc, mul-le-mul_right, le_refl}
use lib.Dec.{leb}
use lib.ListN.{length, replicate, length-append}
use lib.Seq.{take_all}
use borrow.Author.Tests.{leb-true, le-leb}
use Rattle.basics.specs.Bytes.{part, little_endian, number, AreBytes, bytes_of, over}
use Rattle.basics.proofs.Tests.{or_cases, or_left, or_right}
use Rattle.layout.specs.Layout.{head_size, stations_at, items_at, off_at, kind_at, item_at, polled_at, data_puts_at, config_puts_at, spare_at, value_at}
use Rattle.layout.specs.Layout.{target_at}
use Rattle.quorum.specs.Configurations.{config_size}
use Rattle.layout.specs.Layout.{copy_size, copy_version_at, copy_value_at, copy_generation_at, copy_config_at, address, table_length}
use Rattle.layout.specs.Fields.{Copy, Kind, kind_of, Round, stations, items, off_set, round_of, copy_from, copy_of}
use Rattle.layout.specs.Rounds.{with_polled, with_puts}
use Rattle.layout.specs.Updates.{set_off, set_polled, set_puts, set_round, put_data, put_config, copy_bytes}
use Rattle.basics.proofs.Parts.{part_left, part_right, part_length, length_over, part_inside, part_whole, part_before, part-after}
use Rattle.basics.proofs.Parts.{length_bytes, read_bytes, bytes_append, bytes_of_lem, bytes_zeros, bytes_over}

-- a round opened anew
abbrev pub opened : Kind → ℕ → ℕ → List ℕ → Round
opened kind item value target =
    record { kind = kind; item = item; polled = 0; data_puts = 0; config_puts = 0; value = value; target = target }

-- ---- u is t but for some bytes
-- the k bytes from b on lie outside the bytes from a up to e
abbrev pub outside : ℕ → ℕ → ℕ → ℕ → Bool
outside a e b k = leb (b + k) a || leb e b

-- they do if they end before those, or begin after them
pub outside_before : (a e b k : ℕ) → b + k ≤ a → outside a e b k ≡ true
outside_before a e b k h = or_left (leb (b + k) a) (leb e b) (le-leb (b + k) a h)

pub outside_after : (a e b k : ℕ) → e ≤ b → outside a e b k ≡ true
outside_after a e b k h = or_right (leb (b + k) a) (leb e b) (le-leb e b h)

-- u is t but for the bytes from a up to e
pub record Only (a e : ℕ) (t u : List ℕ) : Type 0 where
  pub size : length u ≡ length t
  pub kept : (b k : ℕ) → outside a e b k ≡ true → part u b k ≡ part t b k

pub only_over : (t : List ℕ) (a e : ℕ) (l : List ℕ) → a + length l ≡ e → e ≤ length t → Only a e t (over t a l)
only_over t a e l h f =
    let fits : a + length l ≤ length t = rw h f in
    record {
      size = length_over t a l fits;
      kept = λ b k o. or_cases (leb (b + k) a) (leb e b) o
          (λ p. part_before t a l fits b k (leb-true (b + k) a p)) (λ q. part-after t a l fits b k (rw h (leb-true e b q)));
    }

pub only_none : (a e : ℕ) (t : List ℕ) → Only a e t t
only_none a e t = record { size = refl; kept = λ b k o. refl }

pub only_trans : {a e : ℕ} {t u v : List ℕ} → Only a e t u → Only a e u v → Only a e t v
only_trans f g = record { size = g.size ∙ f.size; kept = λ b k o. g.kept b k o ∙ f.kept b k o }

-- what lies outside more bytes lies outside fewer, and so does a part of it
inner : (a e a' e' b k c j : ℕ) → a ≤ a' → e' ≤ e → b ≤ c → c + j ≤ b + k → outside a e b k ≡ true → outside a' e' c j ≡ true
inner a e a' e' b k c j p q r s o =
    or_cases (leb (b + k) a) (leb e b) o
    (λ h. outside_before a' e' c j (omega (arith, leb-true (b + k) a h))) (λ h. outside_after a' e' c j (omega (arith, leb-true e b h)))

pub only_wider : {a e a' e' : ℕ} {t u : List ℕ} → a ≤ a' → e' ≤ e → Only a' e' t u → Only a e t u
only_wider {a} {e} {a'} {e'} p q f =
    record { size = f.size; kept = λ b k o. f.kept b k (inner a e a' e' b k b k p q (le_refl b) (le_refl (b + k)) o) }

-- a field that lies outside what is written
pub number_kept : {a e : ℕ} {t u : List ℕ} → Only a e t u → (b k : ℕ) → outside a e b k ≡ true → number u b k ≡ number t b k
number_kept f b k o = ap little_endian (f.kept b k o)

pub copy_kept : {a e : ℕ} {t u : List ℕ} → Only a e t u → (at : ℕ) → outside a e at copy_size ≡ true → copy_from u at ≡ copy_from t at
unfolding copy_from
copy_kept {a} {e} {t} {u} f at o =
    λ i. record {
      version = number_kept f (at + copy_version_at) 8 (field copy_version_at 8 (omega arith)) i;
      value = number_kept f (at + copy_value_at) 8 (field copy_value_at 8 (omega arith)) i;
      generation = number_kept f (at + copy_generation_at) 8 (field copy_generation_at 8 (omega arith)) i;
      config = f.kept (at + copy_config_at) config_size (field copy_config_at config_size (omega arith)) i;
    }
  where
    field : (p k : ℕ) → p + k ≤ copy_size → outside a e (at + p) k ≡ true
    field p k h = inner a e a e at copy_size (at + p) k (le_refl a) (le_refl e) (omega arith) (omega arith) o

-- the round's fields are two stretches of bytes
pub round_kept : {a e : ℕ} {t u : List ℕ} → Only a e t u → outside a e kind_at 8 ≡ true → outside a e value_at 40 ≡ true → round_of u ≡ round_of t
round_kept {a} {e} {t} {u} f o p =
    λ i. record {
      kind = kind_of (number_kept f kind_at 1 (first kind_at 1 (omega arith) (omega arith)) i);
      item = number_kept f item_at 1 (first item_at 1 (omega arith) (omega arith)) i;
      polled = number_kept f polled_at 2 (first polled_at 2 (omega arith) (omega arith)) i;
      data_puts = number_kept f data_puts_at 2 (first data_puts_at 2 (omega arith) (omega arith)) i;
      config_puts = number_kept f config_puts_at 2 (first config_puts_at 2 (omega arith) (omega arith)) i;
      value = number_kept f value_at 8 (second value_at 8 (omega arith) (omega arith)) i;
      target = f.kept target_at config_size (second target_at config_size (omega arith) (omega arith)) i;
    }
  where
    first : (b k : ℕ) → kind_at ≤ b → b + k ≤ spare_at → outside a e b k ≡ true
    first b k h j = inner a e a e kind_at 8 b k (le_refl a) (le_refl e) h j o

    second : (b k : ℕ) → value_at ≤ b → b + k ≤ head_size → outside a e b k ≡ true
    second b k h j = inner a e a e value_at 40 b k (le_refl a) (le_refl e) h j p

-- the target of a table that has its head
pub target_length : (t : List ℕ) → head_size ≤ length t → length (round_of t).target ≡ config_size
target_length t h = part_length t target_at config_size h

-- ---- u is t but for the head after its first two bytes
abbrev pub HeadOnly : List ℕ → List ℕ → Type 0
HeadOnly t u = Only off_at head_size t u

pub head_stations : {t u : List ℕ} → HeadOnly t u → stations u ≡ stations t
head_stations f = number_kept f stations_at 1 refl

pub head_items : {t u : List ℕ} → HeadOnly t u → items u ≡ items t
head_items f = number_kept f items_at 1 refl

pub head_copy : {t u : List ℕ} → HeadOnly t u → (at : ℕ) → head_size ≤ at → copy_from u at ≡ copy_from t at
head_copy f at h = copy_kept f at (outside_after off_at head_size at copy_size h)

pub address_head : (n i s : ℕ) → head_size ≤ address n i s
unfolding address
address_head n i s = omega arith

pub head_copies : {t u : List ℕ} → HeadOnly t u → (i s : ℕ) → copy_of u i s ≡ copy_of t i s
head_copies {t} {u} f i s = rw (head_stations f) (head_copy f (address (stations t) i s) (address_head (stations t) i s))

-- ---- a number and what follows it, written at a place
module _ (t : List ℕ) (a k x : ℕ) (r : List ℕ) (fits : a + (k + length r) ≤ length t) where
  size_written : length (bytes_of k x ++ r) ≡ k + length r
  size_written = rw (length-append, length_bytes k x)

  pub only_written : (e : ℕ) → a + (k + length r) ≡ e → Only a e t (over t a (bytes_of k x ++ r))
  only_written e h = only_over t a e (bytes_of k x ++ r) (rw size_written h) (omega arith)

  inside_written : (o j : ℕ) → o + j ≤ k + length r → part (over t a (bytes_of k x ++ r)) (a + o) j ≡ part (bytes_of k x ++ r) o j
  inside_written o j h = part_inside t a (bytes_of k x ++ r) (rw size_written fits) o j (rw size_written h)

  pub number-written : x < 256 ^ k → number (over t a (bytes_of k x ++ r)) a k ≡ x
  number-written h =
      ap little_endian (rw (add-zero a) at (inside_written 0 k (omega arith))
      ∙ part_left (bytes_of k x) r 0 k (rw (length_bytes k x) (omega arith)) ∙ take_all k (bytes_of k x) (rw (length_bytes k x) (le_refl k)))
      ∙ read_bytes k x h

  pub rest_written : (j : ℕ) → length r ≡ j → part (over t a (bytes_of k x ++ r)) (a + k) j ≡ r
  rest_written j e =
      inside_written k j (omega arith)
      ∙ rw (add-zero k) at (part_right (bytes_of k x) r k 0 j (length_bytes k x)) ∙ take_all j r (omega arith)

pub number_alone : (t : List ℕ) (a k x : ℕ) → a + k ≤ length t → x < 256 ^ k → number (over t a (bytes_of k x)) a k ≡ x
number_alone t a k x f h =
    ap little_endian (part_whole t a (bytes_of k x) (rw (length_bytes k x) f) k (length_bytes k x)) ∙ read_bytes k x h

-- ---- the head after each update
module _ (t : List ℕ) (head : head_size ≤ length t) where
  pub off_only : (off : ℕ) → Only off_at kind_at t (set_off t off)
  unfolding set_off
  off_only off = only_over t off_at kind_at (bytes_of 2 off) (rw (length_bytes 2 off)) (omega arith)

  pub polled_only : (polled : ℕ) → Only polled_at data_puts_at t (set_polled t polled)
  unfolding set_polled
  polled_only polled = only_over t polled_at data_puts_at (bytes_of 2 polled) (rw (length_bytes 2 polled)) (omega arith)

  pub puts_only : (data_puts config_puts : ℕ) → Only data_puts_at spare_at t (set_puts t data_puts config_puts)
  unfolding set_puts
  puts_only d c = only_written t data_puts_at 2 d (bytes_of 2 c) (rw (length_bytes 2 c) (omega arith)) spare_at (rw (length_bytes 2 c))

  -- ---- the off set
  pub off_off : (off : ℕ) → off < 65536 → off_set (set_off t off) ≡ off
  unfolding set_off
  off_off off h = number_alone t off_at 2 off (omega arith) h

  pub off_round : (off : ℕ) → round_of (set_off t off) ≡ round_of t
  off_round off = round_kept (off_only off) refl refl

  -- ---- the polled set
  pub polled_off : (polled : ℕ) → off_set (set_polled t polled) ≡ off_set t
  polled_off polled = number_kept (polled_only polled) off_at 2 refl

  pub polled_round : (polled : ℕ) → polled < 65536 → round_of (set_polled t polled) ≡ with_polled (round_of t) polled
  unfolding set_polled
  polled_round polled h =
      let f = polled_only polled in
      λ i. record {
        kind = kind_of (number_kept f kind_at 1 refl i);
        item = number_kept f item_at 1 refl i;
        polled = number_alone t polled_at 2 polled (omega arith) h i;
        data_puts = number_kept f data_puts_at 2 refl i;
        config_puts = number_kept f config_puts_at 2 refl i;
        value = number_kept f value_at 8 refl i;
        target = f.kept target_at config_size refl i;
      }

  -- ---- the put sets
  pub puts_off : (data_puts config_puts : ℕ) → off_set (set_puts t data_puts config_puts) ≡ off_set t
  puts_off d c = number_kept (puts_only d c) off_at 2 refl

  pub puts-round : (data_puts config_puts : ℕ) → data_puts < 65536 → config_puts < 65536
      → round_of (set_puts t data_puts config_puts) ≡ with_puts (round_of t) data_puts config_puts
  unfolding set_puts
  puts-round d c hd hc =
      let f = puts_only d c in
      let fits : data_puts_at + (2 + length (bytes_of 2 c)) ≤ length t = rw (length_bytes 2 c) (omega arith) in
      λ i. record {
        kind = kind_of (number_kept f kind_at 1 refl i);
        item = number_kept f item_at 1 refl i;
        polled = number_kept f polled_at 2 refl i;
        data_puts = number-written t data_puts_at 2 d (bytes_of 2 c) fits hd i;
        config_puts = (ap little_endian (rest_written t data_puts_at 2 d (bytes_of 2 c) fits 2 (length_bytes 2 c)) ∙ read_bytes 2 c hc) i;
        value = number_kept f value_at 8 refl i;
        target = f.kept target_at config_size refl i;
      }

  -- ---- a round opened anew: two stretches are written, and the spare bytes between them stay
  module _ (kind item value : ℕ) (target : List ℕ) (long : length target ≡ config_size) where
    abbrev opening : List ℕ
    opening = over t kind_at (kind ∷ item ∷ replicate 6 0)

    first_only : Only kind_at spare_at t opening
    first_only = only_over t kind_at spare_at (kind ∷ item ∷ replicate 6 0) refl (omega arith)

    fits : value_at + (8 + length target) ≤ length opening
    fits = rw (first_only.size, long) (omega arith)

    second_only : Only value_at head_size opening (set_round t kind item value target)
    unfolding set_round
    second_only = only_written opening value_at 8 value target fits head_size (rw long)

    pub round_only : Only kind_at head_size t (set_round t kind item value target)
    round_only = only_trans (only_wider (omega arith) (omega arith) first_only) (only_wider (omega arith) (omega arith) second_only)

    -- a field of the first stretch, or the spare bytes
    early : (b k : ℕ) → b + k ≤ value_at → part (set_round t kind item value target) b k ≡ part opening b k
    early b k h = second_only.kept b k (outside_before value_at head_size b k h)

    pub round_spare : number (set_round t kind item value target) spare_at 4 ≡ number t spare_at 4
    round_spare = ap little_endian (early spare_at 4 (omega arith)) ∙ number_kept first_only spare_at 4 refl

    pub round_off : off_set (set_round t kind item value target) ≡ off_set t
    round_off = number_kept round_only off_at 2 refl

    stretch : (o k : ℕ) → o + k ≤ 8 → number (set_round t kind item value target) (kind_at + o) k ≡ number (kind ∷ item ∷ replicate 6 0) o k
    stretch o k h = ap little_endian (early (kind_at + o) k (omega arith) ∙ part_inside t kind_at (kind ∷ item ∷ replicate 6 0) (omega arith) o k h)

    pub round_kind : number (set_round t kind item value target) kind_at 1 ≡ kind
    unfolding little_endian
    round_kind = stretch 0 1 (omega arith) ∙ add-zero kind

    pub round-round : value < 2 ^ 64 → round_of (set_round t kind item value target) ≡ opened (kind_of kind) item value target
    unfolding little_endian set_round
    round-round h =
        λ i. record {
          kind = kind_of (round_kind i);
          item = (stretch 1 1 (omega arith) ∙ add-zero item) i;
          polled = stretch 2 2 (omega arith) i;
          data_puts = stretch 4 2 (omega arith) i;
          config_puts = stretch 6 2 (omega arith) i;
          value = number-written opening value_at 8 value target fits h i;
          target = rest_written opening value_at 8 value target fits config_size long i;
        }

-- ---- the head stays a list of bytes
module _ (t : List ℕ) (bytes : AreBytes t) where
  pub off_bytes : (off : ℕ) → AreBytes (set_off t off)
  unfolding set_off
  off_bytes off = bytes_over t off_at (bytes_of 2 off) bytes (bytes_of_lem 2 off)

  pub polled_bytes : (polled : ℕ) → AreBytes (set_polled t polled)
  unfolding set_polled
  polled_bytes polled = bytes_over t polled_at (bytes_of 2 polled) bytes (bytes_of_lem 2 polled)

  pub puts_bytes : (data_puts config_puts : ℕ) → AreBytes (set_puts t data_puts config_puts)
  unfolding set_puts
  puts_bytes d c =
      bytes_over t data_puts_at (bytes_of 2 d ++ bytes_of 2 c) bytes
      (bytes_append (bytes_of 2 d) (bytes_of 2 c) (bytes_of_lem 2 d) (bytes_of_lem 2 c))

  pub round_bytes : (kind item value : ℕ) (target : List ℕ) → kind < 256 → item < 256 → AreBytes target
      → AreBytes (set_round t kind item value target)
  unfolding set_round
  round_bytes k i v target hk hi h =
      bytes_over (over t kind_at (k ∷ i ∷ replicate 6 0)) value_at (bytes_of 8 v ++ target)
      (bytes_over t kind_at (k ∷ i ∷ replicate 6 0) bytes (hk, (hi, bytes_zeros 6))) (bytes_append (bytes_of 8 v) target (bytes_of_lem 8 v) h)

  pub data_bytes : (at version value : ℕ) → AreBytes (put_data t at version value)
  unfolding put_data
  data_bytes at x y =
      bytes_over t (at + copy_version_at) (bytes_of 8 x ++ bytes_of 8 y) bytes
      (bytes_append (bytes_of 8 x) (bytes_of 8 y) (bytes_of_lem 8 x) (bytes_of_lem 8 y))

  pub config_bytes_lem : (at generation : ℕ) (config : List ℕ) → AreBytes config → AreBytes (put_config t at generation config)
  unfolding put_config
  config_bytes_lem at x c h = bytes_over t (at + copy_generation_at) (bytes_of 8 x ++ c) bytes (bytes_append (bytes_of 8 x) c (bytes_of_lem 8 x) h)

-- ---- where the copies are
-- the copies of an item stand one after the other
pub address-suc : (n i s : ℕ) → address n i (suc s) ≡ address n i s + copy_size
unfolding address
address-suc n i s = omega arith

pub address_fits : (n m i s : ℕ) → i < m → s < n → address n i s + copy_size ≤ table_length n m
unfolding address table_length
address_fits n m i s h k = omega (arith, mul-le-mul_right n h)

pub address_order : (n i s k : ℕ) → s < k → address n i s + copy_size ≤ address n i k
unfolding address
address_order n i s k h = omega arith

-- the copies of an item stand before those of a later item
pub address_later : (n i j s k : ℕ) → i < j → s ≤ n → address n i s ≤ address n j k
unfolding address
address_later n i j s k h l = omega (arith, mul-le-mul_right n h)

-- and all of them in the table
pub address-table : (n m i : ℕ) → i < m → address n i n ≤ table_length n m
unfolding address table_length
address-table n m i h = omega (arith, mul-le-mul_right n h)

pub table_head : (n m : ℕ) → head_size ≤ table_length n m
unfolding table_length
table_head n m = omega arith

-- ---- one copy after each update of it
abbrev pub with_data : Copy → ℕ → ℕ → Copy
with_data x version value = record { version = version; value = value; generation = x.generation; config = x.config }

abbrev pub with_config : Copy → ℕ → List ℕ → Copy
with_config x generation config = record { version = x.version; value = x.value; generation = generation; config = config }

module _ (t : List ℕ) (at : ℕ) (fits : at + copy_size ≤ length t) where
  module _ (version value : ℕ) where
    data_fits : at + (8 + length (bytes_of 8 value)) ≤ length t
    data_fits = rw (length_bytes 8 value) (omega arith)

    pub data_only : Only at (at + copy_generation_at) t (put_data t at version value)
    unfolding put_data
    data_only = rw (add-zero at) (only_written t at 8 version (bytes_of 8 value) data_fits (at + copy_generation_at) (rw (length_bytes 8 value)))

    data_rest : part (put_data t at version value) (at + copy_value_at) 8 ≡ bytes_of 8 value
    unfolding put_data
    data_rest = rw (add-zero at) (rest_written t at 8 version (bytes_of 8 value) data_fits 8 (length_bytes 8 value))

    data_first : version < 2 ^ 64 → number (put_data t at version value) (at + copy_version_at) 8 ≡ version
    unfolding put_data
    data_first h = rw (add-zero at) (number-written t at 8 version (bytes_of 8 value) data_fits h)

    pub data_copy : version < 2 ^ 64 → value < 2 ^ 64 → copy_from (put_data t at version value) at ≡ with_data (copy_from t at) version value
    unfolding copy_from
    data_copy hx hy =
        let f = data_only in
        λ i. record {
          version = data_first hx i;
          value = (ap little_endian data_rest ∙ read_bytes 8 value hy) i;
          generation =
              number_kept f (at + copy_generation_at) 8
              (outside_after at (at + copy_generation_at) (at + copy_generation_at) 8 (le_refl (at + copy_generation_at))) i;
          config = f.kept (at + copy_config_at) config_size (outside_after at (at + copy_generation_at) (at + copy_config_at) config_size (omega arith)) i;
        }

  module _ (generation : ℕ) (config : List ℕ) (long : length config ≡ config_size) where
    config_fits : at + copy_generation_at + (8 + length config) ≤ length t
    config_fits = rw long (omega arith)

    pub config_only : Only (at + copy_generation_at) (at + copy_size) t (put_config t at generation config)
    unfolding put_config
    config_only = only_written t (at + copy_generation_at) 8 generation config config_fits (at + copy_size) (rw long (omega arith))

    config_rest : part (put_config t at generation config) (at + copy_config_at) config_size ≡ config
    unfolding put_config
    config_rest =
        let e : at + copy_config_at ≡ at + copy_generation_at + 8 = omega arith in
        rw e (rest_written t (at + copy_generation_at) 8 generation config config_fits config_size long)

    pub config_copy : generation < 2 ^ 64 → copy_from (put_config t at generation config) at ≡ with_config (copy_from t at) generation config
    unfolding put_config copy_from
    config_copy h =
        let f = config_only in
        λ i. record {
          version = number_kept f (at + copy_version_at) 8 (outside_before (at + copy_generation_at) (at + copy_size) (at + copy_version_at) 8 (omega arith)) i;
          value = number_kept f (at + copy_value_at) 8 (outside_before (at + copy_generation_at) (at + copy_size) (at + copy_value_at) 8 (omega arith)) i;
          generation = number-written t (at + copy_generation_at) 8 generation config config_fits h i;
          config = config_rest i;
        }

-- ---- a copy in bytes that are made of parts
pub copy_right : (xs ys : List ℕ) (n at : ℕ) → length xs ≡ n → copy_from (xs ++ ys) (n + at) ≡ copy_from ys at
unfolding copy_from
copy_right xs ys n at e =
    λ i. record {
      version = ap little_endian (shifted copy_version_at 8) i;
      value = ap little_endian (shifted copy_value_at 8) i;
      generation = ap little_endian (shifted copy_generation_at 8) i;
      config = shifted copy_config_at config_size i;
    }
  where
    shifted : (o k : ℕ) → part (xs ++ ys) (n + at + o) k ≡ part ys (at + o) k
    shifted o k = rw (add_assoc n at o) (part_right xs ys n (at + o) k e)

pub copy_left : (xs ys : List ℕ) → copy_size ≤ length xs → copy_from (xs ++ ys) 0 ≡ copy_from xs 0
unfolding copy_from
copy_left xs ys h =
    λ i. record {
      version = ap little_endian (part_left xs ys copy_version_at 8 (omega arith)) i;
      value = ap little_endian (part_left xs ys copy_value_at 8 (omega arith)) i;
      generation = ap little_endian (part_left xs ys copy_generation_at 8 (omega arith)) i;
      config = part_left xs ys copy_config_at config_size (omega arith) i;
    }

-- the bytes of a whole copy
module _ (version value generation : ℕ) (config : List ℕ) where
  pub copy_length : length config ≡ config_size → length (copy_bytes version value generation config) ≡ copy_size
  unfolding copy_bytes
  copy_length h = rw (length-append, length-append, length-append, length_bytes 8 version, length_bytes 8 value, length_bytes 8 generation, h)

  pub copy_bytes_lem : AreBytes config → AreBytes (copy_bytes version value generation config)
  unfolding copy_bytes
  copy_bytes_lem h =
      bytes_append (bytes_of 8 version) _ (bytes_of_lem 8 version)
      (bytes_append (bytes_of 8 value) _ (bytes_of_lem 8 value) (bytes_append (bytes_of 8 generation) config (bytes_of_lem 8 generation) h))

  pub copy_read : version < 2 ^ 64 → value < 2 ^ 64 → generation < 2 ^ 64 → length config ≡ config_size
      → copy_from (copy_bytes version value generation config) 0 ≡ record { version = version; value = value; generation = generation; config = config }
  unfolding copy_bytes copy_from bytes_of
  copy_read hx hy hz h =
      λ i. record {
        version = read_bytes 8 version hx i;
        value = read_bytes 8 value hy i;
        generation = read_bytes 8 generation hz i;
        config = take_all config_size config (omega arith) i;
      }

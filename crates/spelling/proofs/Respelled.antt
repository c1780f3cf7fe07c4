-- A table respelled: its bytes, the state that they hold, and that it is sound.
use mathlib.Core.Path.{◌≡◌, refl, sym, ap, ◌∙◌}
use mathlib.Core.Bool.{true}
use mathlib.Core.List.{List, [], ◌∷◌}
use Prim.Native.Nat.{ℕ, zero, suc, ◌+◌, ◌*◌, ◌≤◌, ◌<◌}
use native.Mathlib.Nat.{not-suc-le-zero, mul-le-mul_right}
use native.Mathlib.Omega.{arith}
use lib.Dec.{ltb}
use lib.ListN.{length, replicate}
use borrow.Author.Tests.{ltb-true, ltb-false}
use Rattle.basics.specs.Bytes.{part, little_endian, number, AreBytes}
use Rattle.basics.proofs.Tests.{either, below_suc}
use Rattle.basics.proofs.Parts.{length_over, part_whole, part_before, bytes_over}
use Rattle.quorum.specs.Configurations.{config_size}
use Rattle.quorum.specs.Promise.{SamePasses}
use Rattle.form.specs.Form.{standard_form}
use Rattle.form.proofs.Laws.{form_length, form_bytes, form_valid, form_spells, spells_itself, form_nothing}
use Rattle.layout.specs.Layout.{target_at, copies_at, copy_size, copy_version_at, copy_value_at, copy_generation_at, copy_config_at}
use Rattle.layout.specs.Layout.{stations_at, items_at, off_at, kind_at, item_at, polled_at, data_puts_at, config_puts_at}
use Rattle.layout.specs.Layout.{spare_at, value_at, address, table_length}
use Rattle.layout.specs.Fields.{Copy, new_copy, Kind, none, read, write, change, kind_of, Round, stations, items, round_of, copy_from}
use Rattle.layout.specs.Soundness.{sound}
use Rattle.layout.specs.View.{Table, view, ContentsBy}
use Rattle.layout.proofs.Contents.{EachConfig, contents_with}
use Rattle.layout.proofs.Fields.{target_length, outside, outside_before, outside_after, only_over}
use Rattle.layout.proofs.Soundness.{RoundFacts, StateSound, sound_facts, facts_sound, sound_head}
use Rattle.spelling.specs.Spellings.{config_at, respell_to, respelled}

-- ---- the bytes
-- the head is as long as a copy, and has its target where a copy has its configuration
config_place : (k : ℕ) → config_at k ≡ target_at + copy_size * k
config_place zero = refl
config_place (suc k) = omega arith

module _ (n : ℕ) (t : Table) (count : ℕ) (fits : copy_size * count ≤ length t) where
  abbrev to : ℕ → Table
  to k = respell_to n t k

  abbrev form_at : ℕ → List ℕ
  form_at k = standard_form n (part t (config_at k) config_size)

  to_length : (k : ℕ) → k ≤ count → length (to k) ≡ length t
  unfolding respell_to
  to_length zero l = refl
  to_length (suc k) l =
      let before = to_length k (omega arith) in
      length_over (to k) (config_at k) (form_at k) (omega (arith, config_place k, form_length n (part t (config_at k) config_size))) ∙ before

  -- a configuration has room where it stands
  room : (k : ℕ) → k < count → config_at k + length (form_at k) ≤ length (to k)
  room k l = omega (arith, config_place k, form_length n (part t (config_at k) config_size), to_length k (omega arith))

  -- what lies beside every configuration stays
  abbrev Beside : ℕ → ℕ → Type 0
  Beside at width = (k : ℕ) → outside (config_at k) (config_at k + config_size) at width ≡ true

  kept : (k at width : ℕ) → k ≤ count → Beside at width → part (to k) at width ≡ part t at width
  unfolding respell_to
  kept zero at width l beside = refl
  kept (suc k) at width l beside =
      let long = form_length n (part t (config_at k) config_size) in
      (only_over (to k) (config_at k) (config_at k + config_size) (form_at k) (rw long)
      (omega (arith, config_place k, to_length k (omega arith)))).kept at width (beside k)
      ∙ kept k at width (omega arith) beside

  -- the others are respelled
  own : (k : ℕ) → k ≤ count → (j : ℕ) → j < k → part (to k) (config_at j) config_size ≡ form_at j
  unfolding respell_to
  own zero l = λ j h. absurd (not-suc-le-zero h)
  own (suc k) l =
      below_suc (λ (j : ℕ). part (to (suc k)) (config_at j) config_size ≡ form_at j) k
      (λ j h. part_before (to k) (config_at k) (form_at k) (room k l) (config_at j) config_size (omega (arith, config_place j, config_place k))
      ∙ own k (omega arith) j h)
      (part_whole (to k) (config_at k) (form_at k) (room k l) config_size (form_length n (part t (config_at k) config_size)))

to_bytes : (n : ℕ) (t : Table) → AreBytes t → (k : ℕ) → AreBytes (respell_to n t k)
unfolding respell_to
to_bytes n t b zero = b
to_bytes n t b (suc k) = bytes_over (respell_to n t k) (config_at k) _ (to_bytes n t b k) (form_bytes n (part t (config_at k) config_size))

pub respelled_bytes : (t : Table) → AreBytes t → AreBytes (respelled t)
respelled_bytes t b = to_bytes (view t).n t b (1 + (view t).n * (view t).m)

-- ---- the state
-- a copy and a round with the form for their configuration
abbrev formed : ℕ → Copy → Copy
formed n c = new_copy c.version c.value c.generation (standard_form n c.config)

abbrev with_form : ℕ → Round → Round
with_form n r =
    record {
      kind = r.kind;
      item = r.item;
      polled = r.polled;
      data_puts = r.data_puts;
      config_puts = r.config_puts;
      value = r.value;
      target = standard_form n r.target;
    }

module _ (t : Table) (s : sound t ≡ true) where
  abbrev n : ℕ
  n = (view t).n

  abbrev m : ℕ
  m = (view t).m

  abbrev u : Table
  u = respelled t

  -- the target and the copies are the table
  whole : copy_size * (1 + n * m) ≤ length t
  unfolding view table_length
  whole = omega (arith, (sound_facts t s).size)

  pub respelled_length : length u ≡ length t
  respelled_length = to_length n t (1 + n * m) whole (1 + n * m) (omega arith)

  -- the fields of the head that lie before the target, and the numbers of a copy, lie beside every configuration
  head_kept : (at width : ℕ) → at + width ≤ target_at → number u at width ≡ number t at width
  head_kept at width l =
      ap little_endian (kept n t (1 + n * m) whole (1 + n * m) at width (omega arith) (λ k. outside_before _ _ at width (omega (arith, config_place k))))

  copy_number : (q o width : ℕ) → o + width ≤ copy_config_at
      → number u (copies_at + copy_size * q + o) width ≡ number t (copies_at + copy_size * q + o) width
  copy_number q o width l =
      let at = copies_at + copy_size * q + o in
      ap little_endian (kept n t (1 + n * m) whole (1 + n * m) at width (omega arith)
      (λ k. either (ltb q k)
      (λ e. outside_before _ _ at width (omega (arith, config_place k, ltb-true q k e)))
      (λ e. outside_after _ _ at width (omega (arith, config_place k, ltb-false q k e)))))

  config_own : (j : ℕ) → j < 1 + n * m → part u (config_at j) config_size ≡ standard_form n (part t (config_at j) config_size)
  config_own = own n t (1 + n * m) whole (1 + n * m) (omega arith)

  copy_respelled : (q : ℕ) → q < n * m → copy_from u (copies_at + copy_size * q) ≡ formed n (copy_from t (copies_at + copy_size * q))
  unfolding copy_from
  copy_respelled q l =
      λ j. record {
        version = copy_number q copy_version_at 8 (omega arith) j;
        value = copy_number q copy_value_at 8 (omega arith) j;
        generation = copy_number q copy_generation_at 8 (omega arith) j;
        config = config_own (suc q) (omega arith) j;
      }

  round-respelled : round_of u ≡ with_form n (round_of t)
  round-respelled =
      λ j. record {
        kind = kind_of (head_kept kind_at 1 (omega arith) j);
        item = head_kept item_at 1 (omega arith) j;
        polled = head_kept polled_at 2 (omega arith) j;
        data_puts = head_kept data_puts_at 2 (omega arith) j;
        config_puts = head_kept config_puts_at 2 (omega arith) j;
        value = head_kept value_at 8 (omega arith) j;
        target = config_own 0 (omega arith) j;
      }

  stations_same : (view u).n ≡ n
  unfolding view
  stations_same = head_kept stations_at 1 (omega arith)

  items_same : (view u).m ≡ m
  unfolding view
  items_same = head_kept items_at 1 (omega arith)

  off_same : (view u).off ≡ (view t).off
  unfolding view
  off_same = head_kept off_at 2 (omega arith)

  round_same : (view u).round ≡ with_form n (view t).round
  unfolding view
  round_same = round-respelled

  copies_same : (i k : ℕ) → i < m → k < n → (view u).copies i k ≡ formed n ((view t).copies i k)
  unfolding view address
  copies_same i k p q = rw stations_same (copy_respelled (i * n + k) (omega (arith, mul-le-mul_right n p)))

  pub respelled_contents : ContentsBy (λ c d. d ≡ standard_form n c) (view t) (view u)
  respelled_contents =
      record {
        n = sym stations_same;
        m = sym items_same;
        off = sym off_same;
        round = record {
          kind = sym (ap (λ r. r.kind) round_same);
          item = sym (ap (λ r. r.item) round_same);
          polled = sym (ap (λ r. r.polled) round_same);
          data_puts = sym (ap (λ r. r.data_puts) round_same);
          config_puts = sym (ap (λ r. r.config_puts) round_same);
          value = sym (ap (λ r. r.value) round_same);
          target = ap (λ r. r.target) round_same;
        };
        copies = λ i k p q. let e = copies_same i k (rw items_same at p) (rw stations_same at q) in
            record {
              version = sym (ap (λ c. c.version) e);
              value = sym (ap (λ c. c.value) e);
              generation = sym (ap (λ c. c.generation) e);
              config = ap (λ c. c.config) e;
            };
      }

-- ---- it is sound
-- a list that is zero as a number is zeros, and 32 of them are their own form
zeros : (l : List ℕ) → little_endian l ≡ 0 → replicate (length l) 0 ≡ l
unfolding little_endian
zeros [] e = refl
zeros (byte ∷ rest) e =
    let none : byte ≡ 0 = omega (arith, e) in
    λ j. sym none j ∷ zeros rest (omega (arith, e)) j

zeros_form : (n : ℕ) (l : List ℕ) → length l ≡ config_size → little_endian l ≡ 0 → standard_form n l ≡ l
zeros_form n l long e = let its = rw long at (zeros l e) in ap (standard_form n) (sym its) ∙ form_nothing n ∙ its

target_zero : (n : ℕ) (l : List ℕ) → length l ≡ config_size → little_endian l ≡ 0 → little_endian (standard_form n l) ≡ 0
target_zero n l long e = ap little_endian (zeros_form n l long e) ∙ e

round-sound : (n : ℕ) (r : Round) → length r.target ≡ config_size → (k : Kind) → RoundFacts n r k → RoundFacts n (with_form n r) k
round-sound n r long none f = (f.0, f.1, f.2, f.3, f.4, target_zero n r.target long f.5)
round-sound n r long read f = (f.0, f.1, f.2, target_zero n r.target long f.3)
round-sound n r long write f = (f.0, target_zero n r.target long f.1)
round-sound n r long change f = (f.0, form_valid n r.target f.1)

module _ (t : Table) (s : sound t ≡ true) where
  abbrev state : StateSound (view t)
  state = (sound_facts t s).state

  target_long : length (view t).round.target ≡ config_size
  unfolding view
  target_long = target_length t (sound_head t s)

  respelled_state : StateSound (view (respelled t))
  respelled_state =
      let f = state in
      let e = stations_same t s in
      let r = round_same t s in
      record {
        positive = rw e f.positive;
        small = rw e f.small;
        some_item = rw (items_same t s) f.some_item;
        few_items = rw (items_same t s) f.few_items;
        item = rw (items_same t s, r) f.item;
        off = rw (e, off_same t s) f.off;
        polled = rw (e, r) f.polled;
        data_puts = rw (e, r) f.data_puts;
        config_puts = rw (e, r) f.config_puts;
        data_on = rw (off_same t s, r) f.data_on;
        config_on = rw (off_same t s, r) f.config_on;
        round = rw (e, r) (round-sound (view t).n (view t).round target_long (view t).round.kind f.round);
        configs = rw (e, items_same t s) (λ i k p q. rw (copies_same t s i k p q) (form_valid (view t).n ((view t).copies i k).config (f.configs i k p q)));
      }

  pub respelled_sound : sound (respelled t) ≡ true
  respelled_sound =
      let f = sound_facts t s in
      facts_sound (respelled t) (record {
        size = respelled_length t s ∙ f.size ∙ sized;
        kind = rw (head_kept t s kind_at 1 (omega arith)) f.kind;
        spare = head_kept t s spare_at 4 (omega arith) ∙ f.spare;
        state = respelled_state;
      })
    where
      sized : table_length (stations t) (items t) ≡ table_length (stations (respelled t)) (items (respelled t))
      sized = rw (head_kept t s stations_at 1 (omega arith), head_kept t s items_at 1 (omega arith))

  -- ---- the same station sets pass in the form of the target and of every copy's configuration
  abbrev Formed : List ℕ → Type 0
  Formed c = SamePasses c (standard_form (view t).n c)

  zeros_formed : little_endian (view t).round.target ≡ 0 → Formed (view t).round.target
  zeros_formed e = spells_itself (sym (zeros_form _ _ target_long e))

  target_formed : (k : Kind) → RoundFacts (view t).n (view t).round k → Formed (view t).round.target
  target_formed none f = zeros_formed f.5
  target_formed read f = zeros_formed f.3
  target_formed write f = zeros_formed f.1
  target_formed change f = form_spells (view t).n _ f.1

  each_formed : EachConfig Formed (view t)
  each_formed =
      record {
        target = target_formed (view t).round.kind state.round;
        copies = λ i k p q. form_spells (view t).n _ (state.configs i k p q);
      }

  pub respelled_passes : ContentsBy SamePasses (view t) (view (respelled t))
  respelled_passes = contents_with (λ c d formed form. rw form formed) each_formed (respelled_contents t s)

-- What holds of every table: the state has every byte of it, and no table is longer than the largest.
use mathlib.Core.Path.{◌≡◌, refl, sym, ap, ◌∙◌}
use mathlib.Core.List.{List}
use Prim.Native.Nat.{ℕ, zero, suc, ◌+◌, ◌*◌, ◌≤◌, ◌<◌}
use native.Mathlib.Omega.{arith}
use native.Mathlib.Nat.{add-zero, add_assoc, mul_comm, le_refl}
use lib.ListN.{length, take}
use lib.Seq.{take-length, take-add}
use Rattle.basics.specs.Bytes.{part, number, AreBytes, bytes_of}
use Rattle.quorum.specs.Configurations.{config_size}
use Rattle.basics.proofs.Parts.{number_bytes}
use Rattle.layout.specs.Layout.{head_size, stations_at, items_at, off_at, kind_at, item_at, polled_at, data_puts_at, config_puts_at, spare_at, value_at}
use Rattle.layout.specs.Layout.{target_at, copy_size, copy_version_at, copy_value_at, copy_generation_at, copy_config_at, address, table_length}
use Rattle.layout.specs.Fields.{kind_byte, kind_of, stations, items, copy_from}
use Rattle.layout.specs.View.{view, CopyBy, SameContents}
use Rattle.layout.specs.TableFacts.{TableFacts}
use Rattle.layout.proofs.Fields.{address-suc, address_fits, table_head}
use Rattle.layout.proofs.Soundness.{Sound, sound_facts}
use Rattle.layout.proofs.Sizes.{sized, lay_length_in, lay_length_le, largest_is}

-- the byte of a round is that of its kind
kind_byte_lem : (k : ℕ) → k ≤ 3 → kind_byte (kind_of k) ≡ k
kind_byte_lem zero h = refl
kind_byte_lem (suc zero) h = refl
kind_byte_lem (suc (suc zero)) h = refl
kind_byte_lem (suc (suc (suc k))) h = omega arith

module _ (t u : List ℕ) where
  -- ---- two lists agree up to a place, and on by a part that is the same in both
  abbrev Agree : ℕ → Type 0
  Agree p = take p t ≡ take p u

  on_part : (at o k : ℕ) → part t (at + o) k ≡ part u (at + o) k → Agree (at + o) → Agree (at + (o + k))
  on_part at o k e a = rw (← add_assoc at o k, take-add (at + o) k t, take-add (at + o) k u, a, e)

  -- ---- two sound tables of the same contents
  module _ (bytes-t : AreBytes t) (bytes-u : AreBytes u) (f : Sound t) (g : Sound u) (same : SameContents (view t) (view u)) where
    abbrev n : ℕ
    n = stations u

    abbrev m : ℕ
    m = items u

    size : length t ≡ table_length n m
    unfolding view
    size = rw (same.n, same.m) at f.size

    -- on by a number, and by a copy
    on_number : (at o k : ℕ) → at + (o + k) ≤ table_length n m → number t (at + o) k ≡ number u (at + o) k → Agree (at + o) → Agree (at + (o + k))
    on_number at o k h e =
        let in-t = number_bytes t (at + o) k bytes-t (omega (arith, size)) in
        let in-u = number_bytes u (at + o) k bytes-u (omega (arith, g.size)) in
        on_part at o k (sym in-t ∙ ap (bytes_of k) e ∙ in-u)

    on_copy : (at : ℕ) → at + copy_size ≤ table_length n m → CopyBy ◌≡◌ (copy_from t at) (copy_from u at) → Agree at → Agree (at + copy_size)
    unfolding copy_from
    on_copy at h e a =
        on_part at copy_config_at config_size e.config
        (on_number at copy_generation_at 8 (omega arith) e.generation
        (on_number at copy_value_at 8 (omega arith) e.value
        (on_number at copy_version_at 8 (omega arith) e.version (rw (add-zero at) a))))

    -- the head: the state shows every field of it but the spare bytes, which are zero, and the kind in the place of its byte
    kind_same : number t kind_at 1 ≡ number u kind_at 1
    unfolding view
    kind_same = sym (kind_byte_lem _ f.kind) ∙ ap kind_byte same.round.kind ∙ kind_byte_lem _ g.kind

    head_agrees : Agree head_size
    unfolding view
    head_agrees =
        let h : head_size ≤ table_length n m = table_head n m in
        on_part 0 target_at config_size same.round.target
        (on_number 0 value_at 8 (omega arith) same.round.value
        (on_number 0 spare_at 4 (omega arith) (f.spare ∙ sym g.spare)
        (on_number 0 config_puts_at 2 (omega arith) same.round.config_puts
        (on_number 0 data_puts_at 2 (omega arith) same.round.data_puts
        (on_number 0 polled_at 2 (omega arith) same.round.polled
        (on_number 0 item_at 1 (omega arith) same.round.item
        (on_number 0 kind_at 1 (omega arith) kind_same
        (on_number 0 off_at 2 (omega arith) same.off
        (on_number 0 items_at 1 (omega arith) same.m
        (on_number 0 stations_at 1 (omega arith) same.n refl))))))))))

    -- the copies: those of an item, one station after the other, and those of the items before it
    copy_same : (i s : ℕ) → i < m → s < n → CopyBy ◌≡◌ (copy_from t (address n i s)) (copy_from u (address n i s))
    unfolding view
    copy_same i s h k = rw same.n at (same.copies i s h k)

    item_agrees : (i : ℕ) → i < m → Agree (address n i 0) → (s : ℕ) → s ≤ n → Agree (address n i s)
    item_agrees i h a zero k = a
    item_agrees i h a (suc s) k =
        rw (address-suc n i s) (on_copy (address n i s) (address_fits n m i s h k) (copy_same i s h k) (item_agrees i h a s (omega arith)))

    items_agree : (i : ℕ) → i ≤ m → Agree (address n i 0)
    unfolding address
    items_agree zero h = let e : address n 0 0 ≡ head_size = omega arith in rw e head_agrees
    items_agree (suc i) h =
        let e : address n (suc i) 0 ≡ address n i n = omega arith in rw e (item_agrees i h (items_agree i (omega arith)) n (le_refl n))

    all_agrees : t ≡ u
    unfolding address table_length
    all_agrees =
        let e : address n m 0 ≡ table_length n m = omega (arith, mul_comm n m) in
        let a : Agree (table_length n m) = rw e at (items_agree m (le_refl m)) in
        sym (rw size at (take-length t)) ∙ a ∙ rw g.size at (take-length u)

length_is : (n m : ℕ) → table_length n m ≡ 56 * (1 + n * m)
unfolding table_length
length_is n m = omega arith

-- the statement of specs/TableFacts.antt
pub table_facts : TableFacts
table_facts =
    record {
      same_bytes = λ t u bytes-t bytes-u sound-t sound-u same. all_agrees t u bytes-t bytes-u (sound_facts t sound-t) (sound_facts u sound-u) same;
      length_is = length_is;
      at_most = λ n m h. rw (lay_length_in n m ((sized n m).0 h)) at (lay_length_le n m);
      reached = largest_is;
    }

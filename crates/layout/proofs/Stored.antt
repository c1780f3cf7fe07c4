-- The copies after a commit and after a lay: what each writes, and the state that the bytes then hold.
use mathlib.Core.Path.{◌≡◌, refl, sym, ap, ◌∙◌}
use mathlib.Core.Bool.{Bool, true, false, cond, ◌&&◌}
use mathlib.Core.List.{List}
use Prim.Native.Nat.{ℕ, zero, suc, ◌+◌, ◌-◌, ◌*◌, ◌^◌, ◌≤◌, ◌<◌}
use native.Mathlib.Omega.{arith}
use native.Mathlib.Nat.{add-zero, mul-le-mul_right, le_refl, not-suc-le-zero}
use lib.Dec.{ltb, eqb}
use lib.ListN.{length, replicate, length-append}
use borrow.Author.Tests.{ltb-true, ltb-false, eqb-true, eqb-false}
use Rattle.basics.specs.Bytes.{little_endian, bytes_of, AreBytes}
use Rattle.quorum.specs.Sets.{member, within, full}
use Rattle.quorum.proofs.Promise.{promise}
use Rattle.basics.proofs.Tests.{below_suc}
use Rattle.layout.specs.Layout.{head_size, copies_at, stations_at, items_at, off_at, kind_at, spare_at, value_at, target_at}
use Rattle.quorum.specs.Configurations.{config_size}
use Rattle.layout.specs.Layout.{copy_size, copy_version_at, copy_value_at, copy_generation_at, address, table_length}
use Rattle.layout.specs.Fields.{Copy, none, Round, stations, round_of, copy_from}
use Rattle.layout.specs.View.{State}
use Rattle.layout.specs.Updates.{no_target, put_data, copy_bytes, repeated, laid_head, laid, put_copy, put_copies}
use Rattle.basics.proofs.Parts.{number_lt, read_bytes, bytes_append, bytes_zeros, bytes_part}
use Rattle.layout.proofs.Fields.{outside, outside_before, outside_after, Only, only_none, only_trans, only_wider, number_kept, copy_kept, round_kept}
use Rattle.layout.proofs.Fields.{address_head, address-suc, address_fits, address_order, address_later}
use Rattle.layout.proofs.Fields.{data_only, data_copy, config_only, config_copy, data_bytes, config_bytes_lem}
use Rattle.layout.proofs.Fields.{opened, table_head, target_length, copy_left, copy_right, copy_length, copy_bytes_lem, copy_read}
use Rattle.layout.proofs.Held.{Holds, with_copies}

-- a copy with what is stored at it: version and value by a data put, generation and configuration by a configuration put
abbrev pub stored : Bool → Bool → Copy → Copy → Copy
stored d c new x =
    record {
      version = cond d new.version x.version;
      value = cond d new.value x.value;
      generation = cond c new.generation x.generation;
      config = cond c new.config x.config;
    }

-- numbers that fit into a copy
pub record Small (new : Copy) : Type 0 where
  pub value : new.value < 2 ^ 64
  pub version : new.version < 2 ^ 64
  pub generation : new.generation < 2 ^ 64

-- those of a table of bytes do, and so does a round's value
module _ (t : List ℕ) (b : AreBytes t) where
  pub copy_small : (at : ℕ) → Small (copy_from t at)
  unfolding copy_from
  copy_small at =
      record {
        value = number_lt t (at + copy_value_at) 8 b;
        version = number_lt t (at + copy_version_at) 8 b;
        generation = number_lt t (at + copy_generation_at) 8 b;
      }

  pub value_small : (round_of t).value < 2 ^ 64
  value_small = number_lt t value_at 8 b

-- ---- one copy
module _ (t : List ℕ) (at : ℕ) (new : Copy) (fits : at + copy_size ≤ length t) (long : length new.config ≡ config_size) where
  -- the data put first, then the configuration put
  abbrev half : Bool → List ℕ
  half d = cond d (put_data t at new.version new.value) t

  half_only : (d : Bool) → Only at (at + copy_size) t (half d)
  half_only true = only_wider (le_refl at) (omega arith) (data_only t at fits new.version new.value)
  half_only false = only_none at (at + copy_size) t

  half_fits : (d : Bool) → at + copy_size ≤ length (half d)
  half_fits d = rw (half_only d).size fits

  copy_only : (d c : Bool) → Only at (at + copy_size) t (put_copy t at d c new)
  copy_only d true =
      only_trans (half_only d)
      (only_wider (omega arith) (le_refl (at + copy_size)) (config_only (half d) at (half_fits d) new.generation new.config long))
  copy_only d false = half_only d

  module _ (small : Small new) where
    half_stored : (d : Bool) → copy_from (half d) at ≡ stored d false new (copy_from t at)
    half_stored true = data_copy t at fits new.version new.value small.version small.value
    half_stored false = refl

    copy_stored : (d c : Bool) → copy_from (put_copy t at d c new) at ≡ stored d c new (copy_from t at)
    copy_stored d true =
        config_copy (half d) at (half_fits d) new.generation new.config long small.generation ∙ ap (λ x. stored false true new x) (half_stored d)
    copy_stored d false = half_stored d

-- what is written are bytes, whatever the numbers are
put_bytes : (t : List ℕ) (at : ℕ) (new : Copy) → AreBytes t → AreBytes new.config → (d c : Bool) → AreBytes (put_copy t at d c new)
put_bytes t at new b h true true =
    let u = put_data t at new.version new.value in
    config_bytes_lem u (data_bytes t b at new.version new.value) at new.generation new.config h
put_bytes t at new b h true false = data_bytes t b at new.version new.value
put_bytes t at new b h false true = config_bytes_lem t b at new.generation new.config h
put_bytes t at new b h false false = b

-- ---- the copies of the round's item
module _ (t : List ℕ) (n : ℕ) (r : Round) (new : Copy) (m : ℕ) (size : length t ≡ table_length n m) (item : r.item < m)
    (long : length new.config ≡ config_size) where
  abbrev at : ℕ → ℕ
  at s = address n r.item s

  abbrev to : ℕ → List ℕ
  to k = put_copies t n r new k

  abbrev d : ℕ → Bool
  d s = member r.data_puts s

  abbrev c : ℕ → Bool
  c s = member r.config_puts s

  from_first : (s : ℕ) → at 0 ≤ at s
  unfolding address
  from_first s = omega arith

  -- each station's copy, as the put sets say of it
  put_next : (k : ℕ) → to (suc k) ≡ put_copy (to k) (at k) (d k) (c k) new
  unfolding put_copies
  put_next k = refl

  -- only the item's copies at the stations below k change
  put_only : (k : ℕ) → k ≤ n → Only (at 0) (at k) t (to k)
  unfolding put_copies
  put_only zero h = only_none (at 0) (at 0) t
  put_only (suc k) h =
      let o = put_only k (omega arith) in
      let g = address-suc n r.item k in
      rw (put_next k) (only_trans (only_wider (le_refl (at 0)) (omega arith) o)
      (only_wider (from_first k) (omega arith) (copy_only (to k) (at k) new
      (rw (o.size, size) (address_fits n m r.item k item h)) long (d k) (c k))))

  pub put_length : (k : ℕ) → k ≤ n → length (to k) ≡ length t
  put_length k h = (put_only k h).size

  pub put_other : (k : ℕ) → k ≤ n → (i s : ℕ) → s < n → (i ≡ r.item → ⊥) → copy_from (to k) (address n i s) ≡ copy_from t (address n i s)
  put_other k h i s l ne = copy_kept (put_only k h) (address n i s) (go (ltb i r.item) refl)
    where
      go : (x : Bool) → ltb i r.item ≡ x → outside (at 0) (at k) (address n i s) copy_size ≡ true
      go true p =
          outside_before (at 0) (at k) (address n i s) copy_size
          (rw (← address-suc n i s) (address_later n i r.item (suc s) 0 (ltb-true _ _ p) l))
      go false p =
          outside_after (at 0) (at k) (address n i s) copy_size (address_later n r.item i k s (omega (arith, ltb-false)) h)

  module _ (small : Small new) where
    pub put_own : (k : ℕ) → k ≤ n → (s : ℕ) → s < k → copy_from (to k) (at s) ≡ stored (d s) (c s) new (copy_from t (at s))
    unfolding put_copies
    put_own zero h = λ s l. absurd (not-suc-le-zero l)
    put_own (suc k) h =
        let o = put_only k (omega arith) in
        let fits : at k + copy_size ≤ length (to k) = rw (o.size, size) (address_fits n m r.item k item h) in
        below_suc (λ (s : ℕ). copy_from (to (suc k)) (at s) ≡ stored (d s) (c s) new (copy_from t (at s))) k
        (λ s l. copy_kept (copy_only (to k) (at k) new fits long (d k) (c k)) (at s)
        (outside_before (at k) (at k + copy_size) (at s) copy_size (address_order n r.item s k l)) ∙ put_own k (omega arith) s l)
        (copy_stored (to k) (at k) new fits long small (d k) (c k)
        ∙ ap (λ x. stored (d k) (c k) new x) (copy_kept o (at k) (outside_after (at 0) (at k) (at k) copy_size (le_refl (at k)))))

  pub copies_bytes : AreBytes t → AreBytes new.config → (k : ℕ) → AreBytes (to k)
  unfolding put_copies
  copies_bytes b h zero = b
  copies_bytes b h (suc k) = put_bytes (to k) (at k) new (copies_bytes b h k) h (d k) (c k)

-- the copies after every put of the open round has taken effect
abbrev pub committed : State → Copy → ℕ → ℕ → Copy
committed v new i s =
    stored (eqb i v.round.item && member v.round.data_puts s) (eqb i v.round.item && member v.round.config_puts s) new (v.copies i s)

-- what is stored has the round's target as its configuration
module _ (t : List ℕ) (v : State) (new : Copy) (is_target : new.config ≡ v.round.target) (h : Holds t v) (item : v.round.item < v.m)
    (small : Small new) where
  abbrev u : List ℕ
  u = put_copies t v.n v.round new v.n

  long : length new.config ≡ config_size
  long = rw (is_target, ← h.round) (target_length t (rw h.size (table_head v.n v.m)))

  only : Only (address v.n v.round.item 0) (address v.n v.round.item v.n) t u
  only = put_only t v.n v.round new v.m h.size item long v.n (le_refl v.n)

  -- the head stays
  early : (b k : ℕ) → b + k ≤ head_size → outside (address v.n v.round.item 0) (address v.n v.round.item v.n) b k ≡ true
  early b k l = outside_before _ _ b k (omega (arith, address_head v.n v.round.item 0))

  count : stations u ≡ v.n
  count = number_kept only stations_at 1 (early stations_at 1 (omega arith)) ∙ h.n

  -- the copies of t, by the state's number of stations
  copy_held : (i s : ℕ) → i < v.m → s < v.n → copy_from t (address v.n i s) ≡ v.copies i s
  copy_held i s p q = rw h.n at (h.copies i s p q)

  copy_committed : (i s : ℕ) → i < v.m → s < v.n → copy_from u (address v.n i s) ≡ committed v new i s
  copy_committed i s p q = go (eqb i v.round.item) refl
    where
      d : Bool
      d = member v.round.data_puts s

      c : Bool
      c = member v.round.config_puts s

      go : (b : Bool) → eqb i v.round.item ≡ b → copy_from u (address v.n i s) ≡ stored (b && d) (b && c) new (v.copies i s)
      go true e =
          rw (eqb-true i v.round.item e)
          (put_own t v.n v.round new v.m h.size item long small v.n (le_refl v.n) s q
          ∙ ap (stored d c new) (copy_held v.round.item s item q))
      go false e =
          put_other t v.n v.round new v.m h.size item long v.n (le_refl v.n) i s q (eqb-false i v.round.item e)
          ∙ copy_held i s p q

  pub holds_copies : Holds u (with_copies v (committed v new))
  holds_copies =
      record {
        bytes = copies_bytes t v.n v.round new v.m h.size item long h.bytes
            (rw (is_target, ← h.round) (bytes_part t target_at config_size h.bytes)) v.n;
        size = only.size ∙ h.size;
        kind = rw (number_kept only kind_at 1 (early kind_at 1 (omega arith))) h.kind;
        spare = number_kept only spare_at 4 (early spare_at 4 (omega arith)) ∙ h.spare;
        n = count;
        m = number_kept only items_at 1 (early items_at 1 (omega arith)) ∙ h.m;
        off = number_kept only off_at 2 (early off_at 2 (omega arith)) ∙ h.off;
        round = round_kept only (early kind_at 8 (omega arith)) (early value_at 40 (omega arith)) ∙ h.round;
        copies = λ i s p q. rw count (copy_committed i s p q);
      }

-- ---- lay
-- the set of all n stations names no other
pub all-within : (n : ℕ) → n ≤ 16 → within n (full n) ≡ true
all-within n l = promise.member_within n (full n) (λ i p. ltb-true i n (sym (promise.member_full n i l) ∙ p))

pub repeated-length : (k : ℕ) (l : List ℕ) → length l ≡ copy_size → length (repeated k l) ≡ copy_size * k
unfolding repeated
repeated-length zero l e = refl
repeated-length (suc k) l e = rw (length-append, repeated-length k l e, e) (omega arith)

repeated_copy : (k j : ℕ) (l : List ℕ) → length l ≡ copy_size → j < k → copy_from (repeated k l) (copy_size * j) ≡ copy_from l 0
unfolding repeated
repeated_copy zero j l e h = absurd (not-suc-le-zero h)
repeated_copy (suc k) zero l e h = copy_left l (repeated k l) (omega arith)
repeated_copy (suc k) (suc j) l e h =
    let q : copy_size * suc j ≡ copy_size + copy_size * j = omega arith in
    rw q (copy_right l (repeated k l) copy_size (copy_size * j) e ∙ repeated_copy k j l e (omega arith))

repeated_bytes : (k : ℕ) (l : List ℕ) → AreBytes l → AreBytes (repeated k l)
unfolding repeated
repeated_bytes zero l h = tt
repeated_bytes (suc k) l h = bytes_append l (repeated k l) h (repeated_bytes k l h)

pub laid-length : (n m value : ℕ) (config : List ℕ) → length config ≡ config_size → length (laid n m value config) ≡ table_length n m
unfolding table_length bytes_of
laid-length n m value config e =
    rw (length-append, repeated-length (n * m) (copy_bytes 0 value 0 config) (copy_length 0 value 0 config e))

-- the state after a lay: "every item alike, .. no round", and "all n stations in the off set"
abbrev pub started : State → ℕ → ℕ → ℕ → List ℕ → State
started v n m value config =
    record {
      is_sound = true;
      fits = v.fits;
      n = n;
      m = m;
      off = full n;
      round = opened none 0 0 no_target;
      copies = λ i s. record { version = 0; value = value; generation = 0; config = config };
    }

pub holds-laid : (v : State) (n m value : ℕ) (config : List ℕ) → n ≤ 16 → m < 256 → value < 2 ^ 64 → length config ≡ config_size → AreBytes config
    → Holds (laid n m value config) (started v n m value config)
unfolding address little_endian bytes_of
holds-laid v n m value config few lm lv e b =
    let x = copy_bytes 0 value 0 config in
    let copies = repeated (n * m) x in
    let zeros : List ℕ = replicate (head_size - kind_at) 0 in
    let last = bytes_append zeros copies (bytes_zeros (head_size - kind_at)) (repeated_bytes (n * m) x (copy_bytes_lem 0 value 0 config b)) in
    record {
      bytes = (omega arith, (lm, (omega arith, (omega arith, last))));
      size = laid-length n m value config e;
      kind = omega arith;
      spare = refl;
      n = add-zero n;
      m = add-zero m;
      off = read_bytes 2 (full n) (promise.within_16 n (full n) few (all-within n few));
      round = refl;
      copies = λ i s p q. rw (add-zero n) (copy_right (laid_head n m) copies copies_at (copy_size * (i * n + s)) refl
          ∙ repeated_copy (n * m) (i * n + s) x (copy_length 0 value 0 config e) (omega (arith, mul-le-mul_right n p))
          ∙ copy_read 0 value 0 config (omega arith) lv (omega arith) e);
    }

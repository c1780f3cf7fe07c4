-- Laws of the standard form: it is valid, the same station sets pass, and it hangs on these alone.
use mathlib.Core.Path.{◌≡◌, refl, sym, ap, ◌∙◌}
use mathlib.Core.Bool.{Bool, true}
use mathlib.Core.List.{List, []}
use mathlib.Core.Logic.Iff
use mathlib.Core.Logic.{◌↔◌}
use Prim.Native.Nat.{ℕ, ◌+◌, ◌*◌, ◌^◌, ◌≤◌, ◌<◌}
use native.Mathlib.Nat.{not-suc-le-zero}
use native.Mathlib.Omega.{arith}
use lib.ListN.{length, get_or, replicate, get_or-replicate}
use borrow.Author.Tests.{ltb-true}
use Rattle.basics.specs.Bytes.{bytes_of, AreBytes}
use Rattle.basics.specs.Listing.{Listing}
use Rattle.basics.specs.Tests.{Some}
use Rattle.basics.proofs.Tests.{clash, same_test, and_left, and_right}
use Rattle.basics.proofs.Bytes.{number_two}
use Rattle.basics.proofs.Listing.{same_listing, listing, passing_same, passing_grows, passing-places, same_numbers}
use Rattle.quorum.specs.Sets.{member, used, within}
use Rattle.quorum.specs.Configurations.{config_size, set_at, read_set, write_set, valid, holds_read, holds_write}
use Rattle.quorum.specs.Promise.{◌⊆◌, QuorumIn, SamePasses, Side, Valid}
use Rattle.quorum.proofs.Promise.{promise}
use Rattle.form.specs.Sides.{places, side_bytes, config_bytes, SideLists}
use Rattle.form.specs.Form.{is_set_of, stays, form_sets, standard_form, SmallestOf}
use Rattle.form.proofs.Places.{places_same, length_config, bytes_config, read_back, written_back}
use Rattle.form.proofs.Sides.{same_lists, Filled, two_bytes, lists, packed}
use Rattle.form.proofs.Smallest.{stays-used, stays_place, stays-smallest, holds-stays, stays_there}

-- the sets of a side that stay
abbrev pub Staying : (ℕ → ℕ) → ℕ → Type 0
Staying side x = stays side x ≡ true

-- a test asks for the station sets that hold a set of the side
abbrev pub Asks : (ℕ → ℕ) → (ℕ → Bool) → Type 0
Asks side passes = (set : ℕ) → (passes set ≡ true) ↔ QuorumIn side set

-- ---- one side
module _ (n : ℕ) (side : ℕ → ℕ) (few : n ≤ 16) (s : Side n side) where
  -- the numbers below 2 ^ n are the sets of stations below n, and each set that stays is one
  stays_within : (x : ℕ) → Staying side x → (i : ℕ) → member x i ≡ true → i < n
  stays_within x e i m = let at = stays_place side x e in s.in_range at.0 at.1 i (rw at.2 m)

  pub form_listing : Listing (Staying side) (form_sets n side)
  unfolding form_sets within
  form_listing =
      same_listing _ _ _ (λ x. (λ p. p.1, λ e. (ltb-true x (2 ^ n) (promise.member_within n x (stays_within x e)), e))) (listing (stays side) (2 ^ n))

  -- there is room for them: they are not more than the places
  form_room : length (form_sets n side) ≤ 8
  unfolding form_sets stays is_set_of
  form_room =
      let more = passing_grows (stays side) _ (2 ^ n) (λ x e. and_right (used x) _ (and_left _ _ e)) in
      omega (arith, more, passing-places side 8 (2 ^ n))

  -- a side into which they were written
  module _ (form : ℕ → ℕ) (back : (k : ℕ) → k < 8 → get_or (form_sets n side) k 0 < 65536 → form k ≡ get_or (form_sets n side) k 0) where
    pub form_filled : Filled (Staying side) (form_sets n side) form
    form_filled =
        record { listed = form_listing; room = form_room; place = λ k l. back k l (two_bytes n (Staying side) _ few form_listing stays_within k) }

    pub form_lists : SideLists (Staying side) form
    form_lists = lists form_filled

    pub form_quorum : (set : ℕ) → QuorumIn form set ↔ QuorumIn side set
    form_quorum set = (
      λ q. let at = stays_place side (form q.0) (form_lists.only q.0 q.1 q.2.0) in
          (at.0, at.1, (rw at.2 q.2.0, rw at.2 q.2.1)),
      λ q. let x = holds-stays side set q in
          let at = form_lists.every x.0 x.1 in
          (at.0, at.1, (rw at.2 (stays-used side x.0 x.1), rw at.2 x.2)),
    )

    pub form_side : Side n form
    form_side =
        record {
          packed = packed form_filled (stays-used side);
          some = let h = s.some in
              let q = (form_quorum (side h.0)).1 (h.0, h.1, (h.2, λ i m. m)) in
              (q.0, q.1, q.2.0);
          in_range = λ k l i m. stays_within (form k) (form_lists.only k l ((promise.used_member (form k)).1 (i, m))) i m;
        }

    -- by the tests for the two sides: the same station sets pass, and the form has the smallest of these
    module _ (passes formed : ℕ → Bool) (asks : Asks side passes) (asks-form : Asks form formed) where
      pub form_passing : (set : ℕ) → formed set ≡ passes set
      form_passing set =
          same_test _ _ (λ e. (asks set).1 ((form_quorum set).0 ((asks-form set).0 e))) (λ e. (asks-form set).1 ((form_quorum set).1 ((asks set).0 e)))

      pub form_smallest : SideLists (SmallestOf passes) form
      form_smallest =
          same_lists _ _ _ (λ x. Iff.trans (stays-smallest side x) (
            λ s. record { enough = (asks x).1 s.enough; least = λ b lies e. s.least b lies ((asks b).0 e) },
            λ s. record { enough = (asks x).0 s.enough; least = λ b lies q. s.least b lies ((asks b).1 q) },
          )) form_lists

-- ---- two sides with the same sets that stay, whatever the numbers of stations, are written alike
form_same : (n m : ℕ) (s t : ℕ → ℕ) → n ≤ 16 → m ≤ 16 → Side n s → Side m t → ((x : ℕ) → Staying s x ↔ Staying t x)
    → (k : ℕ) → get_or (form_sets n s) k 0 ≡ get_or (form_sets m t) k 0
form_same n m s t p q a b same =
    same_numbers (Staying t) _ _ (same_listing _ _ _ same (form_listing n s p a)) (form_listing m t q b)

pub config_same : (reads writes others more : List ℕ) → ((k : ℕ) → get_or reads k 0 ≡ get_or others k 0) → ((k : ℕ) → get_or writes k 0 ≡ get_or more k 0)
    → config_bytes reads writes ≡ config_bytes others more
unfolding config_bytes side_bytes
config_same reads writes others more e d =
    rw (places_same (λ k. get_or reads k 0) (λ k. get_or others k 0) 8 (λ k _. e k), places_same (λ k. get_or writes k 0) (λ k. get_or more k 0) 8 (λ k _. d k))

-- sides of which the same station sets hold a set, those of n stations at least
asked_same : (s t : ℕ → ℕ) (p q : ℕ → Bool) → Asks s p → Asks t q → (set : ℕ) → p set ≡ q set → QuorumIn s set ↔ QuorumIn t set
asked_same s t p q ask other set e = (λ h. (other set).0 (sym e ∙ (ask set).1 h), λ h. (ask set).0 (e ∙ (other set).1 h))

staying_same : (n : ℕ) (s t : ℕ → ℕ) → n ≤ 16 → Side n s → Side n t → ((set : ℕ) → within n set ≡ true → QuorumIn s set ↔ QuorumIn t set)
    → (x : ℕ) → Staying s x ↔ Staying t x
staying_same n s t few a b same x = (
  λ e. stays_there s t x (λ set lies. same set (inside s a e set lies)) e,
  λ e. stays_there t s x (λ set lies. Iff.symm (same set (inside t b e set lies))) e,
)
  where
    inside : (side : ℕ → ℕ) → Side n side → Staying side x → (set : ℕ) → set ⊆ x → within n set ≡ true
    inside side whole e set lies = promise.member_within n set (λ i m. stays_within n side few whole x e i (lies i m))

-- ---- the form hangs on what passes alone
sets_same : (n : ℕ) (s t : ℕ → ℕ) → ((set : ℕ) → QuorumIn s set ↔ QuorumIn t set) → form_sets n s ≡ form_sets n t
unfolding form_sets
sets_same n s t same =
    passing_same (stays s) (stays t) (2 ^ n)
    (λ x. same_test _ _ (stays_there s t x (λ set _. same set)) (stays_there t s x (λ set _. Iff.symm (same set))))

pub same_passes_form : (n : ℕ) (c d : List ℕ) → SamePasses c d → standard_form n c ≡ standard_form n d
unfolding standard_form
same_passes_form n c d p =
    rw (
      sets_same n (read_set c) (read_set d) (λ set. asked_same _ _ _ _ (promise.holds_read_lem c) (promise.holds_read_lem d) set (p.reads set)),
      sets_same n (write_set c) (write_set d) (λ set. asked_same _ _ _ _ (promise.holds_write_lem c) (promise.holds_write_lem d) set (p.writes set)),
    )

-- ---- the form of a valid configuration
pub form_length : (n : ℕ) (c : List ℕ) → length (standard_form n c) ≡ config_size
unfolding standard_form config_bytes side_bytes
form_length n c = length_config _ _

pub form_bytes : (n : ℕ) (c : List ℕ) → AreBytes (standard_form n c)
unfolding standard_form config_bytes side_bytes
form_bytes n c = bytes_config _ _

module _ (n : ℕ) (c : List ℕ) (v : valid n c ≡ true) where
  abbrev facts : Valid n c
  facts = (promise.valid_exactly n c).0 v

  abbrev form : List ℕ
  form = standard_form n c

  pub read_place_lem : (k : ℕ) → k < 8 → get_or (form_sets n (read_set c)) k 0 < 65536 → read_set form k ≡ get_or (form_sets n (read_set c)) k 0
  unfolding standard_form config_bytes side_bytes
  read_place_lem = read_back _ _

  pub write_place : (k : ℕ) → k < 8 → get_or (form_sets n (write_set c)) k 0 < 65536 → write_set form k ≡ get_or (form_sets n (write_set c)) k 0
  unfolding standard_form config_bytes side_bytes
  write_place = written_back _ _

  -- every set of the form is one of the configuration's
  pub reads_given : (k : ℕ) → k < 8 → used (read_set form k) ≡ true → Some 8 (λ j. read_set c j ≡ read_set form k)
  reads_given k l u = stays_place (read_set c) _ ((form_lists n (read_set c) facts.small facts.reads (read_set form) read_place_lem).only k l u)

  pub writes_given : (k : ℕ) → k < 8 → used (write_set form k) ≡ true → Some 8 (λ j. write_set c j ≡ write_set form k)
  writes_given k l u = stays_place (write_set c) _ ((form_lists n (write_set c) facts.small facts.writes (write_set form) write_place).only k l u)

  -- so any two of different sides meet
  pub form_valid : valid n form ≡ true
  form_valid =
      let few = facts.small in
      (promise.valid_exactly n form).1 (record {
        positive = facts.positive;
        small = few;
        long = form_length n c;
        reads = form_side n (read_set c) few facts.reads (read_set form) read_place_lem;
        writes = form_side n (write_set c) few facts.writes (write_set form) write_place;
        meet = λ j k l m p q.
            let r = reads_given j l p in
            let w = writes_given k m q in
            rw (r.2, w.2) at (facts.meet r.0 w.0 r.1 w.1 (rw r.2 p) (rw w.2 q));
      })

  pub form_reads : (set : ℕ) → holds_read form set ≡ holds_read c set
  form_reads =
      form_passing n (read_set c) facts.small facts.reads (read_set form) read_place_lem _ _ (promise.holds_read_lem c) (promise.holds_read_lem form)

  pub form_writes : (set : ℕ) → holds_write form set ≡ holds_write c set
  form_writes =
      form_passing n (write_set c) facts.small facts.writes (write_set form) write_place _ _ (promise.holds_write_lem c) (promise.holds_write_lem form)

  -- its sets are the smallest that pass
  pub reads_smallest : SideLists (SmallestOf (holds_read c)) (read_set form)
  reads_smallest =
      form_smallest n (read_set c) facts.small facts.reads (read_set form) read_place_lem _ _ (promise.holds_read_lem c) (promise.holds_read_lem form)

  pub writes_smallest : SideLists (SmallestOf (holds_write c)) (write_set form)
  writes_smallest =
      form_smallest n (write_set c) facts.small facts.writes (write_set form) write_place _ _ (promise.holds_write_lem c) (promise.holds_write_lem form)

-- so the same station sets pass in a configuration and in its form, and of course in one that is the same
pub form_spells : (n : ℕ) (c : List ℕ) → valid n c ≡ true → SamePasses c (standard_form n c)
form_spells n c v = record { reads = λ set. sym (form_reads n c v set); writes = λ set. sym (form_writes n c v set) }

pub spells_itself : {c d : List ℕ} → c ≡ d → SamePasses c d
spells_itself e = record { reads = λ set. ap (λ x. holds_read x set) e; writes = λ set. ap (λ x. holds_write x set) e }

-- one form tells that the same sets pass
pub form_passes : (n m : ℕ) (c d : List ℕ) → valid n c ≡ true → valid m d ≡ true → standard_form n c ≡ standard_form m d → SamePasses c d
form_passes n m c d v w e =
    record {
      reads = λ set. sym (form_reads n c v set) ∙ ap (λ f. holds_read f set) e ∙ form_reads m d w set;
      writes = λ set. sym (form_writes n c v set) ∙ ap (λ f. holds_write f set) e ∙ form_writes m d w set;
    }

-- for one form it is enough that the sets of the n stations pass alike
module _ (n : ℕ) (c d : List ℕ) (v : valid n c ≡ true) (w : valid n d ≡ true) where
  pub stations_form : ((set : ℕ) → within n set ≡ true → holds_read c set ≡ holds_read d set)
      → ((set : ℕ) → within n set ≡ true → holds_write c set ≡ holds_write d set) → standard_form n c ≡ standard_form n d
  unfolding standard_form
  stations_form reads writes =
      let a = facts n c v in
      let b = facts n d w in
      let few = a.small in
      config_same _ _ _ _
      (form_same n n (read_set c) (read_set d) few few a.reads b.reads
      (staying_same n _ _ few a.reads b.reads
      (λ set i. asked_same _ _ _ _ (promise.holds_read_lem c) (promise.holds_read_lem d) set (reads set i))))
      (form_same n n (write_set c) (write_set d) few few a.writes b.writes
      (staying_same n _ _ few a.writes b.writes
      (λ set i. asked_same _ _ _ _ (promise.holds_write_lem c) (promise.holds_write_lem d) set (writes set i))))

-- a form is its own form
pub own_form : (n : ℕ) (c : List ℕ) → valid n c ≡ true → standard_form n (standard_form n c) ≡ standard_form n c
own_form n c v =
    sym (same_passes_form n c (standard_form n c) (form_spells n c v))

-- the form does not hang on the number of stations for which the configuration is valid
pub any_stations : (n m : ℕ) (c : List ℕ) → valid n c ≡ true → valid m c ≡ true → standard_form n c ≡ standard_form m c
unfolding standard_form
any_stations n m c v w =
    let a = facts n c v in
    let b = facts m c w in
    config_same _ _ _ _
    (form_same n m (read_set c) (read_set c) a.small b.small a.reads b.reads (λ x. Iff.rfl))
    (form_same n m (write_set c) (write_set c) a.small b.small a.writes b.writes (λ x. Iff.rfl))

wider : (n m : ℕ) (side : ℕ → ℕ) → n ≤ m → Side n side → Side m side
wider n m side l s = record { packed = s.packed; some = s.some; in_range = λ k h i q. let r = s.in_range k h i q in omega arith }

-- in particular 16 will do, so that configurations of different stations with the same passes have one form
pub form_any : (n : ℕ) (c : List ℕ) → valid n c ≡ true → standard_form n c ≡ standard_form 16 c
form_any n c v =
    let a = facts n c v in
    any_stations n 16 c v ((promise.valid_exactly 16 c).1 (record {
      positive = omega arith;
      small = omega arith;
      long = a.long;
      reads = wider n 16 _ a.small a.reads;
      writes = wider n 16 _ a.small a.writes;
      meet = a.meet;
    }))

pub passes_form : (n m : ℕ) (c d : List ℕ) → valid n c ≡ true → valid m d ≡ true → SamePasses c d → standard_form n c ≡ standard_form m d
passes_form n m c d v w p = form_any n c v ∙ same_passes_form 16 c d p ∙ sym (form_any m d w)

-- ---- bytes that are zero, as the target of a round that is no change, have no sets, and are their own form
no_set : (place : ℕ) → place < 16 → set_at (replicate config_size 0) place ≡ 0
unfolding set_at
no_set place l =
    number_two (replicate config_size 0) (2 * place)
    ∙ rw (get_or-replicate {A = ℕ} config_size (2 * place) 0 0 (omega arith), get_or-replicate {A = ℕ} config_size (2 * place + 1) 0 0 (omega arith))

none_stay : (n : ℕ) (side : ℕ → ℕ) → ((k : ℕ) → k < 8 → side k ≡ 0) → (k : ℕ) → get_or (form_sets n side) k 0 ≡ get_or {A = ℕ} [] k 0
unfolding form_sets
none_stay n side empty =
    same_numbers _ _ [] (listing (stays side) (2 ^ n)) (record {
      only = λ k l. absurd (not-suc-le-zero l);
      every = λ x p. let at = stays_place side x p.1 in
          let nothing : x ≡ 0 = sym at.2 ∙ empty at.0 at.1 in
          let some = (promise.used_member 0).0 (sym (ap used nothing) ∙ stays-used side x p.1) in
          clash some.1 (promise.member_empty some.0);
      rises = λ j k m l. absurd (not-suc-le-zero l);
    })

blank : config_bytes [] [] ≡ replicate config_size 0
unfolding bytes_of places side_bytes config_bytes
blank = refl

pub form_nothing : (n : ℕ) → standard_form n (replicate config_size 0) ≡ replicate config_size 0
unfolding standard_form read_set write_set
form_nothing n =
    config_same _ _ [] [] (none_stay n _ (λ k l. no_set k (omega arith))) (none_stay n _ (λ k l. no_set (8 + k) (omega arith))) ∙ blank

-- The state after each call that is done, and that it is sound where the state before it was.
use mathlib.Core.Path.{◌≡◌, refl, sym, ◌∙◌}
use mathlib.Core.Bool.{Bool, true, false, not, cond, ◌&&◌, ◌||◌}
use mathlib.Core.List.{List}
use Prim.Native.Nat.{ℕ, ◌≤◌, ◌<◌}
use native.Mathlib.Omega.{arith}
use lib.Dec.{eqb}
use borrow.Author.Tests.{eqb-true, eqb-false, not-true}
use Rattle.quorum.specs.Sets.{member, shares, within, join, remove, full}
use Rattle.quorum.specs.Configurations.{valid, config_size}
use Rattle.basics.proofs.Tests.{clash, by_cases, and_left, and_right, or_cases, fails}
use Rattle.quorum.proofs.Promise.{promise}
use Rattle.form.specs.Form.{standard_form}
use Rattle.layout.specs.Fields.{Copy, Kind, none, read, write, change, Round}
use Rattle.layout.specs.View.{State}
use Rattle.layout.specs.Updates.{no_target}
use Rattle.basics.proofs.Parts.{read_zeros}
use Rattle.layout.specs.Rounds.{with_polled, with_puts, with_poll, with_put, with_link}
use Rattle.layout.proofs.Fields.{opened}
use Rattle.layout.proofs.Soundness.{RoundFacts, StateSound}
use Rattle.layout.proofs.Held.{with_off, with_round, with_copies}
use Rattle.rules.specs.Calls.{Call, lay, open_read, open_write, open_change, poll, put, commit, abandon, link, reach, diagnose, plan, is_data, is_off}
use Rattle.rules.specs.Figures.{closing}
use Rattle.rules.specs.After.{stores}
use Rattle.rules.specs.After.{linked as linked_off}
use Rattle.rules.specs.Needs.{RightPut}
use Rattle.layout.proofs.Stored.{committed, all-within, started}

abbrev pub next : State → Call → State
next v (lay n m value config) = started v n m value (standard_form n config)
next v (open_read i) = with_round v (opened read i 0 no_target)
next v (open_write i value) = with_round v (opened write i value no_target)
next v (open_change i target) = with_round v (opened change i 0 (standard_form v.n target))
next v (poll s) = with_round v (with_poll v.round s)
next v (put s sort) = with_round v (with_put v.round s (is_data sort))
next v commit = with_round (with_copies v (committed v (stores (closing v v.round.kind) v.round.target))) (opened none 0 0 no_target)
next v abandon = with_round v (opened none 0 0 no_target)
next v (link s state) = with_round (with_off v (linked_off v s (is_off state))) (with_link v.round s (is_off state))
next v (reach i) = v
next v diagnose = v
next v (plan i) = v

-- ---- sets that share no station
apart : (a b : ℕ) → ((i : ℕ) → member a i ≡ true → member b i ≡ true → ⊥) → shares a b ≡ false
apart a b h =
    fails (shares a b) (λ e. let m = (promise.shares_member a b).0 e in h m.0 m.1 m.2)

no_member : (a b : ℕ) → shares a b ≡ false → (i : ℕ) → member a i ≡ true → member b i ≡ true → ⊥
no_member a b e i p q = clash ((promise.shares_member a b).1 (i, p, q)) e

member_removed : (a i s : ℕ) → member (remove a s) i ≡ true → (member a i ≡ true) × (i ≡ s → ⊥)
member_removed a i s e =
    let h = sym (promise.member_remove a i s) ∙ e in
    (and_left (member a i) (not (eqb i s)) h, eqb-false i s (not-true (eqb i s) (and_right (member a i) (not (eqb i s)) h)))

-- a put set of a sound state: stations below n that are on the bus
record PutSet (n off set : ℕ) : Type 0 where
  in_range : within n set ≡ true
  on : shares set off ≡ false

empty_set : (n off : ℕ) → PutSet n off 0
empty_set n off = record { in_range = promise.within_empty n; on = apart 0 off (λ i p q. clash p (promise.member_empty i)) }

module _ (n off set s : ℕ) (small : n ≤ 16) (below : s < n) (f : PutSet n off set) where
  member-joined : (a i : ℕ) → member (join a s) i ≡ true → (member a i || eqb i s) ≡ true
  member-joined a i e = sym (promise.member_join a i s (omega arith)) ∙ e

  -- a station on the bus joins it
  joined : member off s ≡ false → PutSet n off (join set s)
  joined out =
      record {
        in_range = promise.within_join n set s small f.in_range below;
        on = apart (join set s) off (λ i p q. or_cases (member set i) (eqb i s) (member-joined set i p)
            (λ h. no_member set off f.on i h q) (λ h. clash (rw (eqb-true i s h) at q) out));
      }

  -- a station goes off and is taken out of it, or comes on
  linked : (off? : Bool) → PutSet n (cond off? (join off s) (remove off s)) (cond off? (remove set s) set)
  linked true =
      record {
        in_range = promise.within_remove n set s f.in_range;
        on = apart (remove set s) (join off s) (λ i p q. let r = member_removed set i s p in
            or_cases (member off i) (eqb i s) (member-joined off i q) (no_member set off f.on i r.0) (λ h. r.1 (eqb-true i s h)));
      }
  linked false =
      record {
        in_range = f.in_range;
        on = apart set (remove off s) (λ i p q. no_member set off f.on i p (member_removed off i s q).0);
      }

-- a set of two that are alike
chosen : (P : ℕ → Type 0) (b : Bool) (x y : ℕ) → P x → P y → P (cond b x y)
chosen P true x y p q = p
chosen P false x y p q = q

-- ---- the facts of a round after each call
closed : (n : ℕ) → RoundFacts n (opened none 0 0 no_target) none
closed n = (refl, refl, refl, refl, refl, read_zeros config_size)

remove_empty : (off? : Bool) (a s : ℕ) → a ≡ 0 → cond off? (remove a s) a ≡ 0
remove_empty true a s e =
    promise.same_members (remove a s) 0 (λ i p. rw e at (member_removed a i s p).0) (λ i p. clash p (promise.member_empty i))
remove_empty false a s e = e

module _ (n : ℕ) (r : Round) where
  facts_poll : (polled : ℕ) (k : Kind) → (k ≡ none → ⊥) → RoundFacts n r k → RoundFacts n (with_polled r polled) k
  facts_poll polled none busy f = absurd (busy refl)
  facts_poll polled read busy f = f
  facts_poll polled write busy f = f
  facts_poll polled change busy f = f

  -- a put that is right: none in a read, and in a write no configuration put
  facts_put : (sort d c : ℕ) (k : Kind) → RightPut k sort → RoundFacts n r k → RoundFacts n (with_puts r d (cond (is_data sort) r.config_puts c)) k
  facts_put sort d c none w f = absurd w
  facts_put sort d c read w f = absurd w
  facts_put sort d c write w f = rw w f
  facts_put sort d c change w f = f

  facts_link : (off? : Bool) (s : ℕ) (k : Kind) → RoundFacts n r k
      → RoundFacts n (with_puts r (cond off? (remove r.data_puts s) r.data_puts) (cond off? (remove r.config_puts s) r.config_puts)) k
  facts_link off? s none f = (f.0, f.1, remove_empty off? _ s f.2, remove_empty off? _ s f.3, f.4, f.5)
  facts_link off? s read f = (remove_empty off? _ s f.0, remove_empty off? _ s f.1, f.2, f.3)
  facts_link off? s write f = (remove_empty off? _ s f.0, f.1)
  facts_link off? s change f = f

  -- only a change has configuration puts, and its target is valid
  target_valid : (k : Kind) → RoundFacts n r k → (s : ℕ) → member r.config_puts s ≡ true → valid n r.target ≡ true
  target_valid none f s m = clash (rw f.3 at m) (promise.member_empty s)
  target_valid read f s m = clash (rw f.1 at m) (promise.member_empty s)
  target_valid write f s m = clash (rw f.0 at m) (promise.member_empty s)
  target_valid change f s m = f.1

-- ---- a sound state after each call
module _ (v : State) (f : StateSound v) where
  abbrev d : ℕ
  d = v.round.data_puts

  abbrev c : ℕ
  c = v.round.config_puts

  data_set : PutSet v.n v.off d
  data_set = record { in_range = f.data_puts; on = f.data_on }

  config_set : PutSet v.n v.off c
  config_set = record { in_range = f.config_puts; on = f.config_on }

  -- other parts for a sound state
  changed : (off : ℕ) (r : Round) (copies : ℕ → ℕ → Copy) → within v.n off ≡ true → r.item < v.m → within v.n r.polled ≡ true
      → PutSet v.n off r.data_puts → PutSet v.n off r.config_puts → RoundFacts v.n r r.kind
      → ((i s : ℕ) → i < v.m → s < v.n → valid v.n (copies i s).config ≡ true) → StateSound (with_copies (with_round (with_off v off) r) copies)
  changed off r copies o i p x y g h =
      record {
        positive = f.positive;
        small = f.small;
        some_item = f.some_item;
        few_items = f.few_items;
        item = i;
        off = o;
        polled = p;
        data_puts = x.in_range;
        config_puts = y.in_range;
        data_on = x.on;
        config_on = y.on;
        round = g;
        configs = h;
      }

  pub renewed : (k : Kind) (i x : ℕ) (target : List ℕ) → i < v.m → RoundFacts v.n (opened k i x target) k → StateSound (with_round v (opened k i x target))
  renewed k i x target l g =
      let e = empty_set v.n v.off in
      changed v.off (opened k i x target) v.copies f.off l (promise.within_empty v.n) e e g f.configs

  pub polled_sound : (s : ℕ) → s < v.n → (v.round.kind ≡ none → ⊥) → StateSound (next v (poll s))
  polled_sound s l busy =
      let p = join v.round.polled s in
      changed v.off (with_poll v.round s) v.copies f.off f.item (promise.within_join v.n v.round.polled s f.small f.polled l)
      data_set config_set (facts_poll v.n v.round p v.round.kind busy f.round) f.configs

  pub put_sound : (s sort : ℕ) → s < v.n → member v.off s ≡ false → RightPut v.round.kind sort → StateSound (next v (put s sort))
  put_sound s sort l on right =
      let d? = is_data sort in
      let data-joined = joined v.n v.off d s f.small l data_set on in
      let config-joined = joined v.n v.off c s f.small l config_set on in
      changed v.off (with_put v.round s d?) v.copies f.off f.item f.polled
      (chosen (PutSet v.n v.off) d? (join d s) d data-joined data_set) (chosen (PutSet v.n v.off) d? c (join c s) config_set config-joined)
      (facts_put v.n v.round sort (cond d? (join d s) d) (join c s) v.round.kind right f.round) f.configs

  -- whatever the counters are that are stored with the target
  stored_sound : (new : Copy) → new.config ≡ v.round.target → StateSound (with_copies v (committed v new))
  stored_sound new e =
      changed v.off v.round (committed v new) f.off f.item f.polled data_set config_set f.round
      (λ i s p q. by_cases (λ (b : Bool). valid v.n (cond b new.config (v.copies i s).config) ≡ true) (eqb i v.round.item && member c s)
      (λ h. rw e (target_valid v.n v.round v.round.kind f.round s (and_right (eqb i v.round.item) _ h))) (λ _. f.configs i s p q))

  pub closed-sound : StateSound (next v abandon)
  closed-sound = renewed none 0 0 no_target f.some_item (closed v.n)

  pub link_sound : (s state : ℕ) → s < v.n → StateSound (next v (link s state))
  link_sound s state l =
      let off? = is_off state in
      changed (linked_off v s off?) (with_link v.round s off?) v.copies
      (chosen (λ (x : ℕ). within v.n x ≡ true) off? (join v.off s) (remove v.off s)
      (promise.within_join v.n v.off s f.small f.off l) (promise.within_remove v.n v.off s f.off)) f.item f.polled
      (linked v.n v.off d s f.small l data_set off?) (linked v.n v.off c s f.small l config_set off?)
      (facts_link v.n v.round off? s v.round.kind f.round) f.configs

pub committed_sound : (v : State) → StateSound v → StateSound (next v commit)
committed_sound v f =
    let new = stores (closing v v.round.kind) v.round.target in
    closed-sound (with_copies v (committed v new)) (stored_sound v f new refl)

pub laid-sound : (v : State) (n m value : ℕ) (config : List ℕ) → (1 ≤ n) × (n ≤ 16) × (1 ≤ m) × (m ≤ 32) → valid n config ≡ true
    → StateSound (started v n m value config)
laid-sound v n m value config a h =
    let e = empty_set n (full n) in
    record {
      positive = a.0;
      small = a.1;
      some_item = a.2;
      few_items = a.3;
      item = a.2;
      off = all-within n a.1;
      polled = e.in_range;
      data_puts = e.in_range;
      config_puts = e.in_range;
      data_on = e.on;
      config_on = e.on;
      round = closed n;
      configs = λ i s p q. h;
    }

-- Every station is off after a lay, and links alone bring one on: by induction on the list. A link call per station, by induction on their number.
use mathlib.Core.Path.{◌≡◌, refl, sym, ap, ◌∙◌}
use mathlib.Core.Bool.{Bool, true, false, not, cond, ◌&&◌, ◌||◌}
use mathlib.Core.List.{List, [], ◌∷◌}
use mathlib.Core.Logic.{◌↔◌, ◌⊎◌, inl, inr, ⊎_elim}
use Prim.Native.Nat.{ℕ, zero, suc, ◌+◌, ◌≤◌, ◌<◌}
use native.Mathlib.Omega.{arith}
use lib.Dec.{eqb, ltb}
use borrow.Author.Tests.{lt-ltb, ltb-true, eqb-true, eqb-false, not-true}
use Rattle.basics.specs.Bytes.{AreBytes}
use Rattle.basics.proofs.Tests.{clash, by_cases, and_left, and_right}
use Rattle.quorum.specs.Sets.{member, remove}
use Rattle.quorum.specs.Promise.{QuorumIn}
use Rattle.quorum.proofs.Promise.{promise}
use Rattle.form.specs.Form.{standard_form}
use Rattle.layout.specs.Fields.{none}
use Rattle.layout.specs.Soundness.{sound}
use Rattle.layout.specs.View.{Table, State, view, on_bus, heard}
use Rattle.layout.specs.Updates.{set_off, laid}
use Rattle.layout.proofs.Fields.{off_only, off_round, off_bytes}
use Rattle.layout.proofs.Again.{off_over, own_off, own-puts}
use Rattle.layout.proofs.Soundness.{is_sound_lem, sound_head}
use Rattle.plan.proofs.Starts.{start-part}
use Rattle.rules.specs.Calls.{Call, lay, open_read, open_write, open_change, poll, put, commit, abandon, link, reach, diagnose, plan}
use Rattle.rules.specs.Calls.{data_sort, config_sort, on_state}
use Rattle.rules.specs.Passed.{Passable}
use Rattle.rules.specs.Rules.{first, tests, reading_over, wrong_put, spent_at_put}
use Rattle.rules.specs.Reply.{reply_of, reply, after}
use Rattle.rules.specs.After.{done}
use Rattle.rules.specs.Lists.{replies, after_all, AllPassable}
use Rattle.rules.specs.Needs.{needs, Allowed, InHearing}
use Rattle.rules.specs.Demand1.{ZeroFigures}
use Rattle.rules.specs.OffAtFirst.{on_after, on_after_all, Bus, links, OffAtFirst}
use Rattle.rules.proofs.Judged.{numbered, a_round, at_station, sound-number}
use Rattle.rules.proofs.Demand1.{refusal_changes_nothing, reply_figures}
use Rattle.rules.proofs.States.{next}
use Rattle.rules.proofs.Steps.{on_bus_lem, reach_step}
use Rattle.rules.proofs.Laws.{done-after, done_allowed, done-step, next-view, bytes_kept}
use Rattle.rules.proofs.Kept.{after-sound, stays-sound}

-- the stations of the off set are those that are not on
abbrev OffBut : State → (ℕ → Bool) → Type 0
OffBut v on = (s : ℕ) → s < v.n → member v.off s ≡ not (on s)

-- ---- one call
-- a station that joins the off set, and one that leaves it
joins : (b o : Bool) → (not o || b) ≡ not (cond b false o)
joins true true = refl
joins true false = refl
joins false true = refl
joins false false = refl

leaves : (b o : Bool) → (not o && not b) ≡ not (cond b true o)
leaves true true = refl
leaves true false = refl
leaves false true = refl
leaves false false = refl

module _ (t : Table) where
  abbrev v : State
  v = view t

  -- a lay takes every station off, whatever the table was
  laid_off : (n m value : ℕ) (config : List ℕ) → Allowed v (lay n m value config) → OffBut (next v (lay n m value config)) (λ s. false)
  unfolding needs
  laid_off n m value config a s l = promise.member_full n s a.0.1 ∙ lt-ltb s n l

  link_moves : (on : ℕ → Bool) → OffBut v on → (k state : ℕ) → Allowed v (link k state) → OffBut (next v (link k state)) (λ s. on_after s (on s) (link k state))
  unfolding needs
  link_moves on h k state a s l =
      let below = a.1.0.0 in
      let few = (is_sound_lem t a.0).small in
      ⊎_elim (λ q. rw q (promise.member_join v.off s k (omega arith) ∙ rw (h s l) (joins (eqb s k) (on s))))
      (λ q. rw q (promise.member_remove v.off s k ∙ rw (h s l) (leaves (eqb s k) (on s)))) a.1.0.1

  -- every call
  moves : (on : ℕ → Bool) → OffBut v on → (c : Call) → Allowed v c → OffBut (next v c) (λ s. on_after s (on s) c)
  moves on h (lay n m value config) a = laid_off n m value config a
  moves on h (open_read i) a = h
  moves on h (open_write i value) a = h
  moves on h (open_change i target) a = h
  moves on h (poll k) a = h
  moves on h (put k sort) a = h
  moves on h commit a = h
  moves on h abandon a = h
  moves on h (link k state) a = link_moves on h k state a
  moves on h (reach i) a = h
  moves on h diagnose a = h
  moves on h (plan i) a = h

-- the table after a call that is done has the off set of the state after it
seen : (t : Table) (c : Call) → (reply t c).number ≡ 0 → AreBytes t → Passable c → (on : ℕ → Bool) → OffBut (next (view t) c) on → OffBut (view (after t c)) on
seen t c e b p on h s l = let x = next-view t c e b p in rw x.off (h s (rw x.n at l))

-- any call: one that is refused moves none
goes_on : (t : Table) (c : Call) (on : ℕ → Bool) → AreBytes t → Passable c → OffBut (view t) on
    → OffBut (view (after t c)) (λ s. cond (eqb (reply t c).number 0) (on_after s (on s) c) (on s))
goes_on t c on b p h =
    by_cases (λ (x : Bool). OffBut (view (after t c)) (λ s. cond x (on_after s (on s) c) (on s))) (eqb (reply t c).number 0)
    (λ q. let e = eqb-true (reply t c).number 0 q in seen t c e b p (λ s. on_after s (on s) c) (moves t on h c (done_allowed t c e)))
    (λ q. rw (refusal_changes_nothing t c (eqb-false (reply t c).number 0 q)) h)

-- ---- a list of calls
-- what is kept of the table
record Settled (t : Table) (on : ℕ → Bool) : Type 0 where
  bytes : AreBytes t
  is_sound : sound t ≡ true
  off_but : OffBut (view t) on

laid_settled : (t : Table) (n m value : ℕ) (config : List ℕ) → AreBytes t → Passable (lay n m value config) → (reply t (lay n m value config)).number ≡ 0
    → Settled (after t (lay n m value config)) (λ s. false)
laid_settled t n m value config b p e =
    let c = lay n m value config in
    record {
      bytes = bytes_kept t c b p;
      is_sound = after-sound t c b p e;
      off_but = seen t c e b p (λ s. false) (laid_off t n m value config (done_allowed t c e));
    }

settled : (t : Table) (calls : List Call) (on : ℕ → Bool) → AllPassable calls → Settled t on
    → Settled (after_all t calls) (λ s. on_after_all s (on s) calls (replies t calls))
unfolding after_all replies
settled t [] on p f = f
settled t (c ∷ calls) on p f =
    settled (after t c) calls _ p.1 (record {
      bytes = bytes_kept t c f.bytes p.0;
      is_sound = stays-sound t c f.bytes p.0 f.is_sound;
      off_but = goes_on t c on f.bytes p.0 f.off_but;
    })

-- ---- what follows
-- a number that is 6 where a station is not on, and another where it is
six : (on : Bool) (k : ℕ) → (k ≡ 6 → ⊥) → (cond (not on) 6 k ≡ 6) ↔ (on ≡ false)
six true k other = (λ e. absurd (other e), λ e. clash refl e)
six false k other = (λ e. refl, λ e. refl)

-- the numbers behind 6, of a poll and of a put
not_at_poll : (over : Bool) → ◌≡◌ {A = ℕ} (cond over 7 0) 6 → ⊥
not_at_poll true e = omega arith
not_at_poll false e = omega arith

not_at_put : (unheard wrong spent : Bool) → ◌≡◌ {A = ℕ} (cond unheard 8 (cond wrong 9 (cond spent 10 0))) 6 → ⊥
not_at_put true wrong spent e = omega arith
not_at_put false true spent e = omega arith
not_at_put false false true e = omega arith
not_at_put false false false e = omega arith

module _ (t : Table) (on : ℕ → Bool) (f : Settled t on) where
  asked : (view t).is_sound ≡ true
  unfolding view
  asked = f.is_sound

  polls : (s : ℕ) → s < (view t).n → ((view t).round.kind ≡ none → ⊥) → ((reply t (poll s)).number ≡ 6) ↔ (on s ≡ false)
  unfolding reply_of first tests
  polls s l busy =
      rw (sound-number (view t) (poll s) refl asked, lt-ltb s (view t).n l, (a_round (view t).round.kind).1 busy, f.off_but s l)
      (six (on s) _ (not_at_poll (reading_over (view t))))

  puts : (s sort : ℕ) → s < (view t).n → (sort ≡ data_sort) ⊎ (sort ≡ config_sort) → ((view t).round.kind ≡ none → ⊥)
      → ((reply t (put s sort)).number ≡ 6) ↔ (on s ≡ false)
  unfolding reply_of first tests
  puts s sort l listed busy =
      let k = (view t).round.kind in
      let there = (at_station (view t).n s sort data_sort config_sort).1 (l, listed) in
      rw (sound-number (view t) (put s sort) refl asked, there, (a_round k).1 busy, f.off_but s l)
      (six (on s) _ (not_at_put (not (heard (view t))) (wrong_put k sort) (spent_at_put (view t) k sort)))

  abbrev NoneOn : Type 0
  NoneOn = (s : ℕ) → s < (view t).n → on s ≡ false

  -- where none is on, no quorum lies within the stations on the bus
  none_held : NoneOn → (side : ℕ → ℕ) (set : ℕ) → ((s : ℕ) → member set s ≡ (ltb s (view t).n && not (member (view t).off s))) → QuorumIn side set → ⊥
  none_held none-on side set is-on (k, l, (u, inside)) =
      let x = (promise.used_member (side k)).0 u in
      let s = x.0 in
      let e = sym (is-on s) ∙ inside s x.1 in
      let below = ltb-true s (view t).n (and_left _ _ e) in
      clash (and_right (ltb s (view t).n) _ e) (rw (f.off_but s below, none-on s below) refl)

  reached : NoneOn → (i : ℕ) → i < (view t).m → ((reply t (reach i)).number ≡ 0) × ZeroFigures (reply t (reach i))
  unfolding needs
  reached none-on i l =
      let e = (numbered.done_exactly t (reach i)).1 (asked, (l, tt)) in
      let r = reach_step (view t) i (is_sound_lem t asked) (reply t (reach i)) (reply_figures t (reach i) e) in
      (e, (r.unheard.1 (λ g h. none_held none-on _ (on_bus (view t)) r.is_on h.1), r.no_other.1, r.no_other.2))

  -- nor is there a station in a start
  out_of_hearing : NoneOn → (i : ℕ) → i < (view t).m → (reply t (plan i)).number ≡ 15
  unfolding needs
  out_of_hearing none-on i l = (numbered.number_exactly t (plan i) 15).1 (inr (asked, inr (l, inl (no_start, refl))))
    where
      no_start : InHearing (view t) i → ⊥
      no_start (k, g, h) =
          let x = (on_bus_lem (view t) (is_sound_lem t asked).small g).0 (start-part (on_bus (view t)) k g h.0.in_set) in
          clash (rw (none-on g x.0) at (f.off_but g x.0)) x.1

  bus : Bus t on
  bus =
      record {
        off = f.off_but;
        polls = polls;
        puts = puts;
        reaches = reached;
        plans = out_of_hearing;
      }

-- ---- a link call per station
-- a link of a station to on is done, and changes the off set alone
link_done : (t : Table) → sound t ≡ true → (s : ℕ) → s < (view t).n → (reply t (link s on_state)).number ≡ 0
unfolding needs view
link_done t f s l = (numbered.done_exactly t (link s on_state)).1 (f, ((l, inr refl), tt))

link_bytes : (t : Table) → AreBytes t → sound t ≡ true → (s : ℕ) → s < (view t).n → after t (link s on_state) ≡ set_off t (remove (view t).off s)
unfolding done view
link_bytes t b f s l =
    let e = link_done t f s l in
    let h = sound_head t f in
    let off = remove (view t).off s in
    let same = off_round t h off in
    done-after t (link s on_state) e ∙ rw (← ap (λ r. r.data_puts) same, ← ap (λ r. r.config_puts) same)
    (own-puts (set_off t off) (rw (off_only t h off).size h) (off_bytes t b off))

-- the stations that are off are linked, one after the other
all_on : (count k : ℕ) (t : Table) → AreBytes t → sound t ≡ true → k + count ≤ (view t).n
    → ((i : ℕ) → member (view t).off i ≡ true → (k ≤ i) × (i < k + count)) → after_all t (links k count) ≡ set_off t 0
unfolding after_all
all_on zero k t b f few h =
    let none : (view t).off ≡ 0 = promise.same_members (view t).off 0
    (λ i m. let p = h i m in absurd (omega arith)) (λ i m. clash m (promise.member_empty i)) in
    sym (rw none at (own_off t (sound_head t f) b))
all_on (suc count) k t b f few h =
    let c = link k on_state in
    let l : k < (view t).n = omega arith in
    let e = link_done t f k l in
    let d = done-step t c e b tt in
    let rest = all_on count (suc k) (after t c) (bytes_kept t c b tt) (after-sound t c b tt e) (rw d.copies.n (omega arith))
    (λ i m. later i (sym ((d.comes_on refl).0 i) ∙ m)) in
    rest ∙ ap (λ u. set_off u 0) (link_bytes t b f k l) ∙ off_over t (sound_head t f) (remove (view t).off k) 0
  where
    later : (i : ℕ) → (member (view t).off i && not (eqb i k)) ≡ true → (suc k ≤ i) × (i < suc k + count)
    later i m =
        let x = h i (and_left (member (view t).off i) (not (eqb i k)) m) in
        let y = eqb-false i k (not-true (eqb i k) (and_right (member (view t).off i) (not (eqb i k)) m)) in
        (omega (arith, x, y), omega (arith, x))

all_linked : (t : Table) (n m value : ℕ) (config : List ℕ) → AreBytes t → Passable (lay n m value config) → (reply t (lay n m value config)).number ≡ 0
    → after_all t (lay n m value config ∷ links 0 n) ≡ set_off (laid n m value (standard_form n config)) 0
unfolding after_all done
all_linked t n m value config b p e =
    let c = lay n m value config in
    let d = done-step t c e b p in
    all_on n 0 (after t c) (bytes_kept t c b p) (after-sound t c b p e) (rw d.stations (omega arith))
    (λ i m. (omega arith, let x = ltb-true i n (sym (d.off i) ∙ m) in omega arith)) ∙ ap (λ u. set_off u 0) (done-after t c e)

pub off_at_first : OffAtFirst
unfolding after_all replies
off_at_first =
    record {
      on_by_link = λ t on n m value config calls b p e. rw e (bus _ _ (settled _ calls _ p.1 (laid_settled t n m value config b p.0 e)));
      reach_gives_0 = λ t n m value config b p e i l.
          reached _ _ (laid_settled t n m value config b p e) (λ s _. refl) i (rw (done-step t (lay n m value config) e b p).items l);
      all_linked = all_linked;
    }

-- Polling and putting twice, and what a lay looks at.
use mathlib.Core.Path.{◌≡◌, refl, sym, ap, ◌∙◌}
use mathlib.Core.Bool.{Bool, true, false, cond}
use mathlib.Core.List.{List}
use mathlib.Core.Logic.{◌⊎◌, inl, inr}
use Prim.Native.Nat.{ℕ, ◌<◌}
use native.Mathlib.Omega.{arith}
use lib.Dec.{eqb}
use lib.ListN.{length}
use borrow.Author.Tests.{eqb-true}
use Rattle.basics.specs.Bytes.{AreBytes}
use Rattle.quorum.specs.Sets.{member, join}
use Rattle.basics.proofs.Tests.{or_left, or_right, or_cases}
use Rattle.quorum.proofs.Promise.{promise}
use Rattle.layout.specs.Fields.{Kind, none, read, write, change}
use Rattle.layout.specs.View.{Table, State, view}
use Rattle.layout.specs.Updates.{set_polled, set_puts}
use Rattle.layout.proofs.Contents.{by_fields}
use Rattle.layout.proofs.Again.{polled_again, puts_again, own_polled, own-puts}
use Rattle.layout.proofs.Fields.{polled_round, puts-round}
use Rattle.layout.proofs.Soundness.{is_sound_lem, sound_head}
use Rattle.rules.specs.Calls.{Call, lay, poll, put, is_data, data_sort, config_sort}
use Rattle.rules.specs.Passed.{Passable}
use Rattle.rules.specs.Rules.{tests, refusals, number_of, spent_at_put}
use Rattle.rules.specs.Figures.{figures_of}
use Rattle.rules.specs.After.{done}
use Rattle.rules.specs.Reply.{reply_of, reply, after}
use Rattle.rules.specs.Needs.{needs}
use Rattle.rules.specs.Alike.{Alike}
use Rattle.rules.specs.Twice.{Twice}
use Rattle.rules.specs.LayAlone.{LayAlone}
use Rattle.rules.proofs.Views.{two_bytes}
use Rattle.rules.proofs.States.{next}
use Rattle.rules.proofs.Laws.{by_number, done-after, done_allowed, done_law, next-view, length_kept}
use Rattle.rules.proofs.Kept.{after-sound}
use Rattle.rules.proofs.Alike.{same_reply}

-- ---- a station that is in the set joins it again
join_again : (a s : ℕ) → s < 16 → join (join a s) s ≡ join a s
join_again a s l =
    promise.same_members (join (join a s) s) (join a s)
    (λ i m. or_cases (member (join a s) i) (eqb i s) (sym (promise.member_join (join a s) i s l) ∙ m) (λ h. h)
    (λ h. promise.member_join a i s l ∙ or_right (member a i) (eqb i s) h))
    (λ i m. promise.member_join (join a s) i s l ∙ or_left (member (join a s) i) (eqb i s) m)

-- a call on a table that it leaves as it is, should it be done
pub settled : (u : List ℕ) (c : Call) → done u (view u) c ≡ u → after u c ≡ u
settled u c e = by_number (λ (w : List ℕ). w ≡ u) u c (λ _. e) refl

-- ---- poll
module _ (t : List ℕ) (s : ℕ) (e : (reply t (poll s)).number ≡ 0) where
  abbrev polled : ℕ
  polled = join (view t).round.polled s

  poll_settled : done (set_polled t polled) (view (set_polled t polled)) (poll s) ≡ set_polled t polled
  unfolding done view needs
  poll_settled =
      let a = done_allowed t (poll s) e in
      let f = (done_law t (poll s) e).is_sound in
      let head = sound_head t a.0 in
      let k = f.small in
      let h = a.1.0 in
      ap (λ r. set_polled (set_polled t polled) (join r.polled s)) (polled_round t head polled (two_bytes _ f polled f.polled))
      ∙ ap (set_polled (set_polled t polled)) (join_again (view t).round.polled s (omega arith)) ∙ polled_again t head polled

  poll_twice : after (after t (poll s)) (poll s) ≡ after t (poll s)
  unfolding done
  poll_twice = rw (done-after t (poll s) e) (settled (set_polled t polled) (poll s) poll_settled)

-- ---- put
module _ (t : List ℕ) (s sort : ℕ) (e : (reply t (put s sort)).number ≡ 0) where
  -- the put sets after a put on given ones
  abbrev data_puts : ℕ → ℕ
  data_puts d = cond (is_data sort) (join d s) d

  abbrev config_puts : ℕ → ℕ
  config_puts c = cond (is_data sort) c (join c s)

  abbrev d : ℕ
  d = data_puts (view t).round.data_puts

  abbrev c : ℕ
  c = config_puts (view t).round.config_puts

  settle : s < 16 → (q : Bool) (a : ℕ) → (cond q (join (cond q (join a s) a) s) (cond q (join a s) a) ≡ cond q (join a s) a)
      × (cond q (cond q a (join a s)) (join (cond q a (join a s)) s) ≡ cond q a (join a s))
  settle l true a = (join_again a s l, refl)
  settle l false a = (refl, join_again a s l)

  put_settled : done (set_puts t d c) (view (set_puts t d c)) (put s sort) ≡ set_puts t d c
  unfolding done view needs
  put_settled =
      let a = done_allowed t (put s sort) e in
      let f = (done_law t (put s sort) e).is_sound in
      let head = sound_head t a.0 in
      let k = f.small in
      let h = a.1.0.0 in
      let l : s < 16 = omega arith in
      ap (λ r. set_puts (set_puts t d c) (data_puts r.data_puts) (config_puts r.config_puts))
      (puts-round t head d c (two_bytes _ f d f.data_puts) (two_bytes _ f c f.config_puts))
      ∙ rw ((settle l (is_data sort) (view t).round.data_puts).0, (settle l (is_data sort) (view t).round.config_puts).1) (puts_again t head d c)

  put_twice : after (after t (put s sort)) (put s sort) ≡ after t (put s sort)
  unfolding done
  put_twice = rw (done-after t (put s sort) e) (settled (set_puts t d c) (put s sort) put_settled)

-- ---- a station that was polled, a put that was made before
join-member : (a s : ℕ) → s < 16 → member a s ≡ true → join a s ≡ a
join-member a s l h =
    promise.same_members (join a s) a
    (λ i m. or_cases (member a i) (eqb i s) (sym (promise.member_join a i s l) ∙ m) (λ e. e) (λ e. rw (eqb-true i s e) h))
    (λ i m. promise.member_join a i s l ∙ or_left (member a i) (eqb i s) m)

module _ (t : List ℕ) (b : AreBytes t) where
  polled_already : (s : ℕ) → member (view t).round.polled s ≡ true → after t (poll s) ≡ t
  unfolding done needs view
  polled_already s m =
      by_number (λ (u : List ℕ). u ≡ t) t (poll s)
      (λ e. let f = (done_law t (poll s) e).is_sound.small in
      let a = done_allowed t (poll s) e in
      let l = a.1.0 in
      ap (set_polled t) (join-member (view t).round.polled s (omega arith) m) ∙ own_polled t (sound_head t a.0) b) refl

  put_already : (s sort : ℕ) → (sort ≡ data_sort → member (view t).round.data_puts s ≡ true)
      → (sort ≡ config_sort → member (view t).round.config_puts s ≡ true) → after t (put s sort) ≡ t
  unfolding done needs view
  put_already s sort md mc =
      by_number (λ (u : List ℕ). u ≡ t) t (put s sort)
      (λ e. let f = (done_law t (put s sort) e).is_sound.small in
      let a = done_allowed t (put s sort) e in
      let l = a.1.0.0 in
      joined (omega arith) a.1.0.1 ∙ own-puts t (sound_head t a.0) b) refl
    where
      d : ℕ
      d = (view t).round.data_puts

      c : ℕ
      c = (view t).round.config_puts

      joined : s < 16 → (sort ≡ data_sort) ⊎ (sort ≡ config_sort)
          → set_puts t (cond (is_data sort) (join d s) d) (cond (is_data sort) c (join c s)) ≡ set_puts t d c
      joined l (inl e) = rw (e, join-member d s l (md e))
      joined l (inr e) = rw (e, join-member c s l (mc e))

-- ---- the reply to the second
-- The table after a call looks like the state after it. So where that state is sound and the same sizes fit, the call gets on the table the reply
-- that it gets on the state.
module _ (t : Table) (b : AreBytes t) (c : Call) (p : Passable c) (e : (reply t c).number ≡ 0) where
  again : (next (view t) c).is_sound ≡ true → ((n m : ℕ) → (view t).fits n m ≡ (next (view t) c).fits n m)
      → reply (after t c) c ≡ reply_of (next (view t) c) c
  unfolding view
  again h f =
      let alike : Alike (view (after t c)) (next (view t) c) = record {
        is_sound = after-sound t c b p e ∙ sym h;
        fits = λ n m. rw (length_kept t c) (f n m);
        contents = by_fields (next-view t c e b p);
      } in
      same_reply (view (after t c)) (next (view t) c) alike (λ x. (is_sound_lem (after t c) x).item) c

poll_replies : (t : Table) (s : ℕ) → AreBytes t → (reply t (poll s)).number ≡ 0 → reply (after t (poll s)) (poll s) ≡ reply t (poll s)
unfolding view needs reply_of number_of refusals tests figures_of
poll_replies t s b e =
    let a = done_allowed t (poll s) e in
    let f = (done_law t (poll s) e).is_sound.small in
    let l = a.1.0 in
    again t b (poll s) tt e a.0 (λ n m. refl) ∙ rw (join_again (view t).round.polled s (omega arith))

-- a put leaves what is found, so that it spends what it spent before
spends_again : (v : State) (s sort : ℕ) (k : Kind) → spent_at_put (next v (put s sort)) k sort ≡ spent_at_put v k sort
spends_again v s sort none = refl
spends_again v s sort read = refl
spends_again v s sort write = refl
spends_again v s sort change = refl

put_replies : (t : Table) (s sort : ℕ) → AreBytes t → (reply t (put s sort)).number ≡ 0
    → reply (after t (put s sort)) (put s sort) ≡ reply t (put s sort)
unfolding view needs reply_of number_of refusals tests figures_of
put_replies t s sort b e =
    again t b (put s sort) tt e (done_allowed t (put s sort) e).0 (λ n m. refl) ∙ rw (spends_again (view t) s sort (view t).round.kind)

-- ---- lay
module _ (t u : List ℕ) (n m value : ℕ) (config : List ℕ) (e : length t ≡ length u) where
  lay_reply : reply t (lay n m value config) ≡ reply u (lay n m value config)
  unfolding reply_of number_of refusals tests view figures_of
  lay_reply = rw e

  lay_after : (reply t (lay n m value config)).number ≡ 0 → after t (lay n m value config) ≡ after u (lay n m value config)
  unfolding done
  lay_after z = let c = lay n m value config in done-after t c z ∙ sym (done-after u c (rw lay_reply at z))

pub twice : Twice
twice =
    record {
      poll_twice = poll_twice;
      poll_replies = poll_replies;
      put_twice = put_twice;
      put_replies = put_replies;
      polled_already = λ t s b. polled_already t b s;
      put_already = λ t s sort b. put_already t b s sort;
    }

pub lay_alone : LayAlone
lay_alone = record { lay_reply = lay_reply; lay_after = lay_after }

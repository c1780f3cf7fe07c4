-- A round that polls stations on the bus, and then has puts at them: what each call gets, and the table after it.
use mathlib.Core.Path.{◌≡◌, refl, sym, ap, ◌∙◌}
use mathlib.Core.Bool.{true, false, not, cond}
use mathlib.Core.List.{List, [], ◌∷◌}
use mathlib.Core.Logic.{◌⊎◌}
use Prim.Native.Nat.{ℕ, zero, suc, ◌≤◌, ◌<◌}
use native.Mathlib.Omega.{arith}
use lib.Dec.{eqb}
use borrow.Author.Tests.{eq-eqb}
use Rattle.basics.specs.Bytes.{AreBytes}
use Rattle.basics.proofs.Tests.{or_left, or_right}
use Rattle.quorum.specs.Sets.{member, join}
use Rattle.plan.specs.Starts.{among, joined}
use Rattle.quorum.specs.Configurations.{place_figure}
use Rattle.layout.specs.Fields.{Kind, none, read, write, change, Round}
use Rattle.layout.specs.Newest.{heard_place}
use Rattle.layout.specs.Rounds.{with_polled, with_puts, with_poll, with_put}
use Rattle.layout.specs.View.{Table, State, view, heard, on_bus}
use Rattle.layout.proofs.Contents.{SameWhole, by_whole, by_fields}
use Rattle.layout.proofs.Held.{with_round}
use Rattle.rules.specs.Calls.{Call, poll, put, commit, data_sort, config_sort, is_data}
use Rattle.rules.specs.Passed.{Passable}
use Rattle.rules.specs.Rules.{number_of, first, tests, wrong_put, spent_at_put, spent, written}
use Rattle.rules.specs.Figures.{figures_of}
use Rattle.rules.specs.Reply.{reply_of, reply, after}
use Rattle.rules.specs.Lists.{replies, after_all}
use Rattle.rules.specs.Needs.{needs}
use Rattle.rules.specs.Alike.{Alike}
use Rattle.rules.specs.WholeRounds.{polls, puts, AllDone, last_figure}
use Rattle.rules.proofs.Judged.{is_done, a_round, at_station, sound-number}
use Rattle.rules.proofs.Demand1.{refusal_changes_nothing}
use Rattle.rules.proofs.Steps.{on_bus_lem}
use Rattle.rules.proofs.Laws.{next-view, length_kept, bytes_kept}
use Rattle.rules.proofs.Kept.{after-sound}
use Rattle.rules.proofs.Alike.{alike_tables}

-- ---- stations on the bus: these stations are on it
abbrev pub ThoseOn : State → List ℕ → Type 0
ThoseOn v order = (s : ℕ) → among order s ≡ true → member (on_bus v) s ≡ true

pub first_on : (v : State) (s : ℕ) (order : List ℕ) → ThoseOn v (s ∷ order) → member (on_bus v) s ≡ true
first_on v s order on = on s (or_left (eqb s s) (among order s) (eq-eqb s s refl))

pub rest_on : (v : State) (s : ℕ) (order : List ℕ) → ThoseOn v (s ∷ order) → ThoseOn v order
rest_on v s order on k m = on k (or_right (eqb k s) (among order k) m)

-- a round with puts at them
abbrev pub with_all : ℕ → Round → List ℕ → Round
with_all sort r [] = r
with_all sort r (s ∷ places) = with_all sort (with_put r s (is_data sort)) places

pub all_data : (r : Round) (places : List ℕ) → with_all data_sort r places ≡ with_puts r (joined r.data_puts places) r.config_puts
all_data r [] = refl
all_data r (s ∷ places) = all_data (with_put r s true) places

pub all_config : (r : Round) (places : List ℕ) → with_all config_sort r places ≡ with_puts r r.data_puts (joined r.config_puts places)
all_config r [] = refl
all_config r (s ∷ places) = all_config (with_put r s false) places

-- ---- a table that looks like a sound state with this round
pub record Asking (v : State) (r : Round) (u : Table) : Type 0 where
  pub bytes : AreBytes u
  pub alike : Alike (view u) (with_round v r)

module _ (v : State) (is_sound : v.is_sound ≡ true) (few : v.n ≤ 16) where
  module _ (r : Round) (u : Table) (a : Asking v r u) where
    -- after a call that changes the round alone
    goes_on : (c : Call) (f : Round → Round) → Passable c → (reply u c).number ≡ 0
        → SameWhole (view (after u c)) (with_round (view u) (f (view u).round)) → Asking v (f r) (after u c)
    unfolding view
    goes_on c f p e l =
        let same = by_whole a.alike.contents in
        record {
          bytes = bytes_kept u c a.bytes p;
          alike = record {
            is_sound = after-sound u c a.bytes p e ∙ sym is_sound;
            fits = λ n m. rw (length_kept u c) (a.alike.fits n m);
            contents = by_fields (record {
              n = l.n ∙ same.n;
              m = l.m ∙ same.m;
              off = l.off ∙ same.off;
              round = l.round ∙ ap f same.round;
              copies = λ i s h k. l.copies i s (rw same.m h) (rw same.n k) ∙ same.copies i s h k;
            });
          };
        }

    -- a call gets what it gets in that state
    pub same_reply : r.item < v.m → (c : Call) → reply u c ≡ reply_of (with_round v r) c
    same_reply item c = alike_tables.same_reply (view u) (with_round v r) c a.alike (λ _. rw (a.alike.contents.round.item, a.alike.contents.m) item)

    same_number : r.item < v.m → (c : Call) → (reply u c).number ≡ number_of (with_round v r) c
    unfolding reply_of
    same_number item c = ap (λ x. x.number) (same_reply item c)

  -- ---- what that is
  module _ (r : Round) (busy : r.kind ≡ none → ⊥) where
    abbrev w : State
    w = with_round v r

    polled_done : (s : ℕ) → member (on_bus v) s ≡ true → r.data_puts ≡ 0 → r.config_puts ≡ 0 → number_of w (poll s) ≡ 0
    unfolding needs
    polled_done s on d c = let x = (on_bus_lem v few s).0 on in is_done w (poll s) (is_sound, (x.0, (busy, (x.1, ((d, c), tt)))))

    polled_says : (s : ℕ) → number_of w (poll s) ≡ 0 → (reply_of w (poll s)).first ≡ place_figure (heard_place (v.copies r.item) (join r.polled s) v.n)
    unfolding reply_of figures_of
    polled_says s e = rw e

    put_number : (s sort : ℕ) → member (on_bus v) s ≡ true → (sort ≡ data_sort) ⊎ (sort ≡ config_sort)
        → number_of w (put s sort) ≡ cond (not (heard w)) 8 (cond (wrong_put r.kind sort) 9 (cond (spent_at_put w r.kind sort) 10 0))
    unfolding first tests
    put_number s sort on listed =
        let x = (on_bus_lem v few s).0 on in
        sound-number w (put s sort) refl is_sound
        ∙ rw ((at_station v.n s sort data_sort config_sort).1 (x.0, listed), (a_round r.kind).1 busy, x.1)

    pub commit_number : number_of w commit ≡ cond (not (heard w)) 8 (cond (spent w r.kind) 10 (cond (not (written w r.kind)) 11 0))
    unfolding first tests
    commit_number = sound-number w commit refl is_sound ∙ rw ((a_round r.kind).1 busy)

  -- ---- polls of stations on the bus, one after the other
  pub record OnePolled (r : Round) (u : Table) (s : ℕ) : Type 0 where
    pub done : (reply u (poll s)).number ≡ 0
    pub says : (reply u (poll s)).first ≡ place_figure (heard_place (v.copies r.item) (join r.polled s) v.n)
    pub asking : Asking v (with_poll r s) (after u (poll s))

  pub one_polled : (s : ℕ) → member (on_bus v) s ≡ true → (r : Round) (u : Table) → Asking v r u
      → r.item < v.m → (r.kind ≡ none → ⊥) → r.data_puts ≡ 0 → r.config_puts ≡ 0 → OnePolled r u s
  one_polled s on r u a item busy d c =
      let told = polled_done r busy s on d c in
      let done = same_number r u a item (poll s) ∙ told in
      record {
        done = done;
        says = ap (λ q. q.first) (same_reply r u a item (poll s)) ∙ polled_says r busy s told;
        asking = goes_on r u a (poll s) (λ q. with_poll q s) tt done (next-view u (poll s) done a.bytes tt);
      }

  pub record AllPolled (r : Round) (u : Table) (order : List ℕ) (x : ℕ) : Type 0 where
    pub done : AllDone (replies u (polls order))
    pub says : last_figure x (replies u (polls order)) ≡ place_figure (heard_place (v.copies r.item) (joined r.polled order) v.n)
    pub asking : Asking v (with_polled r (joined r.polled order)) (after_all u (polls order))

  pub all_polled : (order : List ℕ) → ThoseOn v order → (r : Round) (u : Table) → Asking v r u
      → r.item < v.m → (r.kind ≡ none → ⊥) → r.data_puts ≡ 0 → r.config_puts ≡ 0
      → (x : ℕ) → x ≡ place_figure (heard_place (v.copies r.item) r.polled v.n) → AllPolled r u order x
  unfolding replies after_all
  all_polled [] on r u a item busy d c x e = record { done = tt; says = e; asking = a }
  all_polled (s ∷ order) on r u a item busy d c x e =
      let one = one_polled s (first_on v s order on) r u a item busy d c in
      let rest = all_polled order (rest_on v s order on) (with_poll r s) (after u (poll s)) one.asking item busy d c _ one.says in
      record { done = (one.done, rest.done); says = rest.says; asking = rest.asking }

  -- ---- puts of one sort at them: all are done where the round is heard, the sort right, and no counter spent
  pub record AllPut (sort : ℕ) (r : Round) (u : Table) (places : List ℕ) : Type 0 where
    pub data_puts : ℕ
    pub config_puts : ℕ
    pub asking : Asking v (with_puts r data_puts config_puts) (after_all u (puts sort places))
    pub all : heard (with_round v r) ≡ true → spent_at_put (with_round v r) r.kind sort ≡ false → with_puts r data_puts config_puts ≡ with_all sort r places

  -- puts spend nothing
  spent_put : (r : Round) (d c sort : ℕ) (k : Kind) → spent_at_put (with_round v (with_puts r d c)) k sort ≡ spent_at_put (with_round v r) k sort
  spent_put r d c sort none = refl
  spent_put r d c sort read = refl
  spent_put r d c sort write = refl
  spent_put r d c sort change = refl

  module _ (sort : ℕ) (listed : (sort ≡ data_sort) ⊎ (sort ≡ config_sort)) where
    pub all_put : (places : List ℕ) → ThoseOn v places → (r : Round) (u : Table) → Asking v r u
        → r.item < v.m → (r.kind ≡ none → ⊥) → wrong_put r.kind sort ≡ false → AllPut sort r u places
    unfolding after_all
    all_put [] on r u a item busy right = record { data_puts = r.data_puts; config_puts = r.config_puts; asking = a; all = λ h e. refl }
    all_put (s ∷ places) on r u a item busy right = go (all_put places (rest_on v s places on)) (reply u (put s sort)).number refl
      where
        number : (reply u (put s sort)).number
            ≡ cond (not (heard (with_round v r))) 8 (cond (wrong_put r.kind sort) 9 (cond (spent_at_put (with_round v r) r.kind sort) 10 0))
        number = same_number r u a item (put s sort) ∙ put_number r busy s sort (first_on v s places on) listed

        go : ((q : Round) (y : Table) → Asking v q y → q.item < v.m → (q.kind ≡ none → ⊥) → wrong_put q.kind sort ≡ false → AllPut sort q y places)
            → (j : ℕ) → (reply u (put s sort)).number ≡ j → AllPut sort r u (s ∷ places)
        go later zero e =
            let next = goes_on r u a (put s sort) (λ q. with_put q s (is_data sort)) tt e (next-view u (put s sort) e a.bytes tt) in
            let rest = later (with_put r s (is_data sort)) (after u (put s sort)) next item busy right in
            record {
              data_puts = rest.data_puts;
              config_puts = rest.config_puts;
              asking = rest.asking;
              all = λ h q. rest.all h (spent_put r (with_put r s (is_data sort)).data_puts (with_put r s (is_data sort)).config_puts sort r.kind ∙ q);
            }
        go later (suc j) e =
            let stays = refusal_changes_nothing u (put s sort) (λ z. let q : suc j ≡ 0 = sym e ∙ z in omega arith) in
            let rest = later r u a item busy right in
            record {
              data_puts = rest.data_puts;
              config_puts = rest.config_puts;
              asking = rw (after_all, stays) rest.asking;
              all = λ h q. let z : suc j ≡ 0 = sym e ∙ number ∙ rw (h, right, q) refl in absurd (omega arith);
            }

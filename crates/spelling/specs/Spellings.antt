-- Spellings of a configuration in calls and in tables (document 02, 2026-06). "Lay and open change store this form": lists of calls that differ only in how
-- configurations with one form are spelled do the same. "Older spellings in a table stay sound, and commits reply as before; read places follow the stored
-- form": a table whose configurations are spelled otherwise gets the same replies, but for the read places that poll and diagnose show. Which place that is,
-- by the spelling that is stored, is in Steps.antt of the rules (`PlaceShown`).
use Rattle.std.specs.Prelude.{◌≡◌, true, cond, List, [], ◌∷◌, ◌↔◌, ℕ, zero, suc, ◌+◌, ◌*◌, eqb, length}
use Rattle.basics.specs.Bytes.{part, over, AreBytes}
use Rattle.quorum.specs.Configurations.{config_size, valid}
use Rattle.quorum.specs.Promise.{SamePasses}
use Rattle.form.specs.Form.{standard_form}
use Rattle.layout.specs.Layout.{target_at, copy_at, copy_config_at}
use Rattle.layout.specs.Fields.{change, kind_byte}
use Rattle.layout.specs.Soundness.{sound}
use Rattle.layout.specs.Updates.{set_round, laid}
use Rattle.layout.specs.View.{Table, view, ContentsBy}
use Rattle.rules.specs.Calls.{Call, lay, open_read, open_write, open_change, poll, put, commit, abandon, link, reach, diagnose, plan}
use Rattle.rules.specs.Passed.{Passable}
use Rattle.rules.specs.Reply.{reply, after}
use Rattle.rules.specs.Lists.{replies, after_all, AllPassable}
use Rattle.rules.specs.Book.{Book}
use Rattle.rules.specs.Demand3.{OneCopy}
use Rattle.rules.specs.declared.Reply.{Reply}

-- ---- calls
-- two configurations come to the same for n stations: both are valid and have one form, or neither is valid
pub record TakenAlike (n : ℕ) (c d : List ℕ) : Type 0 where
  pub judged : valid n c ≡ valid n d
  pub form : valid n c ≡ true → standard_form n c ≡ standard_form n d

-- the same call, to a table of n stations, but for how a configuration is spelled; that of a lay is judged by the lay's own stations
pub data SameCall (n : ℕ) : Call → Call → Type 0 where
  the_same : {c : Call} → SameCall n c c
  of_lay : {k m value : ℕ} {config other : List ℕ} → TakenAlike k config other → SameCall n (lay k m value config) (lay k m value other)
  of_change : {i : ℕ} {target other : List ℕ} → TakenAlike n target other → SameCall n (open_change i target) (open_change i other)

-- two lists of such calls: a target is judged by the stations of the table that its call comes to, which after one list is the same as after the other
-- (`one_form`)
abbrev pub SameCalls : Table → List Call → List Call → Type 0
SameCalls t [] [] = Unit {0}
SameCalls t [] (d ∷ others) = ⊥
SameCalls t (c ∷ calls) [] = ⊥
SameCalls t (c ∷ calls) (d ∷ others) = SameCall (view t).n c d × SameCalls (after t c) calls others

-- ---- tables
-- two sound tables that differ in how configurations are spelled alone: the same contents otherwise, and in the configurations the same station sets pass.
-- Soundness asks of a configuration that it is valid, and of no spelling (SoundFacts.antt of the layout), so older spellings stay sound.
pub record SameButSpelling (t u : Table) : Type 0 where
  pub bytes : AreBytes t × AreBytes u
  pub are_sound : (sound t ≡ true) × (sound u ≡ true)
  pub contents : ContentsBy SamePasses (view t) (view u)

-- where the configurations of a table stand: the target first, then that of each copy, in their order
abbrev pub config_at : ℕ → ℕ
config_at zero = target_at
config_at (suc k) = copy_at k + copy_config_at

-- the first k of them are respelled to their forms, and no other byte changes. A target of zeros, as a sound table has it while no change is open, is its
-- own form.
unfoldable pub respell_to : ℕ → Table → ℕ → Table
respell_to n t zero = t
respell_to n t (suc k) = over (respell_to n t k) (config_at k) (standard_form n (part t (config_at k) config_size))

-- all of them are
abbrev pub respelled : Table → Table
respelled t = respell_to (view t).n t (1 + (view t).n * (view t).m)

-- what a call leaves, now or before this request, when lay and open change stored the configuration as it was given
pub data Leaves (t : Table) : Call → Table → Type 0 where
  now : {c : Call} → Leaves t c (after t c)
  given_laid : {n m value : ℕ} {config : List ℕ} → (reply t (lay n m value config)).number ≡ 0 → Leaves t (lay n m value config) (laid n m value config)
  given_target : {i : ℕ} {target : List ℕ} → (reply t (open_change i target)).number ≡ 0
      → Leaves t (open_change i target) (set_round t (kind_byte change) i 0 target)

-- and what a list of calls replies and leaves, one store or the other at each call. The reply is the same of both: what lay and open change reply does not
-- hang on what they store.
pub data ByEither : Table → List Call → List Reply → Table → Type 0 where
  ends : {t : Table} → ByEither t [] [] t
  next : {t u w : Table} {c : Call} {calls : List Call} {rest : List Reply} → Leaves t c u → ByEither u calls rest w
      → ByEither t (c ∷ calls) (reply t c ∷ rest) w

-- ---- replies
-- whether there is a read place, of the figure that shows which it is
abbrev pub any_place : ℕ → ℕ
any_place figure = cond (eqb figure 0) 0 1

-- a reply but for which read place it shows: the first figure of poll, and the third of diagnose
abbrev pub but_for_place : Call → Reply → Reply
but_for_place (lay n m value config) r = r
but_for_place (open_read i) r = r
but_for_place (open_write i value) r = r
but_for_place (open_change i target) r = r
but_for_place (poll s) r = record { number = r.number; first = any_place r.first; second = r.second; third = r.third }
but_for_place (put s sort) r = r
but_for_place commit r = r
but_for_place abandon r = r
but_for_place (link s state) r = r
but_for_place (reach i) r = r
but_for_place diagnose r = record { number = r.number; first = r.first; second = r.second; third = any_place r.third }
but_for_place (plan i) r = r

-- replies to the same calls, as many as these, each but for that
unfoldable pub but_for_places : List Call → List Reply → List Reply
but_for_places [] rest = rest
but_for_places (c ∷ calls) [] = []
but_for_places (c ∷ calls) (r ∷ rest) = but_for_place c r ∷ but_for_places calls rest

-- after every list of calls, every call gets the same reply on both, but for that
abbrev pub SameRepliesButPlace : Table → Table → Type 0
SameRepliesButPlace t u =
    (calls : List Call) → AllPassable calls → (c : Call) → but_for_place c (reply (after_all t calls) c) ≡ but_for_place c (reply (after_all u calls) c)

pub record Spellings : Type 0 where
  -- ---- spellings in calls: the same replies, and the same bytes
  pub one_form : (t : Table) (calls others : List Call) → SameCalls t calls others
      → (replies t calls ≡ replies t others) × (after_all t calls ≡ after_all t others)
  -- over every list of demand 3 every configuration in the table is its own form: there is nothing to respell
  pub always_in_form : (t : Table) (n m value : ℕ) (config : List ℕ) (calls : List Call) → AreBytes t → AllPassable (lay n m value config ∷ calls)
      → (reply t (lay n m value config)).number ≡ 0
      → respelled (after_all t (lay n m value config ∷ calls)) ≡ after_all t (lay n m value config ∷ calls)
  -- ---- spellings in tables
  -- tables that differ in spelling alone get the same replies but for the read places, and go on to differ in spelling alone
  pub same_replies_but_place : (t u : Table) → SameButSpelling t u → SameRepliesButPlace t u
  pub stays_same : (t u : Table) (calls : List Call) → SameButSpelling t u → AllPassable calls → SameButSpelling (after_all t calls) (after_all u calls)
  -- two sound tables of bytes differ in spelling alone exactly if they are the same bytes once respelled
  pub one_respelling : (t u : Table) → AreBytes t → AreBytes u → sound t ≡ true → sound u ≡ true → SameButSpelling t u ↔ (respelled t ≡ respelled u)
  -- a sound table respelled has the same contents, each configuration in its form, and is sound
  pub respelled_contents : (t : Table) → sound t ≡ true → ContentsBy (λ c d. d ≡ standard_form (view t).n c) (view t) (view (respelled t))
  pub respelled_sound : (t : Table) → sound t ≡ true → sound (respelled t) ≡ true
  pub respelled_length : (t : Table) → sound t ≡ true → length (respelled t) ≡ length t
  pub respelled_bytes : (t : Table) → AreBytes t → AreBytes (respelled t)
  -- "Older spellings" do no harm: it gets the same replies but for the read places, and to respell it before the calls or after them leaves the same bytes
  pub no_harm : (t : Table) → AreBytes t → sound t ≡ true → SameRepliesButPlace (respelled t) t
  pub respelled_after : (t : Table) (calls : List Call) → AreBytes t → sound t ≡ true → AllPassable calls
      → after_all (respelled t) calls ≡ respelled (after_all t calls)
  -- ---- "commits reply as before": the store of before this request, now and then or all along
  -- what lay left when it stored the configuration as it was given differs in spelling alone from what it leaves now
  pub lay_before : (t : Table) (n m value : ℕ) (config : List ℕ) → AreBytes t → Passable (lay n m value config) → (reply t (lay n m value config)).number ≡ 0
      → SameButSpelling (laid n m value config) (after t (lay n m value config))
  -- from tables that differ in spelling alone on, every list of calls, each by either store, gets what it gets now but for the read places
  pub as_before : (t u w : Table) (calls : List Call) (rest : List Reply) → SameButSpelling t u → AllPassable calls → ByEither t calls rest w
      → (but_for_places calls rest ≡ but_for_places calls (replies u calls)) × SameButSpelling w (after_all u calls)
  -- and demand 3 stands for every list of it, each call by either store: so for a table that was laid before and is in use
  pub one_copy_as_before : (t w : Table) (b : Book) (n m value : ℕ) (config : List ℕ) (calls : List Call) (rest : List Reply)
      → AreBytes t → AllPassable (lay n m value config ∷ calls) → (reply t (lay n m value config)).number ≡ 0
      → ByEither t (lay n m value config ∷ calls) rest w → OneCopy b (lay n m value config ∷ calls) rest

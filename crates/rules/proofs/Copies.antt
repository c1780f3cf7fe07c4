-- The copies of one item: what holds of them after every call, and how the three kinds of commit keep it.
use mathlib.Core.Path.{◌≡◌, refl}
use mathlib.Core.Bool.{Bool, true, cond}
use mathlib.Core.List.{List}
use Prim.Native.Nat.{ℕ, ◌+◌, ◌≤◌, ◌<◌}
use native.Mathlib.Omega.{arith}
use native.Mathlib.Nat.{not-suc-le-zero}
use lib.Dec.{ltb}
use borrow.Author.Tests.{ltb-true, ltb-false}
use Rattle.quorum.specs.Sets.{member, full}
use Rattle.quorum.specs.Configurations.{valid, holds_read, holds_write}
use Rattle.quorum.specs.Promise.{◌⊆◌}
use Rattle.basics.proofs.Tests.{by_cases, either}
use Rattle.quorum.proofs.Promise.{promise}
use Rattle.layout.specs.Fields.{Copy}
use Rattle.layout.specs.Newest.{by_version, by_generation, hears}
use Rattle.layout.specs.Newest.{IsNewest}
use Rattle.layout.proofs.Newer.{finds, heard_finds}
use Rattle.layout.proofs.Stored.{stored}

-- some write quorum of the configuration, all of whose replicas have P: the witness is a station set that holds a write set
pub record Quorum (n : ℕ) (config : List ℕ) (P : ℕ → Type 0) : Type 0 where
  pub set : ℕ
  pub writable : holds_write config set ≡ true
  pub every : (s : ℕ) → s < n → member set s ≡ true → P s

-- What holds of an item's copies while no commit is under way, where the item has this value, so many writes and so many changes.
-- Source 000, Lemma 5.5.1 with 5.3 for the data: `changes` is current-gn, `writes` is current-vn, `config` is logical-config.
pub record Kept (n : ℕ) (copies : ℕ → Copy) (value writes changes : ℕ) : Type 0 where
  pub config : List ℕ
  -- no generation is above the current one
  pub generations : (s : ℕ) → s < n → (copies s).generation ≤ changes
  -- 5.5.1 (1)(a): a replica with an older generation has a configuration some write quorum of which has newer generations
  pub superseded : (s : ℕ) → s < n → (copies s).generation < changes → Quorum n (copies s).config (λ u. (copies s).generation < (copies u).generation)
  -- 5.5.1 (1)(b): a replica with the current generation has the logical configuration
  pub current : (s : ℕ) → s < n → (copies s).generation ≡ changes → (copies s).config ≡ config
  -- 5.3: no version is above the current one; a replica that has it has the logical value; a write quorum of the logical
  -- configuration has it
  pub versions : (s : ℕ) → s < n → (copies s).version ≤ writes
  pub values : (s : ℕ) → s < n → (copies s).version ≡ writes → (copies s).value ≡ value
  pub written : Quorum n config (λ u. (copies u).version ≡ writes)

-- it speaks of the stations below n only
pub kept_same : (n : ℕ) (cs ds : ℕ → Copy) (v w g : ℕ) → ((s : ℕ) → s < n → ds s ≡ cs s) → Kept n cs v w g → Kept n ds v w g
kept_same n cs ds v w g e k =
    record {
      config = k.config;
      generations = λ s b. rw (e s b) (k.generations s b);
      superseded = λ s b. rw (e s b)
          (λ l. let q = k.superseded s b l in record { set = q.set; writable = q.writable; every = λ u h m. rw (e u h) (q.every u h m) });
      current = λ s b. rw (e s b) (k.current s b);
      versions = λ s b. rw (e s b) (k.versions s b);
      values = λ s b. rw (e s b) (k.values s b);
      written = record { set = k.written.set; writable = k.written.writable; every = λ u h m. rw (e u h) (k.written.every u h m) };
    }

-- a fresh table: every copy alike
pub kept_laid : (n value : ℕ) (config : List ℕ) → valid n config ≡ true
    → Kept n (λ s. record { version = 0; value = value; generation = 0; config = config }) value 0 0
kept_laid n value config h =
    record {
      config = config;
      generations = λ s b. omega arith;
      superseded = λ s b l. absurd (not-suc-le-zero l);
      current = λ s b e. refl;
      versions = λ s b. omega arith;
      values = λ s b e. refl;
      written = record { set = full n; writable = promise.all_write n config h; every = λ s b m. refl };
    }

-- ---- a heard round finds what is current (source 000, claims 5.2.2 and 5.3.4)
pub record Current (by_v by_g : Copy) (v w g : ℕ) (c : List ℕ) : Type 0 where
  pub version : by_v.version ≡ w
  pub value : by_v.value ≡ v
  pub generation : by_g.generation ≡ g
  pub config : by_g.config ≡ c

module _ (n : ℕ) (cs : ℕ → Copy) (v w g polled : ℕ) (k : Kept n cs v w g) (ok : (s : ℕ) → s < n → valid n (cs s).config ≡ true) where
  -- the polled copy with the newest generation, heard by its own configuration, has the current generation: were it older, a
  -- polled copy of 5.5.1 (1)(a)'s write quorum would be newer
  current_generation : (b : ℕ) → IsNewest (λ s. (cs s).generation) polled n b → holds_read (cs b).config polled ≡ true → (cs b).generation ≡ g
  current_generation b t r =
      either (ltb (cs b).generation g)
      (λ e. let q = k.superseded b t.station (ltb-true _ _ e) in
      let m = promise.quorums_meet n (cs b).config polled q.set (ok b t.station) r q.writable in
      let h₁ = q.every m.0 m.1 m.2.1 in
      let h₂ = t.greatest m.0 m.1 m.2.0 in
      absurd (omega arith))
      (λ e. let h = k.generations b t.station in omega (arith, ltb-false))

  pub heard_current : hears cs polled n ≡ true → Current (by_version cs polled n) (by_generation cs polled n) v w g k.config
  unfolding hears
  heard_current e =
      let f = heard_finds cs polled n e in
      let r : holds_read (cs f.g).config polled ≡ true = rw f.generation at e in
      let eg = current_generation f.g f.newest_generation r in
      let ec = k.current f.g f.newest_generation.station eg in
      let x = k.written in
      let m = promise.quorums_meet n (cs f.g).config polled x.set (ok f.g f.newest_generation.station) r (rw ec x.writable) in
      let h₁ = x.every m.0 m.1 m.2.1 in
      let h₂ = f.newest_version.greatest m.0 m.1 m.2.0 in
      let h₃ = k.versions f.b f.newest_version.station in
      let ev : (cs f.b).version ≡ w = omega arith in
      rw (f.version, f.generation) (record { version = ev; value = k.values f.b f.newest_version.station ev; generation = eg; config = ec })

  -- more polls keep it heard: the current configuration is found by them too
  pub heard_grows : (more : ℕ) → polled ⊆ more → hears cs polled n ≡ true → hears cs more n ≡ true
  unfolding hears
  heard_grows more grows e =
      let f = heard_finds cs polled n e in
      let h = f.newest_generation in
      let r : holds_read (cs f.g).config polled ≡ true = rw f.generation at e in
      let eg = current_generation f.g h r in
      let x = finds cs more n f.g h.station (grows f.g h.in_set) in
      let y = x.newest_generation in
      let h₁ = y.greatest f.g h.station (grows f.g h.in_set) in
      let h₂ = k.generations x.g y.station in
      let new : (cs x.g).generation ≡ g = omega arith in
      rw (x.generation, k.current x.g y.station new)
      (promise.read_more k.config polled more grows (rw (k.current f.g h.station eg) at r))

-- ---- the commits
-- a version and a value stored at the stations of d
abbrev data_put : (ℕ → Copy) → ℕ → ℕ → ℕ → ℕ → Copy
data_put cs d version value s =
    record {
      version = cond (member d s) version (cs s).version;
      value = cond (member d s) value (cs s).value;
      generation = (cs s).generation;
      config = (cs s).config;
    }

-- a generation and a configuration stored at the stations of c
abbrev config_put : (ℕ → Copy) → ℕ → ℕ → List ℕ → ℕ → Copy
config_put cs c generation config s =
    record {
      version = (cs s).version;
      value = (cs s).value;
      generation = cond (member c s) generation (cs s).generation;
      config = cond (member c s) config (cs s).config;
    }

-- both, as a commit stores them
abbrev pub both_put : (ℕ → Copy) → ℕ → ℕ → Copy → ℕ → Copy
both_put cs d c new s = stored (member d s) (member c s) new (cs s)

module _ (n : ℕ) (cs : ℕ → Copy) (v w g : ℕ) (k : Kept n cs v w g) where
  -- the version and value that are there already, stored anywhere
  kept_again : (d : ℕ) → Kept n (data_put cs d w v) v w g
  kept_again d =
      record {
        config = k.config;
        generations = k.generations;
        superseded = k.superseded;
        current = k.current;
        versions = λ s b. by_cases (λ (t : Bool). cond t w (cs s).version ≤ w) (member d s) (λ _. omega arith) (λ _. k.versions s b);
        values = λ s b. by_cases (λ (t : Bool). cond t w (cs s).version ≡ w → cond t v (cs s).value ≡ v) (member d s) (λ _ _. refl) (λ _. k.values s b);
        written = record {
          set = k.written.set;
          writable = k.written.writable;
          every = λ s b m. by_cases (λ (t : Bool). cond t w (cs s).version ≡ w) (member d s) (λ _. refl) (λ _. k.written.every s b m);
        };
      }

  -- a new version and value, stored at a write quorum of the current configuration
  kept_write : (d v' : ℕ) → holds_write k.config d ≡ true → Kept n (data_put cs d (w + 1) v') v' (w + 1) g
  kept_write d v' q =
      record {
        config = k.config;
        generations = k.generations;
        superseded = k.superseded;
        current = k.current;
        versions = λ s b. by_cases (λ (t : Bool). cond t (w + 1) (cs s).version ≤ w + 1) (member d s) (λ _. omega arith) (λ _. omega (arith, k.versions s b));
        values = λ s b. by_cases (λ (t : Bool). cond t (w + 1) (cs s).version ≡ w + 1 → cond t v' (cs s).value ≡ v') (member d s) (λ _ _. refl)
            (λ _ e. absurd (omega (arith, k.versions s b)));
        written = record { set = d; writable = q; every = λ s b m. rw m };
      }

  -- a new configuration, stored at a write quorum of the old one, once a write quorum of the new one has the newest version
  kept_config : (c : ℕ) (config : List ℕ) → holds_write k.config c ≡ true → Quorum n config (λ s. (cs s).version ≡ w)
      → Kept n (config_put cs c (g + 1) config) v w (g + 1)
  kept_config c config q x =
      record {
        config = config;
        generations = λ s b. by_cases (λ (t : Bool). cond t (g + 1) (cs s).generation ≤ g + 1) (member c s) (λ _. omega arith)
            (λ _. omega (arith, k.generations s b));
        superseded = λ s b. by_cases
            (λ (t : Bool). cond t (g + 1) (cs s).generation < g + 1
            → Quorum n (cond t config (cs s).config) (λ u. cond t (g + 1) (cs s).generation < cond (member c u) (g + 1) (cs u).generation))
            (member c s) (λ _ l. absurd (omega arith)) (λ _ l. older s b);
        current = λ s b. by_cases (λ (t : Bool). cond t (g + 1) (cs s).generation ≡ g + 1 → cond t config (cs s).config ≡ config) (member c s) (λ _ _. refl)
            (λ _ e. absurd (omega (arith, k.generations s b)));
        versions = k.versions;
        values = k.values;
        written = x;
      }
    where
      -- a station that kept its generation: it was superseded already, or the configuration puts supersede it now
      older : (s : ℕ) → s < n → Quorum n (cs s).config (λ u. (cs s).generation < cond (member c u) (g + 1) (cs u).generation)
      older s b =
          either (ltb (cs s).generation g)
          (λ e. let o = k.superseded s b (ltb-true _ _ e) in
          record {
            set = o.set;
            writable = o.writable;
            every = λ u h m. by_cases (λ (t : Bool). (cs s).generation < cond t (g + 1) (cs u).generation) (member c u)
                (λ _. omega (arith, k.generations s b)) (λ _. o.every u h m);
          })
          (λ e. let h : (cs s).generation ≡ g = omega (arith, ltb-false, k.generations s b) in
          record { set = c; writable = rw (k.current s b h) q; every = λ u l m. rw m (omega (arith, k.generations s b)) })

-- ---- what each kind of commit leaves, from what its round found
-- with no configuration puts only the data is stored
no_config : (n : ℕ) (cs : ℕ → Copy) (generation : ℕ) (config : List ℕ) (v w g : ℕ) → Kept n cs v w g → Kept n (config_put cs 0 generation config) v w g
no_config n cs generation config v w g k = kept_same n cs (config_put cs 0 generation config) v w g (λ s b. rw (promise.member_empty s)) k

module _ (n : ℕ) (cs : ℕ → Copy) (v w g : ℕ) (k : Kept n cs v w g) (d c : ℕ) (new : Copy) where
  pub kept_read_commit : c ≡ 0 → new.value ≡ v → new.version ≡ w → Kept n (both_put cs d c new) v w g
  kept_read_commit e p q =
      rw (e, p, q) (no_config n (data_put cs d w v) new.generation new.config v w g (kept_again n cs v w g k d))

  pub kept_write_commit : c ≡ 0 → new.version ≡ w + 1 → holds_write k.config d ≡ true → Kept n (both_put cs d c new) new.value (w + 1) g
  kept_write_commit e q h =
      rw (e, q) (no_config n (data_put cs d (w + 1) new.value) new.generation new.config new.value (w + 1) g
      (kept_write n cs v w g k d new.value h))

  -- the newest version and value at a write quorum of the new configuration, that configuration at one of the old
  pub kept_change_commit : new.value ≡ v → new.version ≡ w → new.generation ≡ g + 1 → holds_write k.config c ≡ true
      → holds_write new.config d ≡ true → Kept n (both_put cs d c new) v w (g + 1)
  unfolding kept_again
  kept_change_commit p q r h x =
      rw (p, q, r) (kept_config n (data_put cs d w v) v w g (kept_again n cs v w g k d) c new.config h
      (record { set = d; writable = x; every = λ s b m. rw m }))

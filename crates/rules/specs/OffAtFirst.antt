-- "New stations start off the bus" (document 02, 2026-02). After a lay that is done every station is off (`Laid` of Steps.antt). From then on, over every
-- list of calls, a station is on the bus exactly if the last call that moved it, a lay or a link of it, was a link that brought it on. So in a round a
-- poll or a put at a station gets 6 exactly while it is not on, and while no station is on reach gives 0 for every item, and plan gets 15. With "a link
-- call per station" behind it, a lay gives the table that document 01's lay gave, with the configuration in its form (2026-06).
use Rattle.std.specs.Prelude.{◌≡◌, Bool, false, not, cond, List, [], ◌∷◌, ◌↔◌, ◌⊎◌, ℕ, zero, suc, ◌<◌, eqb}
use Rattle.basics.specs.Bytes.{AreBytes}
use Rattle.quorum.specs.Sets.{member}
use Rattle.form.specs.Form.{standard_form}
use Rattle.layout.specs.Fields.{none}
use Rattle.layout.specs.View.{Table, view}
use Rattle.layout.specs.Updates.{set_off, laid}
use Rattle.rules.specs.Calls.{Call, lay, open_read, open_write, open_change, poll, put, commit, abandon, link, reach, diagnose, plan}
use Rattle.rules.specs.Calls.{data_sort, config_sort, on_state, is_on}
use Rattle.rules.specs.Passed.{Passable}
use Rattle.rules.specs.Reply.{reply, after}
use Rattle.rules.specs.Lists.{replies, after_all, AllPassable}
use Rattle.rules.specs.Demand1.{ZeroFigures}
use Rattle.rules.specs.declared.Reply.{Reply}

-- whether station s is on the bus after a call that is done, by whether it was before: a lay takes every station off, a link moves its own
abbrev pub on_after : ℕ → Bool → Call → Bool
on_after s on (lay n m value config) = false
on_after s on (open_read i) = on
on_after s on (open_write i value) = on
on_after s on (open_change i target) = on
on_after s on (poll k) = on
on_after s on (put k sort) = on
on_after s on commit = on
on_after s on abandon = on
on_after s on (link k state) = cond (eqb s k) (is_on state) on
on_after s on (reach i) = on
on_after s on diagnose = on
on_after s on (plan i) = on

-- the same after calls with the replies to them; a call that is refused moves none
abbrev pub on_after_all : ℕ → Bool → List Call → List Reply → Bool
on_after_all s on [] rest = on
on_after_all s on (c ∷ calls) [] = on
on_after_all s on (c ∷ calls) (r ∷ rest) = on_after_all s (cond (eqb r.number 0) (on_after s on c) on) calls rest

-- the stations on the bus of a table are these, and what follows
pub record Bus (t : Table) (on : ℕ → Bool) : Type 0 where
  pub off : (s : ℕ) → s < (view t).n → member (view t).off s ≡ not (on s)
  -- in a round a poll gets 6 exactly while its station is not on, and so does a put
  pub polls : (s : ℕ) → s < (view t).n → ((view t).round.kind ≡ none → ⊥) → ((reply t (poll s)).number ≡ 6) ↔ (on s ≡ false)
  pub puts : (s sort : ℕ) → s < (view t).n → (sort ≡ data_sort) ⊎ (sort ≡ config_sort) → ((view t).round.kind ≡ none → ⊥)
      → ((reply t (put s sort)).number ≡ 6) ↔ (on s ≡ false)
  -- while none is on, reach gives 0 for every item, and plan gets 15
  pub reaches : ((s : ℕ) → s < (view t).n → on s ≡ false) → (i : ℕ) → i < (view t).m → ((reply t (reach i)).number ≡ 0) × ZeroFigures (reply t (reach i))
  pub plans : ((s : ℕ) → s < (view t).n → on s ≡ false) → (i : ℕ) → i < (view t).m → (reply t (plan i)).number ≡ 15

-- a link call per station, from station k on, as many as the count says
abbrev pub links : ℕ → ℕ → List Call
links k zero = []
links k (suc count) = link k on_state ∷ links (suc k) count

pub record OffAtFirst : Type 0 where
  -- over every list of demand 3, refused calls and further lays included, whatever stations were on before it
  pub on_by_link : (t : Table) (on : ℕ → Bool) (n m value : ℕ) (config : List ℕ) (calls : List Call)
      → AreBytes t → AllPassable (lay n m value config ∷ calls) → (reply t (lay n m value config)).number ≡ 0
      → Bus (after_all t (lay n m value config ∷ calls))
      (λ s. on_after_all s (on s) (lay n m value config ∷ calls) (replies t (lay n m value config ∷ calls)))
  -- that again of reach, just after the lay and by the lay's own m
  pub reach_gives_0 : (t : Table) (n m value : ℕ) (config : List ℕ) → AreBytes t → Passable (lay n m value config)
      → (reply t (lay n m value config)).number ≡ 0 → (i : ℕ) → i < m
      → ((reply (after t (lay n m value config)) (reach i)).number ≡ 0) × ZeroFigures (reply (after t (lay n m value config)) (reach i))
  -- "all stations on", and every other byte as the lay left it
  pub all_linked : (t : Table) (n m value : ℕ) (config : List ℕ) → AreBytes t → Passable (lay n m value config)
      → (reply t (lay n m value config)).number ≡ 0 → after_all t (lay n m value config ∷ links 0 n)
      ≡ set_off (laid n m value (standard_form n config)) 0

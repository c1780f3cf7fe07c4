-- Demand 1: every call, on any bytes and numbers, ends, touches only what is lent, and refuses by the papers' number; a refusal changes no byte and has zero
-- figures. Here, of the definitions and for every call on any list of numbers, what a refusal leaves; that calls other than poll, commit, reach, diagnose and
-- plan have zero figures always; that the number is one of those listed (which one is in Needs.antt); that on bytes the figures have 64 bits; that the table
-- keeps its length, and stays bytes. That there is one reply and one table is said by `reply` and `after` being functions; that the code ends, equals them
-- and touches nothing but what it is lent is in its contracts.
use Rattle.std.specs.Prelude.{◌≡◌, ◌⊎◌, ℕ, ◌≤◌, length}
use Rattle.basics.specs.Bytes.{AreBytes}
use Rattle.layout.specs.View.{Table}
use Rattle.rules.specs.Calls.{Call, poll, commit, reach, diagnose, plan}
use Rattle.rules.specs.Passed.{Passable, Word}
use Rattle.rules.specs.Reply.{reply, after}
use Rattle.rules.specs.declared.Reply.{Reply}

abbrev pub ZeroFigures : Reply → Type 0
ZeroFigures r = (r.first ≡ 0) × (r.second ≡ 0) × (r.third ≡ 0)

-- the five calls with figures
pub data HasFigures : Call → Type 0 where
  of_poll : {s : ℕ} → HasFigures (poll s)
  of_commit : HasFigures commit
  of_reach : {i : ℕ} → HasFigures (reach i)
  of_diagnose : HasFigures diagnose
  of_plan : {i : ℕ} → HasFigures (plan i)

-- a number of the tables: up to 11, those of document 01, for every call; 15 for plan alone (document 02, 2026-05). Which of them a call can get is in
-- Needs.antt. 12 is the frame runner's, and 13 and 14 are those of votes.
abbrev pub ListedNumber : Call → ℕ → Type 0
ListedNumber c k = (k ≤ 11) ⊎ ((i : ℕ) × (c ≡ plan i) × (k ≡ 15))

pub record Demand1 : Type 0 where
  pub refusal_changes_nothing : (t : Table) (c : Call) → ((reply t c).number ≡ 0 → ⊥) → after t c ≡ t
  pub refusal_has_no_figures : (t : Table) (c : Call) → ((reply t c).number ≡ 0 → ⊥) → ZeroFigures (reply t c)
  pub other_calls_have_no_figures : (t : Table) (c : Call) → (HasFigures c → ⊥) → ZeroFigures (reply t c)
  pub number_is_listed : (t : Table) (c : Call) → ListedNumber c (reply t c).number
  -- "three figures of 8 bytes": on bytes each has room for its number
  pub figures_fit : (t : Table) (c : Call) → AreBytes t → Word (reply t c).first × Word (reply t c).second × Word (reply t c).third
  -- the table keeps its length, and stays a list of bytes
  pub length_kept : (t : Table) (c : Call) → length (after t c) ≡ length t
  pub bytes_kept : (t : Table) (c : Call) → AreBytes t → Passable c → AreBytes (after t c)

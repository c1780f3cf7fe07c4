-- The calls with their arguments: numbers of any size, configurations as lists of any length (document 01, "The calls"; diagnose and plan are document
-- 02's, 2026-04 and 2026-05). What a caller can pass is in Passed.antt.
use Rattle.std.specs.Prelude.{Bool, true, false, List, ℕ, eqb}

pub data Call : Type 0 where
  -- n, m, starting value, configuration
  lay : (n m value : ℕ) → List ℕ → Call
  open_read : (item : ℕ) → Call
  open_write : (item value : ℕ) → Call
  open_change : (item : ℕ) → List ℕ → Call
  poll : (station : ℕ) → Call
  put : (station sort : ℕ) → Call
  commit : Call
  abandon : Call
  link : (station state : ℕ) → Call
  reach : (item : ℕ) → Call
  diagnose : Call
  plan : (item : ℕ) → Call

-- what is said of a lay by its arguments, and of every other call alike
abbrev pub lay_or : {A : Type 0} → (ℕ → ℕ → ℕ → List ℕ → A) → A → Call → A
lay_or f a (lay n m value config) = f n m value config
lay_or f a (open_read i) = a
lay_or f a (open_write i value) = a
lay_or f a (open_change i target) = a
lay_or f a (poll s) = a
lay_or f a (put s sort) = a
lay_or f a commit = a
lay_or f a abandon = a
lay_or f a (link s state) = a
lay_or f a (reach i) = a
lay_or f a diagnose = a
lay_or f a (plan i) = a

abbrev pub is_lay : Call → Bool
is_lay = lay_or (λ n m value config. true) false

-- "Put (station, 1 data or 2 configuration)"
abbrev pub data_sort : ℕ
data_sort = 1

abbrev pub config_sort : ℕ
config_sort = 2

abbrev pub is_data : ℕ → Bool
is_data sort = eqb sort data_sort

abbrev pub is_config_sort : ℕ → Bool
is_config_sort sort = eqb sort config_sort

-- "Link (station, 0 off or 1 on)"
abbrev pub off_state : ℕ
off_state = 0

abbrev pub on_state : ℕ
on_state = 1

abbrev pub is_off : ℕ → Bool
is_off state = eqb state off_state

abbrev pub is_on : ℕ → Bool
is_on state = eqb state on_state

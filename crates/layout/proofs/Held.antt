-- The bytes of a table hold a state: what each update of the bytes does to the state.
use mathlib.Core.Path.{◌≡◌, refl, ap, ◌∙◌}
use mathlib.Core.Bool.{true}
use mathlib.Core.List.{List}
use Prim.Native.Nat.{ℕ, ◌^◌, ◌≤◌, ◌<◌}
use native.Mathlib.Omega.{arith}
use lib.ListN.{length}
use Rattle.basics.specs.Bytes.{number, AreBytes}
use Rattle.quorum.specs.Configurations.{config_size}
use Rattle.layout.specs.Layout.{head_size, kind_at, spare_at, table_length}
use Rattle.layout.specs.Fields.{Copy, kind_of, Round, stations, items, off_set, round_of, copy_of}
use Rattle.layout.specs.View.{State, view}
use Rattle.layout.specs.Rounds.{with_polled, with_puts}
use Rattle.layout.specs.Updates.{set_off, set_polled, set_puts, set_round}
use Rattle.layout.proofs.Contents.{SameWhole}
use Rattle.layout.proofs.Fields.{opened, only_wider, number_kept, HeadOnly, head_stations, head_items, head_copies}
use Rattle.layout.proofs.Fields.{off_only, polled_only, puts_only, round_only}
use Rattle.layout.proofs.Fields.{off_off, off_round, polled_off, polled_round, puts_off, puts-round, round_off, round_spare, round_kind}
use Rattle.layout.proofs.Fields.{round-round}
use Rattle.layout.proofs.Fields.{off_bytes, polled_bytes, puts_bytes, round_bytes, table_head}
use Rattle.layout.proofs.Soundness.{sound-table}

-- ---- a state with another off set, another round, other copies
abbrev pub with_off : State → ℕ → State
with_off v off = record { is_sound = v.is_sound; fits = v.fits; n = v.n; m = v.m; off = off; round = v.round; copies = v.copies }

abbrev pub with_round : State → Round → State
with_round v r = record { is_sound = v.is_sound; fits = v.fits; n = v.n; m = v.m; off = v.off; round = r; copies = v.copies }

abbrev pub with_copies : State → (ℕ → ℕ → Copy) → State
with_copies v copies = record { is_sound = v.is_sound; fits = v.fits; n = v.n; m = v.m; off = v.off; round = v.round; copies = copies }

-- the bytes u hold the state w: its head, and the copies of the items and stations that there are; the rest of the head is as in a sound table
pub record Holds (u : List ℕ) (w : State) : Type 0 where
  pub bytes : AreBytes u
  pub size : length u ≡ table_length w.n w.m
  pub kind : number u kind_at 1 ≤ 3
  pub spare : number u spare_at 4 ≡ 0
  pub n : stations u ≡ w.n
  pub m : items u ≡ w.m
  pub off : off_set u ≡ w.off
  pub round : round_of u ≡ w.round
  pub copies : (i s : ℕ) → i < w.m → s < w.n → copy_of u i s ≡ w.copies i s

-- a sound table holds the state that it is viewed as
pub holds-own : (t : List ℕ) → AreBytes t → (view t).is_sound ≡ true → Holds t (view t)
unfolding view
holds-own t b e =
    let f = sound-table t e in
    record {
      bytes = b;
      size = f.size;
      kind = f.kind;
      spare = f.spare;
      n = refl;
      m = refl;
      off = refl;
      round = refl;
      copies = λ i s h k. refl;
    }

-- and a table is viewed as the state that it holds
pub held_view : (u : List ℕ) (w : State) → Holds u w → SameWhole (view u) w
unfolding view
held_view u w h = record { n = h.n; m = h.m; off = h.off; round = h.round; copies = h.copies }

-- ---- the head's updates
module _ (t : List ℕ) (w : State) (h : Holds t w) where
  head : head_size ≤ length t
  head = rw h.size (table_head w.n w.m)

  -- an update of the head after its first two bytes, with what it does to the fields there
  updated : (u : List ℕ) (off : ℕ) (r : Round) → HeadOnly t u → AreBytes u → number u kind_at 1 ≤ 3 → number u spare_at 4 ≡ number t spare_at 4
      → off_set u ≡ off → round_of u ≡ r → Holds u (with_off (with_round w r) off)
  updated u off r f b k s p q =
      record {
        bytes = b;
        size = f.size ∙ h.size;
        kind = k;
        spare = s ∙ h.spare;
        n = head_stations f ∙ h.n;
        m = head_items f ∙ h.m;
        off = p;
        round = q;
        copies = λ i s x y. head_copies f i s ∙ h.copies i s x y;
      }

  pub holds_off : (off : ℕ) → off < 65536 → Holds (set_off t off) (with_off w off)
  holds_off off l =
      let f = off_only t head off in
      updated (set_off t off) off w.round (only_wider (omega arith) (omega arith) f) (off_bytes t h.bytes off)
      (rw (number_kept f kind_at 1 refl) h.kind) (number_kept f spare_at 4 refl) (off_off t head off l) (off_round t head off ∙ h.round)

  pub holds_polled : (polled : ℕ) → polled < 65536 → Holds (set_polled t polled) (with_round w (with_polled w.round polled))
  holds_polled polled l =
      let f = polled_only t head polled in
      updated (set_polled t polled) w.off (with_polled w.round polled) (only_wider (omega arith) (omega arith) f) (polled_bytes t h.bytes polled)
      (rw (number_kept f kind_at 1 refl) h.kind) (number_kept f spare_at 4 refl) (polled_off t head polled ∙ h.off)
      (polled_round t head polled l ∙ ap (λ r. with_polled r polled) h.round)

  pub holds-puts : (data_puts config_puts : ℕ) → data_puts < 65536 → config_puts < 65536
      → Holds (set_puts t data_puts config_puts) (with_round w (with_puts w.round data_puts config_puts))
  holds-puts d c ld lc =
      let f = puts_only t head d c in
      updated (set_puts t d c) w.off (with_puts w.round d c) (only_wider (omega arith) (omega arith) f) (puts_bytes t h.bytes d c)
      (rw (number_kept f kind_at 1 refl) h.kind) (number_kept f spare_at 4 refl) (puts_off t head d c ∙ h.off)
      (puts-round t head d c ld lc ∙ ap (λ r. with_puts r d c) h.round)

  pub holds-round : (kind item value : ℕ) (target : List ℕ) → kind ≤ 3 → item < 256 → value < 2 ^ 64 → length target ≡ config_size → AreBytes target
      → Holds (set_round t kind item value target) (with_round w (opened (kind_of kind) item value target))
  holds-round k i v target lk li lv e b =
      let f = round_only t head k i v target e in
      updated (set_round t k i v target) w.off (opened (kind_of k) i v target) (only_wider (omega arith) (omega arith) f)
      (round_bytes t h.bytes k i v target (omega arith) li b) (rw (round_kind t head k i v target e) lk) (round_spare t head k i v target e)
      (round_off t head k i v target e ∙ h.off) (round-round t head k i v target e lv)

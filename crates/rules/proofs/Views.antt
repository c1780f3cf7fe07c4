-- Figures that fit into a copy, and what the bytes hold after an opening: lemmas for Laws.antt.
use mathlib.Core.Path.{◌≡◌, refl}
use mathlib.Core.Bool.{true, false}
use mathlib.Core.List.{List}
use Prim.Native.Nat.{ℕ, ◌^◌, ◌≤◌, ◌<◌}
use native.Mathlib.Omega.{arith}
use lib.ListN.{length}
use borrow.Author.Tests.{eqb-false}
use Rattle.basics.specs.Bytes.{AreBytes}
use Rattle.quorum.specs.Sets.{within}
use Rattle.quorum.proofs.Promise.{promise}
use Rattle.quorum.specs.Configurations.{config_size}
use Rattle.layout.specs.Fields.{last_count, Kind, none, read, write, change, kind_of}
use Rattle.layout.specs.View.{State, view, own, heard, found_by_version, found_by_generation}
use Rattle.layout.specs.Updates.{set_round, no_target}
use Rattle.basics.proofs.Parts.{bytes_zeros}
use Rattle.layout.proofs.Fields.{opened}
use Rattle.layout.proofs.Soundness.{StateSound}
use Rattle.layout.proofs.Held.{with_round, Holds, holds-round}
use Rattle.layout.proofs.Stored.{Small, copy_small, value_small}
use Rattle.layout.proofs.Newer.{heard_finds}
use Rattle.rules.specs.Rules.{spent}
use Rattle.rules.specs.Figures.{closing}
use Rattle.rules.specs.declared.Figures.{Figures}
use Rattle.rules.specs.Passed.{Word}

-- ---- the figures of a commit fit into a copy
abbrev pub Fit : Figures → Type 0
Fit f = Word f.first × Word f.second × Word f.third

module _ (t : List ℕ) (b : AreBytes t) where
  found_small : heard (view t) ≡ true → Small (found_by_version (view t)) × Small (found_by_generation (view t))
  unfolding view
  found_small h =
      let x = heard_finds (own (view t)) (view t).round.polled (view t).n h in
      (rw x.version (copy_small t b _), rw x.generation (copy_small t b _))

  pub closing_fits : (k : Kind) → heard (view t) ≡ true → spent (view t) k ≡ false → Fit (closing (view t) k)
  unfolding view
  closing_fits none h e = (omega arith, omega arith, omega arith)
  closing_fits read h e = let x = found_small h in (x.0.value, x.0.version, x.1.generation)
  closing_fits write h e =
      let x = found_small h in
      let ne : (found_by_version (view t)).version ≡ last_count → ⊥ = eqb-false _ _ e in
      (value_small t b, omega (arith, x.0.version), x.1.generation)
  closing_fits change h e =
      let x = found_small h in
      let ne : (found_by_generation (view t)).generation ≡ last_count → ⊥ = eqb-false _ _ e in
      (x.0.value, x.0.version, omega (arith, x.1.generation))

-- ---- openings
-- a round opened or closed, where the state after it is sound
module _ (t : List ℕ) (w : State) (h : Holds t w) where
  pub opens : (k i x : ℕ) (target : List ℕ) → k ≤ 3 → x < 2 ^ 64 → length target ≡ config_size → AreBytes target
      → StateSound (with_round w (opened (kind_of k) i x target)) → Holds (set_round t k i x target) (with_round w (opened (kind_of k) i x target))
  opens k i x target lk lx e b f =
      let l = f.item in
      let m = f.few_items in
      holds-round t w h k i x target lk (omega arith) lx e b

  pub opens_plain : (k i x : ℕ) → k ≤ 3 → x < 2 ^ 64 → StateSound (with_round w (opened (kind_of k) i x no_target))
      → Holds (set_round t k i x no_target) (with_round w (opened (kind_of k) i x no_target))
  opens_plain k i x lk lx f = opens k i x no_target lk lx refl (bytes_zeros config_size) f

-- a set of stations of a sound state fits into two bytes
pub two_bytes : (v : State) → StateSound v → (set : ℕ) → within v.n set ≡ true → set < 65536
two_bytes v f set w = promise.within_16 v.n set f.small w

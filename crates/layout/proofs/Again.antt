-- Updates of the head that change nothing: those made a second time, and those that write what stands there; and an off set written over another.
use mathlib.Core.Path.{◌≡◌, sym, ◌∙◌}
use mathlib.Core.List.{List, ◌++◌}
use Prim.Native.Nat.{ℕ, ◌+◌, ◌≤◌}
use native.Mathlib.Omega.{arith}
use lib.ListN.{length, length-append}
use Rattle.basics.specs.Bytes.{part, AreBytes, bytes_of}
use Rattle.layout.specs.Layout.{head_size, off_at, polled_at, data_puts_at, config_puts_at}
use Rattle.layout.specs.View.{view}
use Rattle.layout.specs.Updates.{set_off, set_polled, set_puts}
use Rattle.basics.proofs.Parts.{over-over, over_again, over-append, over-own, number_bytes, part_length, length_bytes}

module _ (t : List ℕ) (h : head_size ≤ length t) where
  pub off_over : (a b : ℕ) → set_off (set_off t a) b ≡ set_off t b
  unfolding set_off
  off_over a b =
      let x = length_bytes 2 a in over-over t off_at (bytes_of 2 a) (bytes_of 2 b) (length_bytes 2 b ∙ sym x) (rw x (omega arith))

  pub polled_again : (polled : ℕ) → set_polled (set_polled t polled) polled ≡ set_polled t polled
  unfolding set_polled
  polled_again polled = over_again t polled_at (bytes_of 2 polled) (rw (length_bytes 2 polled) (omega arith))

  pub puts_again : (d c : ℕ) → set_puts (set_puts t d c) d c ≡ set_puts t d c
  unfolding set_puts
  puts_again d c = over_again t data_puts_at (bytes_of 2 d ++ bytes_of 2 c) (rw (length-append, length_bytes 2 d, length_bytes 2 c) (omega arith))

  module _ (b : AreBytes t) where
    pub own_off : set_off t (view t).off ≡ t
    unfolding set_off view
    own_off = rw (number_bytes t off_at 2 b (omega arith)) (over-own t off_at 2 (omega arith))

    pub own_polled : set_polled t (view t).round.polled ≡ t
    unfolding set_polled view
    own_polled = rw (number_bytes t polled_at 2 b (omega arith)) (over-own t polled_at 2 (omega arith))

    pub own-puts : set_puts t (view t).round.data_puts (view t).round.config_puts ≡ t
    unfolding set_puts view
    own-puts =
        let d = number_bytes t data_puts_at 2 b (omega arith) in
        let c = number_bytes t config_puts_at 2 b (omega arith) in
        let x = part_length t data_puts_at 2 (omega arith) in
        let y = part_length t config_puts_at 2 (omega arith) in
        let fits : data_puts_at + length (part t data_puts_at 2 ++ part t config_puts_at 2) ≤ length t = rw (length-append, x, y) (omega arith) in
        rw (d, c) (over-append t data_puts_at (part t data_puts_at 2) (part t config_puts_at 2) fits
        ∙ rw (x, over-own t data_puts_at 2 (omega arith)) (over-own t config_puts_at 2 (omega arith)))

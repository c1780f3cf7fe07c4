-- Reply lines.
use mathlib.Core.Path.{◌≡◌, refl}
use mathlib.Core.List.{List, [], ◌∷◌, ◌++◌}
use Prim.Native.Nat.{ℕ, ◌%◌, ◌<◌}
use lib.ListN.{length, replicate, length-append}
use Rattle.basics.proofs.Bytes.{number_one}
use Rattle.basics.proofs.Parts.{length_bytes, read_bytes, bytes_of_lem, bytes_append}
use Rattle.rules.specs.declared.Reply.{Reply}
use Rattle.frames.specs.Hex.{bytes_in, hex_of}
use Rattle.basics.specs.Bytes.{AreBytes, bytes_of, over}
use Rattle.frames.proofs.Digits.{byte_halves, hex_length}
use Rattle.replies.specs.ReplyLine.{reply_size, line_end, reply_bytes, reply_line_size, reply_line, Showable, Shows}

pub reply_bytes_length : (call : ℕ) (r : Reply) → length (reply_bytes call r) ≡ reply_size
unfolding reply_bytes
reply_bytes_length call r = simp (length-append, length_bytes)

pub reply_length : (call : ℕ) (r : Reply) → length (reply_line call r) ≡ reply_line_size
unfolding reply_line
reply_length call r = simp (length-append, hex_length, reply_bytes_length)

-- the bytes of a reply, its figures written one after the other
pub reply_bytes_written : (call : ℕ) (r : Reply)
    → over
    (over (over (call ∷ r.number % 256 ∷ replicate 24 0) 2 (bytes_of 8 r.first)) 10 (bytes_of 8 r.second)) 18
    (bytes_of 8 r.third)
    ≡ reply_bytes call r
unfolding over bytes_of reply_bytes
reply_bytes_written call r = refl

-- ---- a reply line is read back
-- the line end is no byte of its own
read_line : (bytes : List ℕ) (end : ℕ) → AreBytes bytes → bytes_in (hex_of bytes ++ (end ∷ [])) ≡ bytes
unfolding hex_of bytes_in
read_line [] end h = refl
read_line (b ∷ rest) end h = rw (byte_halves b h.0, read_line rest end h.1)

reply_are_bytes : (call : ℕ) (r : Reply) → call < 256 → AreBytes (reply_bytes call r)
unfolding reply_bytes
reply_are_bytes call r c =
    let two = bytes_append (bytes_of 8 r.second) (bytes_of 8 r.third) (bytes_of_lem 8 r.second) (bytes_of_lem 8 r.third) in
    let three = bytes_append (bytes_of 8 r.first) _ (bytes_of_lem 8 r.first) two in
    (c, bytes_append (bytes_of 1 r.number) _ (bytes_of_lem 1 r.number) three)

shown : (call : ℕ) (r : Reply) → Showable r → Shows (reply_bytes call r) call r
unfolding reply_bytes bytes_of
shown call r h = (
  number_one (reply_bytes call r) 0,
  read_bytes 1 r.number h.0,
  read_bytes 8 r.first h.1,
  read_bytes 8 r.second h.2,
  read_bytes 8 r.third h.3,
)

pub reply_read_back : (call : ℕ) (r : Reply) → call < 256 → Showable r → Shows (bytes_in (reply_line call r)) call r
unfolding reply_line
reply_read_back call r c h = rw (read_line (reply_bytes call r) line_end (reply_are_bytes call r c)) (shown call r h)

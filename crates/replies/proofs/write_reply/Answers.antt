use mathlib.Core.Path.{◌≡◌, ap, ◌∙◌}
use mathlib.Core.List.{[], ◌∷◌, ◌++◌}
use native.Mathlib.Omega.{arith}
use lib.ListN.{length, drop, length-drop}
use lib.Seq.{take_all}
use Rattle.basics.specs.Bytes.{over}
use Rattle.frames.specs.Hex.{hex_of}
use Rattle.replies.specs.ReplyLine.{reply_size, line_end, reply_line}
use Rattle.replies.proofs.ReplyLine.{reply_bytes_length}
use Rattle.replies.proofs.Writing.{line_shown}
use Rattle.replies.proofs.write_reply.Goals as goal
use Rattle.replies.proofs.write_reply.Goals.{After-bytes-1}

-- the bytes of the reply, as they were made
made : (c : After-bytes-1) → length c.reply_bytes-bytes.result ≡ reply_size
made c = rw c.reply_bytes-bytes.ensures (reply_bytes_length _ _)

pub returns : goal.returns
unfolding reply_line
returns c =
    let a = c.args in
    let bytes = c.reply_bytes-bytes in
    let long = made (goal.at.returns c).After-bytes-1 in
    let all = take_all 24 (drop 2 bytes.result) (simp length-drop (omega arith)) in
    rw (c.write_hex-2.ensures, c.write_hex.ensures, all)
    (rw long at (line_shown a.out.now a.at 2 bytes.result (omega arith) (omega arith) line_end)
    ∙ ap (λ l. over a.out.now a.at (hex_of l ++ (line_end ∷ []))) bytes.ensures)

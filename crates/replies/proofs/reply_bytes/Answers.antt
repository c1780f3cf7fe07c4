use mathlib.Core.Path.{◌∙◌}
use Rattle.replies.proofs.ReplyLine.{reply_bytes_written}
use Rattle.replies.proofs.reply_bytes.Goals as goal

pub returns : goal.returns
returns c =
    c.put_u64-3.ensures ∙ rw
    (c.put_u64-2.ensures, c.put_u64.ensures)
    (reply_bytes_written _ _)

-- The claims of specs/Claims.antt.
use mathlib.Core.Path.{refl}
use Rattle.runs.specs.Lines.{lines_of}
use Rattle.runs.specs.Claims.{Claims}
use Rattle.frames.proofs.Digits
use Rattle.frames.proofs.FrameLines
use Rattle.frames.proofs.CallFrames
use Rattle.replies.proofs.ReplyLine
use Rattle.runs.proofs.Printing
use Rattle.runs.proofs.Book
use Rattle.runs.proofs.Pieces

pub claims : Claims
unfolding lines_of
claims =
    record {
      read_back = Digits.read_back;
      shown_again = Digits.shown_again;
      no_lines = refl;
      ended_line = Pieces.ended_line;
      last_line = Pieces.last_line;
      passable = FrameLines.passable;
      has_frame = CallFrames.has_frame;
      is_its_frame = CallFrames.is_its_frame;
      reply_length = ReplyLine.reply_length;
      reply_read_back = ReplyLine.reply_read_back;
      prints_the_reply = Printing.prints_the_reply;
      stays_bytes = Printing.stays_bytes;
      cut_line = λ t line. (Pieces.printed-clip t line, Pieces.table-clip t line);
      in_pieces_lem = Pieces.in_pieces_lem;
      table_at_the_end = Pieces.table_at_the_end;
      shows_the_book = λ input. Book.shows_the_book (lines_of input);
      list_of_demand_3 = Book.list_of_demand_3;
    }

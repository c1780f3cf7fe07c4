use mathlib.Core.Path.{◌≡◌, ap, ◌∙◌}
use mathlib.Core.Option.{Option}
use lib.ListN.{take}
use Rattle.basics.specs.Bytes.{over}
use Rattle.rules.specs.Calls.{Call}
use Rattle.dispatch.specs.Codes.{number_or}
use Rattle.dispatch.specs.Dispatch.{call_at, reply_or, after_or}
use Rattle.frames.specs.Frame.{call_of}
use Rattle.frames.proofs.Reading.{frame_call}
use Rattle.runs.specs.Session.{table_after, printed}
use Rattle.session.proofs.Answering.{Performed, its_reply, is_done, is_refused, shows_reply}
use Rattle.session.proofs.answer.Goals as goal
use Rattle.session.proofs.answer.Goals.{After-write_reply}

-- up to the reply line: the code and the bytes stand for the line's call
abbrev found : After-write_reply → Option Call
found c = call_at (number_or c.read_frame-code.result) c.read_frame-code.new.arguments

call_is : (c : After-write_reply) → found c ≡ call_of c.args.line.now
call_is c =
    let read = c.read_frame-code in
    ap (λ code. call_at code read.new.arguments) read.ensures.value ∙ frame_call c.args.line.now read.new.arguments read.ensures.leads

-- what was lent and performed
facts : (c : After-write_reply)
    → Performed c.args.table.now c.args.used c.lent_length-lend.result (found c) c.perform-r.result c.perform-r.new.table
facts c =
    let done = c.perform-r in
    let lent = take c.lent_length-lend.result c.args.table.now in
    let read = c.read_frame-code.new.arguments in
    record {
      whole = c.requires.0;
      used_fits = c.requires.1;
      lend_fits = c.lent_length-lend.ensures.upper_bound;
      is_lent = c.lent_length-lend.ensures.value;
      replies = done.ensures.value ∙ ap (λ code. reply_or lent (call_at code read)) c.code_byte.ensures;
      leaves = done.ensures.table_after ∙ ap (λ code. after_or lent (call_at code read)) c.code_byte.ensures;
      same_length = done.auto.table;
    }

-- what was printed
shown : (c : After-write_reply) → let a = c.args in c.write_reply.new.out ≡ over a.out.now a.at (printed (take a.used a.table.now) a.line.now)
shown c =
    let a = c.args in
    shows_reply (take a.used a.table.now) a.line.now a.out.now _ a.at _ _ _ (call_is c)
    c.call_byte-call.ensures (its_reply _ _ _ _ _ (found c) (facts c)) c.write_reply.ensures

pub returns-then-r-eq0 : goal.returns-then-r-eq0
unfolding table_after
returns-then-r-eq0 c =
    let w = (goal.at.returns-then-r-eq0 c).After-write_reply in
    record {
      in_use = rw (← call_is w) (is_done _ _ _ _ _ (found w) (facts w) c.if-r-eq0.true);
      out_after = shown w;
    }

pub returns : goal.returns
unfolding table_after
returns c =
    let w = (goal.at.returns c).After-write_reply in
    record {
      in_use = rw (← call_is w) (is_refused _ _ _ _ _ (found w) (facts w) c.if-r-eq0.false);
      out_after = shown w;
    }

use mathlib.Core.Path.{◌≡◌, sym, ap, ◌∙◌}
use mathlib.Core.Bool.{false}
use Prim.Native.Nat.{◌*◌, ◌-◌, ◌≤◌, ◌<◌}
use native.Mathlib.Omega.{arith}
use lib.ListN.{drop, length-take, length-drop}
use Rattle.std.specs.Prelude.{is_some}
use Rattle.dispatch.specs.Dispatch.{longest, frame_length}
use Rattle.dispatch.proofs.Codes.{frame_length_le, has_frame}
use Rattle.frames.specs.Hex.{all_digits}
use Rattle.frames.specs.Frame.{call_byte}
use Rattle.frames.proofs.Reading.{no_frame_read, behind, frame_read, false_digit_read}
use Rattle.frames.proofs.frame.read_frame.Goals as goal
use Rattle.frames.proofs.frame.read_frame.Goals.{After-frame_length-n}

-- the length is that of the call byte's frames; there is such a frame, and none is longer
n_is : (c : After-frame_length-n) → c.frame_length-n.result ≡ frame_length (call_byte c.args.line.now)
n_is c = c.frame_length-n.ensures ∙ ap frame_length (c.in_ok-code.ensures ∙ c.requires)

n_le : (c : After-frame_length-n) → c.frame_length-n.result ≤ longest
n_le c = rw (n_is c) (frame_length_le (call_byte c.args.line.now))

has : (c : After-frame_length-n) → 0 < c.frame_length-n.result
has c = rw c.frame_length-n.ensures (has_frame _)

pub returns-in_err-code : goal.returns-in_err-code
returns-in_err-code c =
    let none : frame_length (call_byte c.args.line.now) ≡ 0 = rw (← c.requires) c.in_err-code.ensures in
    rw c.from_residual.ensures (no_frame_read c.args.line.now _ (λ f. let h = f.has_call in omega arith))

pub overflow_mul-n : goal.overflow_mul-n
overflow_mul-n c = omega (arith, n_le (goal.at.overflow_mul-n c).After-frame_length-n)

pub returns-then-line-n : goal.returns-then-line-n
returns-then-line-n c =
    let is = n_is (goal.at.returns-then-line-n c).After-frame_length-n in
    no_frame_read c.args.line.now _ (λ f. c.if-line-n.true (f.its_length ∙ ap (λ n. 2 * n) (sym is)))

pub slice_bounds-read_bytes-count : goal.slice_bounds-read_bytes-count
slice_bounds-read_bytes-count c =
    let some = has (goal.at.slice_bounds-read_bytes-count c).After-frame_length-n in omega arith

pub slice_bounds-read_bytes-start : goal.slice_bounds-read_bytes-start
slice_bounds-read_bytes-start c =
    let some = has (goal.at.slice_bounds-read_bytes-start c).After-frame_length-n in omega arith

pub read_bytes-requires : goal.read_bytes-requires
read_bytes-requires c =
    let a = (goal.at.read_bytes-requires c).After-frame_length-n in
    let some = has a in
    let few = n_le a in
    (simp (length-take, length-drop) (omega arith), simp (length-take, length-drop) (omega arith))

pub returns-in_err-read_bytes : goal.returns-in_err-read_bytes
returns-in_err-read_bytes c =
    let a = (goal.at.returns-in_err-read_bytes c).After-frame_length-n in
    let line = c.args.line.now in
    let whole = behind line _ (has a) (n_is a) c.if-line-n.false in
    let failed : all_digits (drop 2 line) ≡ false =
    ap all_digits (sym whole) ∙ sym c.read_bytes.ensures.value ∙ ap is_some c.in_err-read_bytes.was
    in
    rw c.from_residual-in_err-read_bytes.ensures (false_digit_read line _ (has a) (n_is a) c.if-line-n.false _ failed)

pub returns : goal.returns
returns c =
    let a = (goal.at.returns c).After-frame_length-n in
    let line = c.args.line.now in
    let whole = behind line _ (has a) (n_is a) c.if-line-n.false in
    let all = ap all_digits (sym whole) ∙ sym c.read_bytes.ensures.value ∙ ap is_some c.in_ok-read_bytes.was in
    let leads = rw whole at c.in_ok-read_bytes.ensures.leads in
    let read = frame_read line _ (has a) (n_is a) c.if-line-n.false _ all leads in
    record { value = rw (c.in_ok-code.ensures, c.requires) read.value; leads = read.leads }

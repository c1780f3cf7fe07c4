use Rattle.basics.proofs.Tests.{clash}
use Rattle.in_form.proofs.Ordered.{in_form, reads_in_form, writes_in_form}
use Rattle.in_form.proofs.is_form.Goals as goal

pub returns-then-side_in_form : goal.returns-then-side_in_form
returns-then-side_in_form c =
    let v = c.requires in (
      λ e. in_form v.0 _ v.1 c.fits-config (c.side_in_form.ensures.0 c.if-side_in_form.true) (c.side_in_form-then-side_in_form.ensures.0 e),
      λ own. c.side_in_form-then-side_in_form.ensures.1 (writes_in_form v.0 _ v.1 own),
    )

pub returns-else-side_in_form : goal.returns-else-side_in_form
returns-else-side_in_form c =
    let v = c.requires in (
      λ e. clash e c.if-side_in_form.false,
      λ own. c.side_in_form.ensures.1 (reads_in_form v.0 _ v.1 own),
    )

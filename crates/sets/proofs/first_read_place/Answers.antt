use mathlib.Core.Path.{sym, ◌∙◌}
use Rattle.quorum.proofs.Promise.{promise}
use Rattle.sets.proofs.Sides.{first_of_read}
use Rattle.sets.proofs.first_read_place.Goals as goal

pub returns-in_err-config : goal.returns-in_err-config
returns-in_err-config c =
    let short = promise.short_read c.args.config.now c.args.set c.in_err-config.ensures.cases in c.from_residual.ensures ∙ sym ((promise.no_place _).0 short)

pub returns : goal.returns
returns c =
    c.first_held.ensures ∙ first_of_read c.args.config.now c.args.set c.load_side.ensures c.in_ok-config.ensures.cases.same

use mathlib.Core.Path.{sym, ap, ◌∙◌}
use Rattle.layout.specs.Soundness.{round_sound}
use Rattle.table.specs.Kinds.{as_kind}
use Rattle.soundness.specs.Scan.{round_blank}
use Rattle.soundness.proofs.Scan.{no_kind, kind_word}
use Rattle.soundness.proofs.round_ok.Goals as goal

pub returns-in-None : goal.returns-in-None
unfolding round_sound round_blank
returns-in-None c =
    rw (← c.kind.ensures, c.in-None.is) (cc (kind_word c.args.t.now (no_kind _ (sym c.kind.ensures ∙ ap as_kind c.in-None.is))))

pub returns-in-Some-Read : goal.returns-in-Some-Read
unfolding round_sound round_blank
returns-in-Some-Read c = rw (← c.kind.ensures, c.in-Some-Read.is) (cc)

pub returns-in-Some-Write : goal.returns-in-Some-Write
unfolding round_sound round_blank
returns-in-Some-Write c = rw (← c.kind.ensures, c.in-Some-Write.is) (cc)

pub returns-in-Some-Change : goal.returns-in-Some-Change
unfolding round_blank
returns-in-Some-Change c = rw (← c.kind.ensures, c.in-Some-Change.is) (cc)

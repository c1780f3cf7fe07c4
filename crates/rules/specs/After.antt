-- The table after each call that is done (document 01, "The calls").
use Rattle.std.specs.Prelude.{Bool, cond, List, ℕ}
use Rattle.quorum.specs.Sets.{join, remove}
use Rattle.form.specs.Form.{standard_form}
use Rattle.layout.specs.Fields.{Copy, new_copy, read, write, change, kind_byte, Round}
use Rattle.layout.specs.Rounds.{with_poll, with_put, with_link}
use Rattle.layout.specs.View.{Table, State}
use Rattle.layout.specs.Updates.{set_off, set_polled, set_puts, set_round, no_target, laid, put_copies, closed}
use Rattle.rules.specs.Calls.{Call, lay, open_read, open_write, open_change, poll, put, commit, abandon, link, reach, diagnose, plan, is_data, is_off}
use Rattle.rules.specs.Figures.{closing}
use Rattle.rules.specs.declared.Figures.{Figures}

-- the put sets of a round, written
abbrev pub puts_of : Table → Round → Table
puts_of t r = set_puts t r.data_puts r.config_puts

-- "Link (station, 0 off or 1 on)": going off it joins the off set, coming on it leaves it. "Its copies are kept."
abbrev pub linked : State → ℕ → Bool → ℕ
linked v s off? = cond off? (join v.off s) (remove v.off s)

-- what a commit stores: the figures of the round, and its target as it stands
abbrev pub stores : Figures → List ℕ → Copy
stores f target = new_copy f.second f.first f.third target

unfoldable pub done : Table → State → Call → Table
-- Document 02, 2026-06: "Lay and open change store this form."
done t v (lay n m value config) = laid n m value (standard_form n config)
done t v (open_read i) = set_round t (kind_byte read) i 0 no_target
done t v (open_write i value) = set_round t (kind_byte write) i value no_target
done t v (open_change i target) = set_round t (kind_byte change) i 0 (standard_form v.n target)
done t v (poll s) = set_polled t (with_poll v.round s).polled
-- "Copies do not change yet."
done t v (put s sort) = puts_of t (with_put v.round s (is_data sort))
done t v commit = closed (put_copies t v.n v.round (stores (closing v v.round.kind) v.round.target) v.n)
done t v abandon = closed t
done t v (link s state) = puts_of (set_off t (linked v s (is_off state))) (with_link v.round s (is_off state))
done t v (reach i) = t
done t v diagnose = t
done t v (plan i) = t

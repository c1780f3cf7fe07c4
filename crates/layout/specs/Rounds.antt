-- The open round after each call on it (document 01, "The calls").
use Rattle.std.specs.Prelude.{Bool, cond, ℕ}
use Rattle.quorum.specs.Sets.{join, remove}
use Rattle.layout.specs.Fields.{Round}

-- ---- with other sets
abbrev pub with_polled : Round → ℕ → Round
with_polled r polled =
    record {
      kind = r.kind;
      item = r.item;
      polled = polled;
      data_puts = r.data_puts;
      config_puts = r.config_puts;
      value = r.value;
      target = r.target;
    }

abbrev pub with_puts : Round → ℕ → ℕ → Round
with_puts r data_puts config_puts =
    record {
      kind = r.kind;
      item = r.item;
      polled = r.polled;
      data_puts = data_puts;
      config_puts = config_puts;
      value = r.value;
      target = r.target;
    }

-- ---- "Poll (station): joins the polled set."
abbrev pub with_poll : Round → ℕ → Round
with_poll r s = with_polled r (join r.polled s)

-- "Put (station, 1 data or 2 configuration): joins that put set."
abbrev pub with_put : Round → ℕ → Bool → Round
with_put r s data? = with_puts r (cond data? (join r.data_puts s) r.data_puts) (cond data? r.config_puts (join r.config_puts s))

-- "Link .. going off takes the station out of both put sets; it stays in the polled set."
abbrev pub with_link : Round → ℕ → Bool → Round
with_link r s off? =
    with_puts r (cond off? (remove r.data_puts s) r.data_puts) (cond off? (remove r.config_puts s) r.config_puts)

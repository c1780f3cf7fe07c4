-- The code's value `Round`: that of a table, and the definitions' round that it stands for; and the sorts of a put.
use Rattle.std.specs.Prelude.{Bool, true, false, List, ℕ}
use Rattle.basics.specs.Bytes.{number}
use Rattle.layout.specs.Layout.{kind_at}
use Rattle.layout.specs.Fields.{kind_of, round_of}
use Rattle.layout.specs.Fields.{Round as RoundOfTable}
use Rattle.layout.specs.declared.Sort.{Sort}
use Rattle.layout.specs.declared.Sort.TheVariants.{Data, Configuration}
use Rattle.rounds.specs.declared.round.Round.{Round}

abbrev pub round_in : List ℕ → Round
round_in t =
    record {
      kind = number t kind_at 1;
      item = (round_of t).item;
      polled = (round_of t).polled;
      data_puts = (round_of t).data_puts;
      config_puts = (round_of t).config_puts;
      value = (round_of t).value;
      target = (round_of t).target;
    }

abbrev pub as_round : Round → RoundOfTable
as_round r =
    record {
      kind = kind_of r.kind;
      item = r.item;
      polled = r.polled;
      data_puts = r.data_puts;
      config_puts = r.config_puts;
      value = r.value;
      target = r.target;
    }

abbrev pub is_data : Sort → Bool
is_data Data = true
is_data Configuration = false

-- What is counted of what came of a leg, and the line that says it (profile).
use Rattle.std.specs.Prelude.{ℕ, List, ◌++◌, codes, decimal, min}
use Rattle.wire_spec.specs.Dump.{Item}
use Rattle.view_spec.specs.declared.tallies.Tally.{Tally}
use Rattle.view_spec.specs.Seen.{Reception, fate_in, is_foreign, is_packet, is_refused, is_text, many}
use Rattle.view_spec.specs.Views.{printed_line}

-- how a leg of this name was heard, and what of it was not
unfoldable pub tally_heard : List ℕ → Tally → List ℕ
tally_heard name y = codes "-- " ++ name ++ codes " came " ++ decimal y.came ++ codes " text " ++ decimal y.text

unfoldable pub tally_unheard : Tally → List ℕ
tally_unheard y =
    printed_line (codes " refused " ++ decimal y.refused ++ codes " foreign " ++ decimal y.foreign ++ codes " senders " ++ decimal y.senders)

-- the line of the leg of this name
abbrev pub tally_line : List ℕ → Tally → List ℕ
tally_line name y = tally_heard name y ++ tally_unheard y

-- by the items of a recording, in which one sender is heard at most, and a primary text has at most so many octets
abbrev pub tally_in : ℕ → Reception → List Item → Tally
tally_in most r came = record {
  came = many is_packet (fate_in most r) came;
  text = many is_text (fate_in most r) came;
  refused = many is_refused (fate_in most r) came;
  foreign = many is_foreign (fate_in most r) came;
  senders = min (many is_text (fate_in most r) came) 1;
}

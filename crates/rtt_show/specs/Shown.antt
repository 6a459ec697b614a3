-- What is printed of the packets of a stream or a pair, from what was found out of them.
use Rattle.std.specs.Prelude.{ℕ, Bool, List, [], ◌∷◌, ◌++◌, length, map, flat_map, slice_index, codes, decimal, if◌then◌else◌}
use Rattle.rtt_base.specs.declared.text_packets.PayloadTypes.{PayloadTypes}
use Rattle.wire_spec.specs.declared.faults.TextFault.{TextFault}
use Rattle.wire_spec.specs.Dump.{Item}
use Rattle.view_spec.specs.Views.{printed_line, source_view, counts_line}
use Rattle.command_spec.specs.Reading.{usual_wait}
use Rattle.command_spec.specs.Showing.{refusals, place_of, refusal_line, number_line}
use Rattle.report_spec.specs.Guesses.{guess_line}
use Rattle.terminal.specs.declared.settings.TerminalSettings.{TerminalSettings}
use Rattle.terminal.specs.declared.terminals.Terminal.{Terminal}
use Rattle.terminal.specs.Terminals.{texts_of, counts_of}
use Rattle.terminal.specs.Views.{named}
use Rattle.rtt_show.specs.declared.surveys.Survey.{Survey}
use Rattle.rtt_show.specs.declared.pairs.Guess.{Guess}
use Rattle.rtt_show.specs.declared.pairs.Guess.TheVariants.{Nothing, Red, Text}

-- ---- a stream

abbrev pub settings_of : PayloadTypes → ℕ → TerminalSettings
settings_of payload_types ssrc = record { ssrc = ssrc; payload_types = payload_types; wait = usual_wait }

-- whom a terminal hears where these are named: the SSRC, where none is
abbrev pub asked : ℕ → List ℕ → List ℕ
asked ssrc [] = ssrc ∷ []
asked ssrc (source ∷ sources) = source ∷ sources

-- how many packets were refused by each of these
abbrev pub refusal_lines : List ℕ → List TextFault → List ℕ
refusal_lines refused faults = flat_map (λ fault. refusal_line fault (slice_index refused (place_of fault))) faults

-- what stands behind the first line
abbrev pub heard_text : Survey → Terminal → List ℕ
heard_text s t =
    flat_map source_view (named (map decimal s.sources.kept.items) (texts_of t)) ++ counts_line (counts_of t)
    ++ flat_map (λ fault. refusal_line fault (slice_index s.refused (place_of fault))) refusals
    ++ number_line (codes "-- other sources ") s.sources.others

-- ---- a pair

abbrev pub guessed : Guess → List ℕ
guessed Nothing = []
guessed (Red inside) = codes " red of " ++ decimal inside
guessed Text = codes " text"

-- the first of the two that packets may be
abbrev pub first_guess : Bool → Bool → ℕ → List ℕ
first_guess red text inside = if red then codes " red of " ++ decimal inside else (if text then codes " text" else [])

abbrev pub pair_text : ℕ → ℕ → ℕ → List ℕ → List ℕ
pair_text ssrc pt packets guess =
    printed_line (codes "-- ssrc " ++ decimal ssrc ++ codes " type " ++ decimal pt ++ codes " packets " ++ decimal packets ++ guess)

abbrev pub pair_line : ℕ → ℕ → List Item → List ℕ
pair_line ssrc pt came = pair_text ssrc pt (length came) (guess_line ssrc pt came)

-- What the calls of the mixer send is what the definitions give to a terminal.
use Rattle.std.proofs.Common.{◌≡◌, ℕ, Some, List, [], ◌∷◌, ◌++◌, map, refl, ap, sym, ◌∙◌}
use Rattle.std.proofs.lemmas.List.{map-append}
use Rattle.rtt_base.specs.declared.text_packets.PayloadTypes.{PayloadTypes}
use Rattle.wire_spec.specs.Packets.{Arrival}
use Rattle.wire_spec.specs.SentPackets.{packet_written}
use Rattle.stream_spec.specs.Own.{Sent, packet_after}
use Rattle.file_spec.specs.declared.conference_lines.LegLine.{LegLine}
use Rattle.file_spec.specs.Conference.{Conference}
use Rattle.mixer_spec.specs.Setups.{Setup, leg_at, setup, stream}
use Rattle.mixer_spec.specs.Table.{Table, TurnEntry, after_calls, packets, sents}
use Rattle.mixer_posts.specs.Streams.{settings_at, payload_types_at, payload_types_of}
use Rattle.mixer_posts.proofs.Entering.{entered, entered_law}
use Rattle.mixer_posts.proofs.Nexts.{texts_are}
use Rattle.command_spec.specs.Mixing.{sent_to}
use Rattle.command_spec.proofs.SentBack.{below_legs}
use Rattle.live_spec.specs.Served.{given_to}
use Rattle.rtt_live.specs.Ends.{packets_of}
use Rattle.rtt_live.specs.Sent.{SentIsGiven}

abbrev written : PayloadTypes → Arrival → List ℕ
written payload_types a = packet_written payload_types a.packet

-- the packets of what a terminal's past has
packets_are : (s : Setup) (payload_types : PayloadTypes) (j : ℕ) (past : List TurnEntry) → packets_of (settings_at s payload_types j) (map entered past) ≡ map (written payload_types) (packets (stream s j) past)
packets_are s payload_types j [] = refl
packets_are s payload_types j (e ∷ past) =
    let last : Arrival = record { time = e.at; packet = packet_after (stream s j) (sents past) e.sent } in
    ap (λ (xs : List Sent). packets_of (settings_at s payload_types j) (map entered past) ++ packet_written payload_types (packet_after (stream s j) xs e.sent) ∷ []) (texts_are past)
    ∙ (ap (λ (ps : List (List ℕ)). ps ++ written payload_types last ∷ []) (packets_are s payload_types j past) ∙ sym (map-append (written payload_types) (packets (stream s j) past) (last ∷ [])))

-- what a terminal is given by what its past has
abbrev pub given_by : Conference → Table → ℕ → List (List ℕ)
given_by c table j = packets_of (settings_at (setup c) (payload_types_at c j) j) (map entered (table.terminals j).past)

pub given_law : (c : Conference) (table : Table) (j : ℕ) (leg : LegLine) → leg_at c.legs j ≡ Some leg → given_by c table j ≡ given_to c table j leg
given_law c table j leg there = packets_are (setup c) (payload_types_at c j) j (table.terminals j).past ∙ ap (λ (payload_types : PayloadTypes). map (written payload_types) (sent_to c table j)) (ap payload_types_of there)

pub sent_law : SentIsGiven
sent_law c calls j leg sources there are =
    ap (packets_of (settings_at (setup c) (payload_types_at c j) j)) (entered_law (setup c) calls j sources (below_legs c.legs j leg there) are) ∙ given_law c (after_calls (setup c) calls) j leg there

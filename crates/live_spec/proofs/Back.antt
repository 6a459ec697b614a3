-- What is given to a terminal is read back as the packets that were sent.
use Rattle.std.proofs.Common.{◌≡◌, ℕ, ◌*◌, ◌<◌, ◌^◌, Some, Ok, Result, List, [], ◌∷◌, refl, ap, ◌∙◌}
use Rattle.std.specs.Prelude.{map}
use Rattle.std.specs.List.{AllByRecursion}
use Rattle.rtt_base.specs.declared.text_packets.PayloadTypes.{PayloadTypes}
use Rattle.wire_spec.specs.declared.faults.TextFault.{TextFault}
use Rattle.wire_spec.specs.Packets.{Packet, Arrival}
use Rattle.wire_spec.specs.Text.{text_of}
use Rattle.wire_spec.specs.SentPackets.{packet_written}
use Rattle.file_spec.specs.declared.conference_lines.LegLine.{LegLine}
use Rattle.file_spec.specs.Conference.{Conference}
use Rattle.file_spec.specs.Kept.{IsConference}
use Rattle.stream_spec.specs.History.{placed}
use Rattle.stream_spec.specs.Own.{own_packet}
use Rattle.mixer_spec.specs.Setups.{leg_at, setup}
use Rattle.mixer_spec.specs.Table.{Table}
use Rattle.mixer_spec.specs.Bridged.{packets_to, told_at}
use Rattle.mixer_spec.proofs.Paced.{Timed}
use Rattle.command_spec.specs.Mixing.{sent_to}
use Rattle.command_spec.proofs.SentBack.{IsBack, map_twice, timed_back}
use Rattle.command_spec.proofs.Ssrcs.{HasSsrcs}
use Rattle.live_spec.specs.Served.{given_to}

abbrev ok_packet : Packet → Result Packet TextFault
ok_packet p = Ok p

texts_back : (ssrc : ℕ) (payload_types : PayloadTypes) (sent : List Arrival) → AllByRecursion (IsBack ssrc payload_types) sent
    → map (λ octets. text_of octets (Some ssrc) payload_types) (map (λ (a : Arrival). packet_written payload_types a.packet) sent) ≡ map ok_packet (map (λ (a : Arrival). a.packet) sent)
texts_back ssrc payload_types [] b = refl
texts_back ssrc payload_types (a ∷ sent) b = λ i. b.0.text_is i ∷ texts_back ssrc payload_types sent b.1 i

pub read_back : (c : Conference) (table : Table) (k : ℕ) → IsConference c → HasSsrcs c → (setup c).step * k < 2 ^ 31 → (j : ℕ) (leg : LegLine) → leg_at c.legs j ≡ Some leg
    → Timed (setup c) table.seats j k table.media (table.terminals j).past
    → packets_to (setup c) j (table.terminals j).past ≡ map (own_packet (told_at (setup c) table j)) (placed (told_at (setup c) table j))
    → map (λ octets. text_of octets (Some c.mixer.ssrc) leg.payload_types) (given_to c table j leg) ≡ map (λ x. Ok (own_packet (told_at (setup c) table j) x)) (placed (told_at (setup c) table j))
read_back c table k is h span j leg at t own =
    let told = told_at (setup c) table j in
    texts_back c.mixer.ssrc leg.payload_types (sent_to c table j) (timed_back c table k is h span j leg at t) ∙ (ap (map ok_packet) own ∙ map_twice ok_packet (own_packet told) (placed told))

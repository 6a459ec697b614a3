-- What `show` prints of small recordings, worked out by hand.
use Rattle.std.proofs.Common.{◌≡◌, ℕ, None, Some, List, [], ◌∷◌, ◌++◌, refl}
use Rattle.std.specs.Prelude.{codes, map, take, drop}
use Rattle.std.specs.Fmt.{digits}
use Rattle.std.specs.Str.{is_utf8, chars}
use Rattle.std.specs.Char.{encode_utf8}
use Rattle.rtt_base.specs.declared.text_packets.PayloadTypes.{PayloadTypes}
use Rattle.wire_spec.specs.SentPackets.{packet_written}
use Rattle.wire_spec.specs.Rtp.{rtp, rtp_of_header}
use Rattle.wire_spec.specs.Red.{headers_at, red, red_within, texts_at, texts_within}
use Rattle.wire_spec.specs.Text.{short_within, text_of, text_of_short, text_within}
use Rattle.wire_spec.specs.Dump.{opening, dump_step, records_within, records, dump, record_written, dump_written}
use Rattle.wire_spec.specs.declared.faults.DumpKind.TheVariants.{NotDump}
use Rattle.stream_spec.specs.Hearing.{marker}
use Rattle.stream_spec.specs.History.{placed}
use Rattle.stream_spec.specs.Own.{Stream, Sent, sent_history, own_packet}
use Rattle.view_spec.specs.Characters.{class_of}
use Rattle.view_spec.specs.Shown.{shown}
use Rattle.view_spec.specs.Views.{source_view, counts_line}
use Rattle.command_spec.specs.Showing.{other_lines, end_line, show_refusal}
use Rattle.rtt_base.specs.Dates.{date_of}
use Rattle.report_spec.specs.Times.{start_of, began_line, day_text, time_text}
use Rattle.report_spec.specs.Showing.{show_view, stream_view, stream_title, pair_view, items_view}

-- ---- recordings
abbrev types : PayloadTypes
types = record { t140 = 98; red = 100 }

abbrev typist : Stream
typist = record { ssrc = 1001; first = 0; base = 0; generations = 2 }

abbrev typed : List Sent
typed =
    record { source = 1001; media = 900; text = [] } ∷ record { source = 1001; media = 600; text = [] }
    ∷ record { source = 1001; media = 300; text = codes "B" } ∷ record { source = 1001; media = 0; text = codes "A" } ∷ []

-- Ann types A, and B 300 ms later: four packets
abbrev packets : List (ℕ × List ℕ)
packets = map (λ x. (x.media, packet_written types (own_packet (sent_history typist typed) x))) (placed (sent_history typist typed))

abbrev two_letters : List ℕ
two_letters = dump_written packets

-- a record of RTCP at 50 ms
abbrev rtcp_record : List ℕ
rtcp_record = 0 ∷ 8 ∷ 0 ∷ 0 ∷ 0 ∷ 0 ∷ 0 ∷ 50 ∷ []

-- a packet of SSRC 7 and payload type 0, at 60 ms
abbrev of_sound : List ℕ
of_sound = record_written (60, 0x80 ∷ 0 ∷ 0 ∷ 1 ∷ 0 ∷ 0 ∷ 0 ∷ 0 ∷ 0 ∷ 0 ∷ 0 ∷ 7 ∷ 0x55 ∷ [])

abbrev with_others : List ℕ
with_others = take 74 two_letters ++ rtcp_record ++ of_sound ++ drop 74 two_letters

-- a packet of SSRC 1001 whose text is one letter, with this sequence number and this timestamp
abbrev letter : ℕ → ℕ → ℕ → List ℕ
letter seq timestamp octet = 0x80 ∷ 98 ∷ 0 ∷ seq ∷ 0 ∷ 0 ∷ 0 ∷ timestamp ∷ 0 ∷ 0 ∷ 3 ∷ 0xE9 ∷ octet ∷ []

abbrev with_gaps : List ℕ
with_gaps = dump_written ((0, letter 10 0 0x61) ∷ (100, letter 13 100 0x64) ∷ (1500, letter 12 90 0x63) ∷ [])

-- a packet of SSRC 7 and payload type 111
abbrev of_noise : ℕ → List ℕ
of_noise octet = 0x80 ∷ 111 ∷ 0 ∷ 1 ∷ 0 ∷ 0 ∷ 0 ∷ 0 ∷ 0 ∷ 0 ∷ 0 ∷ 7 ∷ octet ∷ []

abbrev noise : List (ℕ × List ℕ)
noise = (0, of_noise 0xC3) ∷ (5, of_noise 0xC3) ∷ (10, of_noise 0x55) ∷ []

-- a recording that has no record, with this start: seconds and microseconds
abbrev head_alone : List ℕ → List ℕ
head_alone start = codes "#!rtpplay1.0 127.0.0.1/5004\n" ++ start ++ 127 ∷ 0 ∷ 0 ∷ 1 ∷ 0x13 ∷ 0x8C ∷ 0 ∷ 0 ∷ []

-- 5148180 seconds, and 1250999 microseconds, which are more than a second
abbrev in_march : List ℕ
in_march = 0 ∷ 0x4E ∷ 0x8E ∷ 0x14 ∷ 0 ∷ 0x13 ∷ 0x16 ∷ 0xB7 ∷ []

-- ---- what is printed
show_two : show_view types with_others
    ≡ codes "== 1001 from 0 to 900\n1001: AB\n-- 1001 bells 0\n-- packets 4 used 4 refused 0 foreign 0\n-- ssrc 7 type 0 packets 1\n-- rtcp 1\n-- whole\n"
unfolding show_view start_of items_view stream_view stream_title pair_view other_lines end_line source_view counts_line digits text_within short_within rtp rtp_of_header red_within headers_at texts_within dump records records_within dump_step opening shown class_of is_utf8 chars encode_utf8
show_two = refl

-- without its last 13 octets, which are of the fourth packet
show_cut : show_view types (take 153 two_letters)
    ≡ codes "== 1001 from 0 to 600\n1001: AB\n-- 1001 bells 0\n-- packets 3 used 3 refused 0 foreign 0\n-- byte 136: EndsInside\n"
unfolding show_view start_of items_view stream_view stream_title pair_view other_lines end_line source_view counts_line digits text_within short_within rtp rtp_of_header red_within headers_at texts_within dump records records_within dump_step opening shown class_of is_utf8 chars encode_utf8
show_cut = refl

-- of those numbered 10, 13 and 12 the last comes 1400 ms behind the second: 11 was lost, and 12 is too late
show_gaps : show_view types with_gaps
    ≡ codes "== 1001 from 0 to 1500 lost 1 late 1\n1001: a" ++ marker ++ codes "d\n-- 1001 bells 0\n-- packets 3 used 2 refused 0 foreign 0\n-- whole\n"
unfolding show_view start_of items_view stream_view stream_title pair_view other_lines end_line source_view counts_line digits text_within short_within rtp rtp_of_header red_within headers_at texts_within dump records records_within dump_step opening shown class_of is_utf8 chars encode_utf8
show_gaps = refl

-- one of three payloads is text, and then one of two
show_noise : show_view types (dump_written noise) ≡ codes "-- ssrc 7 type 111 packets 3\n-- whole\n"
unfolding show_view start_of items_view stream_view stream_title pair_view other_lines end_line source_view counts_line digits text_within short_within rtp rtp_of_header red_within headers_at texts_within dump records records_within dump_step opening shown class_of is_utf8 chars encode_utf8
show_noise = refl

show_half : show_view types (dump_written (drop 1 noise)) ≡ codes "-- ssrc 7 type 111 packets 2 text\n-- whole\n"
unfolding show_view start_of items_view stream_view stream_title pair_view other_lines end_line source_view counts_line digits text_within short_within rtp rtp_of_header red_within headers_at texts_within dump records records_within dump_step opening shown class_of is_utf8 chars encode_utf8
show_half = refl

-- the start is the last line
show_start : show_view types (head_alone in_march ++ of_sound)
    ≡ codes "-- ssrc 7 type 0 packets 1\n-- whole\n-- began 1970-03-01 14:03:01.250\n"
unfolding show_view start_of began_line day_text time_text date_of items_view stream_view stream_title pair_view other_lines end_line source_view counts_line digits text_within short_within rtp rtp_of_header red_within headers_at texts_within dump records records_within dump_step opening shown class_of is_utf8 chars encode_utf8
show_start = refl

-- also where the recording breaks off, behind that
show_cut_start : show_view types (head_alone in_march ++ 0 ∷ [])
    ≡ codes "-- byte 44: EndsInside\n-- began 1970-03-01 14:03:01.250\n"
unfolding show_view start_of began_line day_text time_text date_of items_view stream_view stream_title pair_view other_lines end_line source_view counts_line digits text_within short_within rtp rtp_of_header red_within headers_at texts_within dump records records_within dump_step opening shown class_of is_utf8 chars encode_utf8
show_cut_start = refl

-- the first millisecond of 1970 is no start
show_no_start : show_view types (head_alone (0 ∷ 0 ∷ 0 ∷ 0 ∷ 0 ∷ 0 ∷ 3 ∷ 0xE7 ∷ [])) ≡ codes "-- whole\n"
unfolding show_view start_of items_view other_lines end_line dump records records_within dump_step opening digits is_utf8 chars encode_utf8
show_no_start = refl

-- with other payload types all are of one pair, which may be red with texts of type 98 inside
show_types : show_view (record { t140 = 96; red = 97 }) two_letters
    ≡ codes "-- ssrc 1001 type 100 packets 4 red of 98\n-- whole\n"
unfolding show_view start_of items_view stream_view stream_title pair_view other_lines end_line source_view counts_line digits text_within short_within rtp rtp_of_header red_within headers_at texts_within dump records records_within dump_step opening shown class_of is_utf8 chars encode_utf8
show_types = refl

-- octets that don't begin as a recording does are refused, and no others
empty_is_refused : show_refusal [] ≡ Some (record { byte = 0; kind = NotDump })
unfolding dump opening
empty_is_refused = refl

cut_is_shown : show_refusal (take 153 two_letters) ≡ None
unfolding is_utf8 dump records records_within dump_step opening
cut_is_shown = refl

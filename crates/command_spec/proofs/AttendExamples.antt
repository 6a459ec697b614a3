-- What `attend` comes to in a call of two, worked out by hand: Ann's recording has a record of RTCP too, which tells her name or
-- that she leaves.
use Rattle.std.proofs.Common.{◌≡◌, ℕ, List, [], ◌∷◌, ◌++◌, refl}
use Rattle.std.specs.Prelude.{codes, map}
use Rattle.std.specs.List.{flat_map}
use Rattle.std.specs.Str.{is_utf8, chars}
use Rattle.std.specs.Char.{encode_utf8}
use Rattle.wire_spec.specs.SentPackets.{packet_written}
use Rattle.wire_spec.specs.Rtp.{rtp, rtp_of_header}
use Rattle.wire_spec.specs.Red.{headers_at, red, red_within, texts_at, texts_within}
use Rattle.wire_spec.specs.Text.{short_within, text_of, text_of_short, text_within}
use Rattle.wire_spec.specs.Dump.{opening, dump_opening, dump_step, records_within, records, record_written, dump, dump_written}
use Rattle.stream_spec.specs.History.{placed}
use Rattle.stream_spec.specs.Own.{Stream, Sent, sent_history, own_packet}
use Rattle.file_spec.specs.Conference.{entry, leg_of, mixer_of, plan_of, stay_or_plan, time_or_other}
use Rattle.view_spec.specs.Characters.{class_of}
use Rattle.view_spec.specs.Shown.{shown}
use Rattle.view_spec.specs.Views.{aware_view}
use Rattle.wire_spec.specs.Rtcp.{rtcp, packets_within, packet_read, body_at, chunks, chunk_at, items_within}
use Rattle.wire_spec.specs.Recorded.{entries, entries_at, entries_within}
use Rattle.command_spec.specs.Work.{Made}
use Rattle.command_spec.specs.Outcomes.{Done, outcome}
use Rattle.command_spec.specs.Attending.{attending, said_by}
use Rattle.command_spec.proofs.MixExamples.{legs, lying, types, typist, text, break, to_ann, to_bob}

-- ---- the files
abbrev packets_of : Stream → List Sent → List (ℕ × List ℕ)
packets_of s sent = map (λ x. (x.media, packet_written types (own_packet (sent_history s sent) x))) (placed (sent_history s sent))

abbrev by_bob : List ℕ
by_bob = dump_written (packets_of (typist 1002) (text 1002 1600 [] ∷ text 1002 1300 [] ∷ text 1002 1000 (codes "Hi Ann") ∷ []))

abbrev of_ann : List Sent
of_ann = text 1001 1200 [] ∷ text 1001 900 [] ∷ text 1001 600 (codes "y" ++ break) ∷ text 1001 300 (codes "e") ∷ text 1001 0 (codes "H") ∷ []

-- her recording, with these octets of a record of RTCP before or behind the first packet
abbrev with_first : List ℕ → List (ℕ × List ℕ) → List ℕ
with_first rtcp packets = dump_opening ++ (rtcp ++ flat_map record_written packets)

abbrev with_second : List ℕ → List (ℕ × List ℕ) → List ℕ
with_second rtcp [] = with_first rtcp []
with_second rtcp (p ∷ packets) = dump_opening ++ (record_written p ++ (rtcp ++ flat_map record_written packets))

-- at 0: a source description of 1001, with the name `Ann Lee`
abbrev names_ann : List ℕ
names_ann = 0x00 ∷ 0x1C ∷ 0x00 ∷ 0x00 ∷ 0x00 ∷ 0x00 ∷ 0x00 ∷ 0x00 ∷ 0x81 ∷ 0xCA ∷ 0x00 ∷ 0x04 ∷ 0x00 ∷ 0x00 ∷ 0x03 ∷ 0xE9 ∷ 0x02 ∷ 0x07 ∷ 0x41 ∷ 0x6E ∷ 0x6E ∷ 0x20 ∷ 0x4C ∷ 0x65 ∷ 0x65 ∷ 0x00 ∷ 0x00 ∷ 0x00 ∷ []

-- at 100: 1001 leaves
abbrev ann_leaves : List ℕ
ann_leaves = 0x00 ∷ 0x10 ∷ 0x00 ∷ 0x00 ∷ 0x00 ∷ 0x00 ∷ 0x00 ∷ 0x64 ∷ 0x81 ∷ 0xCB ∷ 0x00 ∷ 0x01 ∷ 0x00 ∷ 0x00 ∷ 0x03 ∷ 0xE9 ∷ []

-- ---- what is sent: each text is repeated twice
-- where Ann left, only her first letter is
abbrev letter_to_bob : List (ℕ × List ℕ)
letter_to_bob =
    (0, 0x81 ∷ 0xE4 ∷ 0x00 ∷ 0x64 ∷ 0x00 ∷ 0x00 ∷ 0x13 ∷ 0x88 ∷ 0x00 ∷ 0x00 ∷ 0x23 ∷ 0x28 ∷ 0x00 ∷ 0x00 ∷ 0x03 ∷ 0xE9 ∷ 0xE2 ∷ 0xFF ∷ 0xFC ∷ 0x00 ∷ 0xE2 ∷ 0xFF ∷ 0xFC ∷ 0x00 ∷ 0x62 ∷ 0x48 ∷ []) ∷
    (300, 0x81 ∷ 0x64 ∷ 0x00 ∷ 0x65 ∷ 0x00 ∷ 0x00 ∷ 0x14 ∷ 0xB4 ∷ 0x00 ∷ 0x00 ∷ 0x23 ∷ 0x28 ∷ 0x00 ∷ 0x00 ∷ 0x03 ∷ 0xE9 ∷ 0xE2 ∷ 0xFF ∷ 0xFC ∷ 0x00 ∷ 0xE2 ∷ 0x04 ∷ 0xB0 ∷ 0x01 ∷ 0x62 ∷ 0x48 ∷ []) ∷
    (600, 0x81 ∷ 0x64 ∷ 0x00 ∷ 0x66 ∷ 0x00 ∷ 0x00 ∷ 0x15 ∷ 0xE0 ∷ 0x00 ∷ 0x00 ∷ 0x23 ∷ 0x28 ∷ 0x00 ∷ 0x00 ∷ 0x03 ∷ 0xE9 ∷ 0xE2 ∷ 0x09 ∷ 0x60 ∷ 0x01 ∷ 0xE2 ∷ 0x04 ∷ 0xB0 ∷ 0x00 ∷ 0x62 ∷ 0x48 ∷ []) ∷ []

abbrev files : List (ℕ × List ℕ) → List (ℕ × List ℕ) → List Made
files ann bob = record { name = codes "ann.out"; octets = dump_written ann } ∷ record { name = codes "bob.out"; octets = dump_written bob } ∷ []

-- the view of an aware terminal of this name, where these lines are shown of the other, and all packets that came were used
abbrev view : List ℕ → List ℕ → List (List ℕ) → ℕ → List ℕ
view name other lines came =
    aware_view name (record { name = other; display = record { lines = lines; bells = 0 } } ∷ []) (record { packets = came; used = came; refused = 0; foreign = 0 })

-- Ann is called by the name that her description has
sdes_name : outcome (lying legs (with_first names_ann (packets_of (typist 1001) of_ann)) by_bob) (attending (codes "c.txt"))
    ≡ Done (view (codes "Ann_Lee") (codes "Bob") (codes "Hi Ann" ∷ []) 3 ++ (view (codes "Bob") (codes "Ann_Lee") (codes "Hey" ∷ [] ∷ []) 5 ++ [])) (files to_ann to_bob)
unfolding said_by rtcp packets_within packet_read body_at chunks chunk_at items_within entries entries_at entries_within entry time_or_other stay_or_plan leg_of mixer_of plan_of is_utf8 chars encode_utf8 text_within short_within rtp rtp_of_header red_within headers_at texts_within dump records records_within dump_step opening shown class_of
sdes_name = refl

-- Ann left: what she sent later is not heard, and she is sent nothing
bye : outcome (lying (legs ++ codes "wait 0\n") (with_second ann_leaves (packets_of (typist 1001) of_ann)) by_bob) (attending (codes "c.txt"))
    ≡ Done (view (codes "Ann") (codes "Bob") ([] ∷ []) 0 ++ (view (codes "Bob") (codes "Ann") (codes "H" ∷ []) 3 ++ [])) (files [] letter_to_bob)
unfolding said_by rtcp packets_within packet_read body_at chunks chunk_at items_within entries entries_at entries_within entry time_or_other stay_or_plan leg_of mixer_of plan_of is_utf8 chars encode_utf8 text_within short_within rtp rtp_of_header red_within headers_at texts_within dump records records_within dump_step opening shown class_of
bye = refl

-- What `mix` comes to in a call of two, worked out by hand: Ann types `H`, `e`, and `y` with a line break, Bob types
-- `Hi Ann` a second later.
use Rattle.std.proofs.Common.{◌≡◌, ℕ, Bool, true, false, cond, Option, Some, None, List, [], ◌∷◌, ◌++◌, refl, ap}
use Rattle.std.specs.Prelude.{◌≢◌}
use Rattle.std.proofs.lemmas.Slice.Eq.{bytes_eq-Decides}
use Rattle.std.specs.Prelude.{codes, map, bytes_eq}
use Rattle.std.specs.Str.{is_utf8, chars}
use Rattle.std.specs.Char.{encode_utf8}
use Rattle.rtt_base.specs.declared.text_packets.PayloadTypes.{PayloadTypes}
use Rattle.wire_spec.specs.SentPackets.{packet_written}
use Rattle.wire_spec.specs.Rtp.{rtp, rtp_of_header}
use Rattle.wire_spec.specs.Red.{headers_at, red, red_within, texts_at, texts_within}
use Rattle.wire_spec.specs.Text.{short_within, text_of, text_of_short, text_within}
use Rattle.wire_spec.specs.Dump.{opening, dump_step, records_within, records, dump, dump_written}
use Rattle.wire_spec.specs.declared.faults.DumpKind.TheVariants.{NotDump}
use Rattle.stream_spec.specs.History.{placed}
use Rattle.stream_spec.specs.Own.{Stream, Sent, sent_history, own_packet}
use Rattle.file_spec.specs.declared.kinds.ConfKind.TheVariants.{Count}
use Rattle.file_spec.specs.Conference as line
use Rattle.file_spec.specs.Conference.{entry, leg_of, mixer_of, plan_of, stay_or_plan, time_or_other}
use Rattle.view_spec.specs.Characters.{class_of}
use Rattle.view_spec.specs.Shown.{shown}
use Rattle.view_spec.specs.Views.{aware_view}
use Rattle.command_spec.specs.declared.faults.Refusal.TheVariants.{AtByte, AtLine, AfterTurns}
use Rattle.command_spec.specs.Work.{Contents, Made}
use Rattle.command_spec.specs.Outcomes.{Refused, Done, outcome, Stores, AllStored}
use Rattle.command_spec.specs.Bridges.{IsBridged}
use Rattle.command_spec.proofs.Headlines.{bridged}
use Rattle.command_spec.specs.Mixing.{mixing}

-- ---- the files
abbrev pub legs : List ℕ
legs = codes "leg Ann aware 1001 ann.in ann.out\nleg Bob aware 1002 bob.in bob.out\nmixer 9000 100 5000\n"

-- what lies there: the conference, and in every other file a recording
abbrev pub lying : List ℕ → List ℕ → List ℕ → Contents
lying conference ann bob name = if_named (codes "c.txt") conference (if_named (codes "ann.in") ann (if_named (codes "bob.in") bob None))
  where
    if_named : List ℕ → List ℕ → Option (List ℕ) → Option (List ℕ)
    if_named file octets other = cond (bytes_eq name file) (Some octets) other

abbrev pub types : PayloadTypes
types = record { t140 = 98; red = 100 }

abbrev pub typist : ℕ → Stream
typist ssrc = record { ssrc = ssrc; first = 0; base = 0; generations = 2 }

abbrev pub text : ℕ → ℕ → List ℕ → Sent
text ssrc media octets = record { source = ssrc; media = media; text = octets }

-- U+2028
abbrev pub break : List ℕ
break = 226 ∷ 128 ∷ 168 ∷ []

abbrev pub recorded : Stream → List Sent → List ℕ
recorded s sent = dump_written (map (λ x. (x.media, packet_written types (own_packet (sent_history s sent) x))) (placed (sent_history s sent)))

abbrev by_ann : List ℕ
by_ann = recorded (typist 1001) (text 1001 1200 [] ∷ text 1001 900 [] ∷ text 1001 600 (codes "y" ++ break) ∷ text 1001 300 (codes "e") ∷ text 1001 0 (codes "H") ∷ [])

abbrev by_bob : List ℕ
by_bob = recorded (typist 1002) (text 1002 1600 [] ∷ text 1002 1300 [] ∷ text 1002 1000 (codes "Hi Ann") ∷ [])

-- ---- what is sent: each text is repeated twice
abbrev pub to_ann : List (ℕ × List ℕ)
to_ann =
    (1000, 0x81 ∷ 0xE4 ∷ 0x00 ∷ 0x64 ∷ 0x00 ∷ 0x00 ∷ 0x17 ∷ 0x70 ∷ 0x00 ∷ 0x00 ∷ 0x23 ∷ 0x28 ∷ 0x00 ∷ 0x00 ∷ 0x03 ∷ 0xEA ∷ 0xE2 ∷ 0xFF ∷ 0xFC ∷ 0x00 ∷ 0xE2 ∷ 0xFF ∷ 0xFC ∷ 0x00 ∷ 0x62 ∷ 0x48 ∷ 0x69 ∷ 0x20 ∷ 0x41 ∷ 0x6e ∷ 0x6e ∷ []) ∷
    (1300, 0x81 ∷ 0x64 ∷ 0x00 ∷ 0x65 ∷ 0x00 ∷ 0x00 ∷ 0x18 ∷ 0x9C ∷ 0x00 ∷ 0x00 ∷ 0x23 ∷ 0x28 ∷ 0x00 ∷ 0x00 ∷ 0x03 ∷ 0xEA ∷ 0xE2 ∷ 0xFF ∷ 0xFC ∷ 0x00 ∷ 0xE2 ∷ 0x04 ∷ 0xB0 ∷ 0x06 ∷ 0x62 ∷ 0x48 ∷ 0x69 ∷ 0x20 ∷ 0x41 ∷ 0x6e ∷ 0x6e ∷ []) ∷
    (1600, 0x81 ∷ 0x64 ∷ 0x00 ∷ 0x66 ∷ 0x00 ∷ 0x00 ∷ 0x19 ∷ 0xC8 ∷ 0x00 ∷ 0x00 ∷ 0x23 ∷ 0x28 ∷ 0x00 ∷ 0x00 ∷ 0x03 ∷ 0xEA ∷ 0xE2 ∷ 0x09 ∷ 0x60 ∷ 0x06 ∷ 0xE2 ∷ 0x04 ∷ 0xB0 ∷ 0x00 ∷ 0x62 ∷ 0x48 ∷ 0x69 ∷ 0x20 ∷ 0x41 ∷ 0x6e ∷ 0x6e ∷ []) ∷ []

abbrev pub to_bob : List (ℕ × List ℕ)
to_bob =
    (0, 0x81 ∷ 0xE4 ∷ 0x00 ∷ 0x64 ∷ 0x00 ∷ 0x00 ∷ 0x13 ∷ 0x88 ∷ 0x00 ∷ 0x00 ∷ 0x23 ∷ 0x28 ∷ 0x00 ∷ 0x00 ∷ 0x03 ∷ 0xE9 ∷ 0xE2 ∷ 0xFF ∷ 0xFC ∷ 0x00 ∷ 0xE2 ∷ 0xFF ∷ 0xFC ∷ 0x00 ∷ 0x62 ∷ 0x48 ∷ []) ∷
    (300, 0x81 ∷ 0x64 ∷ 0x00 ∷ 0x65 ∷ 0x00 ∷ 0x00 ∷ 0x14 ∷ 0xB4 ∷ 0x00 ∷ 0x00 ∷ 0x23 ∷ 0x28 ∷ 0x00 ∷ 0x00 ∷ 0x03 ∷ 0xE9 ∷ 0xE2 ∷ 0xFF ∷ 0xFC ∷ 0x00 ∷ 0xE2 ∷ 0x04 ∷ 0xB0 ∷ 0x01 ∷ 0x62 ∷ 0x48 ∷ 0x65 ∷ []) ∷
    (600, 0x81 ∷ 0x64 ∷ 0x00 ∷ 0x66 ∷ 0x00 ∷ 0x00 ∷ 0x15 ∷ 0xE0 ∷ 0x00 ∷ 0x00 ∷ 0x23 ∷ 0x28 ∷ 0x00 ∷ 0x00 ∷ 0x03 ∷ 0xE9 ∷ 0xE2 ∷ 0x09 ∷ 0x60 ∷ 0x01 ∷ 0xE2 ∷ 0x04 ∷ 0xB0 ∷ 0x01 ∷ 0x62 ∷ 0x48 ∷ 0x65 ∷ 0x79 ∷ 0xE2 ∷ 0x80 ∷ 0xA8 ∷ []) ∷
    (900, 0x81 ∷ 0x64 ∷ 0x00 ∷ 0x67 ∷ 0x00 ∷ 0x00 ∷ 0x17 ∷ 0x0C ∷ 0x00 ∷ 0x00 ∷ 0x23 ∷ 0x28 ∷ 0x00 ∷ 0x00 ∷ 0x03 ∷ 0xE9 ∷ 0xE2 ∷ 0x09 ∷ 0x60 ∷ 0x01 ∷ 0xE2 ∷ 0x04 ∷ 0xB0 ∷ 0x04 ∷ 0x62 ∷ 0x65 ∷ 0x79 ∷ 0xE2 ∷ 0x80 ∷ 0xA8 ∷ []) ∷
    (1200, 0x81 ∷ 0x64 ∷ 0x00 ∷ 0x68 ∷ 0x00 ∷ 0x00 ∷ 0x18 ∷ 0x38 ∷ 0x00 ∷ 0x00 ∷ 0x23 ∷ 0x28 ∷ 0x00 ∷ 0x00 ∷ 0x03 ∷ 0xE9 ∷ 0xE2 ∷ 0x09 ∷ 0x60 ∷ 0x04 ∷ 0xE2 ∷ 0x04 ∷ 0xB0 ∷ 0x00 ∷ 0x62 ∷ 0x79 ∷ 0xE2 ∷ 0x80 ∷ 0xA8 ∷ []) ∷ []

abbrev files : List Made
files = record { name = codes "ann.out"; octets = dump_written to_ann } ∷ record { name = codes "bob.out"; octets = dump_written to_bob } ∷ []

-- the view of an aware terminal of this name, where these lines are shown of the other, and all packets that came were used
abbrev view : List ℕ → List ℕ → List (List ℕ) → ℕ → List ℕ
view name other lines came =
    aware_view name (record { name = other; display = record { lines = lines; bells = 0 } } ∷ []) (record { packets = came; used = came; refused = 0; foreign = 0 })

-- behind the line break an empty line begins
abbrev printed : List ℕ
printed =
    view (codes "Ann") (codes "Bob") (codes "Hi Ann" ∷ []) 3
    ++ (view (codes "Bob") (codes "Ann") (codes "Hey" ∷ [] ∷ []) 5 ++ [])

-- seventeen turns are enough
call_of_two : outcome (lying (legs ++ codes "turns 17\n") by_ann by_bob) (mixing (codes "c.txt")) ≡ Done printed files
unfolding entry time_or_other stay_or_plan leg_of mixer_of plan_of is_utf8 chars encode_utf8 text_within short_within rtp rtp_of_header red_within headers_at texts_within dump records records_within dump_step opening shown class_of
call_of_two = refl

-- sixteen are not
turns_limit : outcome (lying (legs ++ codes "turns 16\n") by_ann by_bob) (mixing (codes "c.txt")) ≡ Refused 0 (AfterTurns 16)
unfolding entry time_or_other stay_or_plan leg_of mixer_of plan_of is_utf8 chars encode_utf8 text_within short_within rtp rtp_of_header red_within headers_at texts_within dump records records_within dump_step opening
turns_limit = refl

-- ---- Bob is sent each text once, and the second of his packets is lost: a marker stands there
abbrev once_to_bob : List (ℕ × List ℕ)
once_to_bob =
    (0, 0x81 ∷ 0xE2 ∷ 0x00 ∷ 0x64 ∷ 0x00 ∷ 0x00 ∷ 0x13 ∷ 0x88 ∷ 0x00 ∷ 0x00 ∷ 0x23 ∷ 0x28 ∷ 0x00 ∷ 0x00 ∷ 0x03 ∷ 0xE9 ∷ 0x48 ∷ []) ∷
    (300, 0x81 ∷ 0x62 ∷ 0x00 ∷ 0x65 ∷ 0x00 ∷ 0x00 ∷ 0x14 ∷ 0xB4 ∷ 0x00 ∷ 0x00 ∷ 0x23 ∷ 0x28 ∷ 0x00 ∷ 0x00 ∷ 0x03 ∷ 0xE9 ∷ 0x65 ∷ []) ∷
    (600, 0x81 ∷ 0x62 ∷ 0x00 ∷ 0x66 ∷ 0x00 ∷ 0x00 ∷ 0x15 ∷ 0xE0 ∷ 0x00 ∷ 0x00 ∷ 0x23 ∷ 0x28 ∷ 0x00 ∷ 0x00 ∷ 0x03 ∷ 0xE9 ∷ 0x79 ∷ 0xE2 ∷ 0x80 ∷ 0xA8 ∷ []) ∷ []

one_lost : outcome (lying (legs ++ codes "gens Bob 0\nlose Bob 1\n") by_ann by_bob) (mixing (codes "c.txt"))
    ≡ Done (view (codes "Ann") (codes "Bob") (codes "Hi Ann" ∷ []) 3 ++ (view (codes "Bob") (codes "Ann") ((codes "H" ++ 239 ∷ 191 ∷ 189 ∷ codes "y") ∷ [] ∷ []) 2 ++ []))
    (record { name = codes "ann.out"; octets = dump_written to_ann } ∷ record { name = codes "bob.out"; octets = dump_written once_to_bob } ∷ [])
unfolding entry time_or_other stay_or_plan leg_of mixer_of plan_of line.generations_of is_utf8 chars encode_utf8 text_within short_within rtp rtp_of_header red_within headers_at texts_within dump records records_within dump_step opening shown class_of
one_lost = refl

-- ---- what is refused
-- a leg without its output
bad_conference : outcome (lying (codes "mixer 9000 100 5000\nleg Ann aware 1001 ann.in\n") by_ann by_bob) (mixing (codes "c.txt")) ≡ Refused 0 (AtLine 2 Count)
unfolding entry time_or_other stay_or_plan leg_of mixer_of plan_of is_utf8 chars encode_utf8
bad_conference = refl

-- The second leg's recording is empty: its input is the third that is read.
broken_recording : outcome (lying legs (dump_written []) []) (mixing (codes "c.txt")) ≡ Refused 2 (AtByte 0 NotDump)
unfolding entry time_or_other stay_or_plan leg_of mixer_of plan_of is_utf8 chars encode_utf8 dump records records_within dump_step opening
broken_recording = refl

-- ---- the headline of that call, from its three files to its two
-- this file lies there in place of what lay there
abbrev writes : Made → Contents → Contents
writes f held name = cond (bytes_eq name f.name) (Some f.octets) (held name)

stores : (f : Made) (held : Contents) → Stores f held (writes f held)
stores f held = record {
  stored = ap (λ b. cond b (Some f.octets) (held f.name)) ((bytes_eq-Decides f.name f.name).1 refl);
  others = λ name n. go name (bytes_eq name f.name) (bytes_eq-Decides name f.name).0 n;
}
  where
    go : (name : List ℕ) (b : Bool) → (b ≡ true → name ≡ f.name) → name ≢ f.name → cond b (Some f.octets) (held name) ≡ held name
    go name true d n = absurd (n (d refl))
    go name false d n = refl

abbrev writes_all : List Made → Contents → Contents
writes_all [] held = held
writes_all (f ∷ fs) held = writes_all fs (writes f held)

all_stored : (fs : List Made) (held : Contents) → AllStored fs held (writes_all fs held)
all_stored [] held = λ name. refl
all_stored (f ∷ fs) held = (writes f held, stores f held, all_stored fs (writes f held))

call_bridged : let held = lying (legs ++ codes "turns 17\n") by_ann by_bob in IsBridged held (writes_all files held) (codes "c.txt") printed
call_bridged = let held = lying (legs ++ codes "turns 17\n") by_ann by_bob in bridged held (writes_all files held) (codes "c.txt") printed files call_of_two (all_stored files held)

-- What the definitions give on packets and recordings that stand in octets: each of these computes.
use Rattle.std.specs.Prelude.{◌≡◌, ℕ, ◌+◌, ◌-◌, ◌*◌, ◌==◌, Bool, true, false, List, [], ◌∷◌, ◌++◌, length, map, replicate, take, Option, None, Some, Result, Ok, Err, nat_lt, if◌then◌else◌, codes}
use Rattle.std.proofs.Common.{refl}
use Rattle.std.specs.Str.{is_utf8, chars}
use Rattle.std.specs.Int.{w32, to_be_bytes}
use lib.Utf8.{encode}
use Rattle.rtt_base.specs.declared.blocks.TextBlock.{TextBlock}
use Rattle.rtt_base.specs.declared.text_packets.PayloadTypes.{PayloadTypes}
use Rattle.wire_spec.specs.declared.faults.TextFault.{TextFault}
use Rattle.wire_spec.specs.declared.faults.TextFault.TheVariants.{Short, Version, Padding, Sources, WrongType, Cut, Many, Long, NotText, Foreign}
use Rattle.wire_spec.specs.declared.faults.DumpKind.{DumpKind}
use Rattle.wire_spec.specs.declared.faults.DumpKind.TheVariants.{NotDump, EndsInside, TooLong, TooLarge}
use Rattle.wire_spec.specs.Packets.{Packet, Arrival, primary}
use Rattle.wire_spec.specs.Rtp.{Head, rtp, rtp_of_header, rtp_written}
use Rattle.wire_spec.specs.Red.{headers_at, red, red_within, red_written, texts_at, texts_within}
use Rattle.wire_spec.specs.Text.{short_within, text_of, text_of_short, text_within}
use Rattle.wire_spec.specs.SentPackets.{packet_written}
use Rattle.wire_spec.specs.Dump.{Item, Whole, Fault, arrivals, opening, dump_step, records_within, records, dump, usual_limit, dump_written}

-- ---- octets in hexadecimal digits

abbrev digit : ℕ → ℕ
digit c = if nat_lt c 58 then c - 48 else c - 55

abbrev digits : List ℕ → List ℕ
digits [] = []
digits (c ∷ cs) = if c == 32 then digits cs else digit c ∷ digits cs

abbrev pairs : List ℕ → List ℕ
pairs [] = []
pairs (x ∷ []) = []
pairs (x ∷ y ∷ rest) = (16 * x + y) ∷ pairs rest

abbrev hex : List ℕ → List ℕ
hex text = pairs (digits text)

abbrev types : PayloadTypes
types = record { t140 = 98; red = 100 }

abbrev block : ℕ → List ℕ → TextBlock
block offset text = record { offset = offset; text = text }

-- ---- two letters, 300 ms apart, each repeated in the next two packets

abbrev packet : Bool → ℕ → ℕ → List TextBlock → List ℕ → Packet
packet marker_bit seq timestamp older text =
    record { marker_bit = marker_bit; seq = seq; timestamp = timestamp; ssrc = 1001; source = 1001; older = older; primary = text }

abbrev head : Bool → ℕ → ℕ → Head
head marker_bit seq timestamp = record { marker_bit = marker_bit; pt = 100; seq = seq; timestamp = timestamp; ssrc = 1001; csrc = None }

abbrev written : Bool → ℕ → ℕ → List TextBlock → List ℕ → List ℕ
written marker_bit seq timestamp older text = rtp_written (head marker_bit seq timestamp) (red_written (older ++ primary text ∷ []) types)

abbrev A : List ℕ
A = 65 ∷ []

abbrev B : List ℕ
B = 66 ∷ []

abbrev first : List ℕ
first = hex (codes "80E4 0000 00000000 000003E9 E2FFFC00 E2FFFC00 62 41")

abbrev second : List ℕ
second = hex (codes "8064 0001 0000012C 000003E9 E2FFFC00 E204B001 62 4142")

abbrev third : List ℕ
third = hex (codes "8064 0002 00000258 000003E9 E2096001 E204B001 62 4142")

abbrev fourth : List ℕ
fourth = hex (codes "8064 0003 00000384 000003E9 E2096001 E204B000 62 42")

first-written : written true 0 0 (block 16383 [] ∷ block 16383 [] ∷ []) A ≡ first
first-written = refl

first-reads : text_of first None types ≡ Ok (packet true 0 0 (block 16383 [] ∷ block 16383 [] ∷ []) A)
unfolding text_within short_within rtp rtp_of_header red_within headers_at texts_within is_utf8 chars encode
first-reads = refl

second-written : written false 1 300 (block 16383 [] ∷ block 300 A ∷ []) B ≡ second
second-written = refl

second-reads : text_of second None types ≡ Ok (packet false 1 300 (block 16383 [] ∷ block 300 A ∷ []) B)
unfolding text_within short_within rtp rtp_of_header red_within headers_at texts_within is_utf8 chars encode
second-reads = refl

third-written : written false 2 600 (block 600 A ∷ block 300 B ∷ []) [] ≡ third
third-written = refl

third-reads : text_of third None types ≡ Ok (packet false 2 600 (block 600 A ∷ block 300 B ∷ []) [])
unfolding text_within short_within rtp rtp_of_header red_within headers_at texts_within is_utf8 chars encode
third-reads = refl

fourth-written : written false 3 900 (block 600 B ∷ block 300 [] ∷ []) [] ≡ fourth
fourth-written = refl

fourth-reads : text_of fourth None types ≡ Ok (packet false 3 900 (block 600 B ∷ block 300 [] ∷ []) [])
unfolding text_within short_within rtp rtp_of_header red_within headers_at texts_within is_utf8 chars encode
fourth-reads = refl

-- ---- one letter of the source 1001 in a mixer's stream, at 5000: in red form, and in plain form where nothing is repeated

abbrev mixed : List TextBlock → Packet
mixed older = record { marker_bit = true; seq = 100; timestamp = 5000; ssrc = 9000; source = 1001; older = older; primary = 72 ∷ [] }

abbrev two_headers : List ℕ
two_headers = hex (codes "81E4 0064 00001388 00002328 000003E9 E2FFFC00 E2FFFC00 62 48")

abbrev no_header : List ℕ
no_header = hex (codes "81E2 0064 00001388 00002328 000003E9 48")

mixed-red : packet_written types (mixed (block 16383 [] ∷ block 16383 [] ∷ [])) ≡ two_headers
mixed-red = refl

mixed-plain : packet_written types (mixed []) ≡ no_header
mixed-plain = refl

mixed-plain-reads : text_of no_header (Some 9000) types ≡ Ok (mixed [])
unfolding text_within short_within rtp rtp_of_header red_within headers_at texts_within is_utf8 chars encode
mixed-plain-reads = refl

-- a stream's own text has no CSRC
own-plain : packet_written types (packet true 0 0 [] A) ≡ hex (codes "80E2 0000 00000000 000003E9 41")
own-plain = refl

-- ---- the recording of the two letters, of 166 octets

abbrev recording_to : ℕ → List ℕ
recording_to time =
    codes "#!rtpplay1.0 127.0.0.1/5004" ++ 10 ∷ hex (codes "00000000 00000000 7F000001 138C 0000")
    ++ hex (codes "001E 0016") ++ to_be_bytes w32 time ++ first
    ++ hex (codes "001F 0017 0000012C") ++ second
    ++ hex (codes "001F 0017 00000258") ++ third
    ++ hex (codes "001E 0016 00000384") ++ fourth

abbrev recording : List ℕ
recording = recording_to 0

abbrev sent : ℕ → List ℕ → Item
sent time octets = record { time = time; what = Whole octets }

recording-size : length recording ≡ 166
recording-size = refl

recording-written : dump_written ((0, first) ∷ (300, second) ∷ (600, third) ∷ (900, fourth) ∷ []) ≡ recording
recording-written = refl

recording-reads : dump usual_limit recording ≡ record { items = sent 0 first ∷ sent 300 second ∷ sent 600 third ∷ sent 900 fourth ∷ []; fault = None }
unfolding dump records records_within dump_step opening
recording-reads = refl

abbrev came : ℕ → Packet → Arrival
came time p = record { time = time; packet = p }

recording-arrivals : arrivals recording 1001 types ≡
    came 900 (packet false 3 900 (block 600 B ∷ block 300 [] ∷ []) [])
    ∷ came 600 (packet false 2 600 (block 600 A ∷ block 300 B ∷ []) [])
    ∷ came 300 (packet false 1 300 (block 16383 [] ∷ block 300 A ∷ []) B)
    ∷ came 0 (packet true 0 0 (block 16383 [] ∷ block 16383 [] ∷ []) A) ∷ []
unfolding text_within short_within rtp rtp_of_header red_within headers_at texts_within is_utf8 chars encode arrivals dump records records_within dump_step opening
recording-arrivals = refl

other-stream : arrivals recording 7 types ≡ []
unfolding text_within short_within rtp rtp_of_header red_within headers_at texts_within is_utf8 chars encode arrivals dump records records_within dump_step opening
other-stream = refl

-- Its times fall, and between its packets stand one of another stream, one that is cut, one of RTCP and one that is no
-- packet, each at 5 s: these hand in no time.
abbrev falling : List ℕ
falling =
    take 44 recording
    ++ hex (codes "001E 0016 0000012C") ++ first
    ++ hex (codes "001F 0017 00001388") ++ hex (codes "8064 0001 0000012C 00000007 E2FFFC00 E204B001 62 4142")
    ++ hex (codes "0009 0002 00001388 80")
    ++ hex (codes "0008 0000 00001388")
    ++ hex (codes "0009 0001 00001388 80")
    ++ hex (codes "001F 0017 00000064") ++ second
    ++ hex (codes "001F 0017 00000190") ++ third

falling-arrivals : arrivals falling 1001 types ≡
    came 400 (packet false 2 600 (block 600 A ∷ block 300 B ∷ []) [])
    ∷ came 300 (packet false 1 300 (block 16383 [] ∷ block 300 A ∷ []) B)
    ∷ came 300 (packet true 0 0 (block 16383 [] ∷ block 16383 [] ∷ []) A) ∷ []
unfolding text_within short_within rtp rtp_of_header red_within headers_at texts_within is_utf8 chars encode arrivals dump records records_within dump_step opening
falling-arrivals = refl

abbrev fault : ℕ → DumpKind → Option Fault
fault byte kind = Some (record { byte = byte; kind = kind })

after-four-hours : (dump usual_limit (recording_to 14400001)).fault ≡ fault 44 TooLong
unfolding dump records records_within dump_step opening
after-four-hours = refl

one-octet-less : (dump usual_limit (take 165 recording)).fault ≡ fault 136 EndsInside
unfolding dump records records_within dump_step opening
one-octet-less = refl

past-the-limit : (dump 165 recording).fault ≡ fault 136 TooLarge
unfolding dump records records_within dump_step opening
past-the-limit = refl

nothing-at-all : (dump usual_limit []).fault ≡ fault 0 NotDump
unfolding dump records records_within dump_step opening
nothing-at-all = refl

opening-alone : dump usual_limit (take 44 recording) ≡ record { items = []; fault = None }
unfolding dump records records_within dump_step opening
opening-alone = refl

-- ---- packets that are refused, and their neighbours that are not

abbrev H : List ℕ
H = hex (codes "0000 00000000 000003E9")

abbrev octets_of : List ℕ → List ℕ → List ℕ
octets_of front behind = hex front ++ (H ++ hex behind)

abbrev plain : ℕ → List ℕ → Result Packet TextFault
plain source text = Ok (record { marker_bit = false; seq = 0; timestamp = 0; ssrc = 1001; source = source; older = []; primary = text })

abbrev empty : TextBlock
empty = block 16383 []

-- octets, and what they are as a packet of text
abbrev neighbours : List (List ℕ × Result Packet TextFault)
neighbours =
    -- one octet
    (hex (codes "80"), Err Short)
    -- version 1
    ∷ (hex (codes "40E4") ++ H, Err Version)
    -- a CSRC that passes the end
    ∷ (hex (codes "81E4") ++ H, Err Short)
    -- padding of no octet
    ∷ (octets_of (codes "A0E4") (codes "00"), Err Padding)
    -- padding, but no octets
    ∷ (hex (codes "A0E4") ++ H, Err Padding)
    -- padding of one octet
    ∷ (octets_of (codes "A062") (codes "41 01"), plain 1001 A)
    -- an extension
    ∷ (octets_of (codes "9062") (codes "BEDE0001 00000000 41"), plain 1001 A)
    -- an extension that passes the end
    ∷ (octets_of (codes "9062") (codes "BEDE0002 00000000"), Err Short)
    -- two sources
    ∷ (octets_of (codes "8262") (codes "00000001 00000002 41"), Err Sources)
    -- one source
    ∷ (octets_of (codes "8162") (codes "00000007 41"), plain 7 A)
    -- another payload type
    ∷ (octets_of (codes "8000") (codes "41"), Err WrongType)
    -- no text
    ∷ (hex (codes "8062") ++ H, plain 1001 [])
    -- no header of a block
    ∷ (hex (codes "8064") ++ H, Err Cut)
    -- a header of a block that passes the end
    ∷ (octets_of (codes "8064") (codes "E2FFFC"), Err Cut)
    -- a text that passes the end
    ∷ (octets_of (codes "8064") (codes "E2FFFC01 62"), Err Cut)
    -- a block of another type
    ∷ (octets_of (codes "8064") (codes "E1FFFC00 62"), Err WrongType)
    -- eight redundant blocks
    ∷ (octets_of (codes "8064") (codes "E2FFFC00 E2FFFC00 E2FFFC00 E2FFFC00 E2FFFC00 E2FFFC00 E2FFFC00 E2FFFC00 62 41"), Ok (packet false 0 0 (replicate 8 empty) A))
    -- nine redundant blocks
    ∷ (octets_of (codes "8064") (codes "E2FFFC00 E2FFFC00 E2FFFC00 E2FFFC00 E2FFFC00 E2FFFC00 E2FFFC00 E2FFFC00 E2FFFC00 62 41"), Err Many)
    -- no UTF-8
    ∷ (octets_of (codes "8064") (codes "62 C3"), Err NotText)
    -- the ninth redundant block is of another type
    ∷ (octets_of (codes "8064") (codes "E2FFFC00 E2FFFC00 E2FFFC00 E2FFFC00 E2FFFC00 E2FFFC00 E2FFFC00 E2FFFC00 E1FFFC00 62 41"), Err Many)
    ∷ []

neighbours-read : map (λ r. text_of r.0 None types) neighbours ≡ map (λ r. r.1) neighbours
unfolding text_within short_within rtp rtp_of_header red_within headers_at texts_within is_utf8 chars encode
neighbours-read = refl

foreign : text_of first (Some 7) types ≡ Err Foreign
unfolding text_within short_within rtp rtp_of_header red_within headers_at texts_within is_utf8 chars encode
foreign = refl

-- of another stream, and with two sources
foreign-with-two-sources : text_of (octets_of (codes "8262") (codes "00000001 00000002 41")) (Some 7) types ≡ Err Foreign
unfolding text_within short_within rtp rtp_of_header red_within headers_at texts_within is_utf8 chars encode
foreign-with-two-sources = refl

-- ---- the greatest text and the greatest packet

-- octets at a limit or past it, and what they are as a packet of text
abbrev greatest : List (List ℕ × Result Packet TextFault)
greatest =
    -- a text of 1023 octets
    (hex (codes "8062") ++ (H ++ replicate 1023 65), plain 1001 (replicate 1023 65))
    -- one more
    ∷ (hex (codes "8062") ++ (H ++ replicate 1024 65), Err Long)
    -- a primary text of 1023 octets
    ∷ (hex (codes "8064") ++ (H ++ (98 ∷ replicate 1023 65)), plain 1001 (replicate 1023 65))
    -- one more
    ∷ (hex (codes "8064") ++ (H ++ (98 ∷ replicate 1024 65)), Err Long)
    -- 4224 octets of another type, so that only their length is looked at before
    ∷ (hex (codes "8000") ++ (H ++ replicate 4212 65), Err WrongType)
    -- one more
    ∷ (hex (codes "8000") ++ (H ++ replicate 4213 65), Err Long)
    ∷ []

greatest-read : map (λ r. text_of r.0 None types) greatest ≡ map (λ r. r.1) greatest
unfolding text_within short_within rtp rtp_of_header red_within headers_at texts_within is_utf8 chars encode
greatest-read = refl

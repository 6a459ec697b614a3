-- What is relayed of two letters, and what a channel carries of them, worked out by hand.
use Rattle.std.proofs.Common.{◌≡◌, ℕ, Ok, Err, List, [], ◌∷◌, ◌++◌, refl}
use Rattle.std.specs.Prelude.{codes, ◌+◌, ◌-◌, ◌*◌, nat_lt, take, if◌then◌else◌}
use Rattle.std.specs.Str.{chars, is_utf8}
use Rattle.std.specs.Char.{encode_utf8}
use Rattle.wire_spec.specs.Dump.{dump_opening, dump, opening, dump_step, records_within, records, arrivals}
use Rattle.wire_spec.specs.Text.{short_within, text_of, text_of_short, text_within}
use Rattle.wire_spec.specs.Rtp.{rtp, rtp_of_header}
use Rattle.wire_spec.specs.Red.{headers_at, red, red_within, texts_at, texts_within}
use Rattle.file_spec.specs.declared.frame_kinds.FrameKind.TheVariants.{EndsInside, Length}
use Rattle.file_spec.specs.Frames.{frame_step, reading_from, reading_within}
use Rattle.command_spec.specs.Usual.{usual_payload_types}
use Rattle.command_spec.specs.Scripts.{Sending, events_before, first_from, first_end}
use Rattle.command_spec.specs.Frames.{relay, channel}

-- octets in hexadecimal digits
abbrev pub digit : ℕ → ℕ
digit c = if nat_lt c 58 then c - 48 else c - 55

abbrev pub hex : List ℕ → List ℕ
hex [] = []
hex (x ∷ []) = []
hex (x ∷ y ∷ more) = (16 * digit x + digit y) ∷ hex more

-- A at 0 and B at 300
frames : List ℕ
frames = hex (codes "000000000001410000012C000142")

-- the packets at 0, 300, 600 and 900, each behind the lengths of its record and its packet
letters : List ℕ
letters = hex (codes "001E00160000000080E4000000000000000003E9E2FFFC00E2FFFC006241")
    ++ hex (codes "001F00170000012C806400010000012C000003E9E2FFFC00E204B001624142")
    ++ hex (codes "001F0017000002588064000200000258000003E9E2096001E204B001624142")
    ++ hex (codes "001E0016000003848064000300000384000003E9E2096001E204B0006242")

-- the same in 9 ms: A at 0 and B at 3, at most one packet in 3 ms
soon : List ℕ
soon = hex (codes "0000000000014100000003000142")

often : Sending
often = record { stream = record { ssrc = 1001; first = 0; base = 0; generations = 2 }; interval = 3; payload_types = usual_payload_types }

soon_letters : List ℕ
soon_letters = hex (codes "001E00160000000080E4000000000000000003E9E2FFFC00E2FFFC006241")
    ++ hex (codes "001F0017000000038064000100000003000003E9E2FFFC00E2000C01624142")
    ++ hex (codes "001F0017000000068064000200000006000003E9E2001801E2000C01624142")
    ++ hex (codes "001E0016000000098064000300000009000003E9E2001801E2000C006242")

soon_is_relayed : relay often soon ≡ Ok (dump_opening ++ soon_letters)
unfolding soon often hex digit soon_letters reading_from reading_within frame_step is_utf8 chars encode_utf8 events_before first_from first_end
soon_is_relayed = refl

-- its second frame begins at byte 7 and is cut
cut_is_refused : (s : Sending) → relay s (take 13 frames) ≡ Err (record { offset = 7; kind = EndsInside })
unfolding frames hex digit reading_from reading_within frame_step is_utf8 chars encode_utf8
cut_is_refused s = refl

-- a frame has a text
no_text_is_refused : (s : Sending) → relay s (hex (codes "000000000000")) ≡ Err (record { offset = 0; kind = Length })
unfolding hex digit reading_from reading_within frame_step
no_text_is_refused s = refl

-- the recording has the letters back, each at the moment of its packet
letters_are_back : channel 1001 (dump_opening ++ letters) ≡ Ok frames
unfolding frames letters hex digit dump opening dump_step records_within records arrivals text_within short_within rtp rtp_of_header red_within headers_at texts_within is_utf8 chars encode_utf8
letters_are_back = refl

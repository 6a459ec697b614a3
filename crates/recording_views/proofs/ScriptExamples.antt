-- A recording that has the premises of the law.
use Rattle.std.proofs.Common.{◌≡◌, ℕ, ◌≤◌, Ok, List, [], ◌∷◌, length, refl, ap, sym, ◌∙◌, subst, arith}
use Rattle.std.specs.Prelude.{codes, All}
use Rattle.std.specs.Str.{chars, is_utf8}
use Rattle.std.specs.Char.{encode_utf8}
use Rattle.std.specs.Fmt.{digits}
use Rattle.std.proofs.lemmas.List.Elements.{All-nil, All-cons}
use Rattle.wire_spec.specs.Rtp.{rtp, rtp_of_header}
use Rattle.wire_spec.specs.Red.{headers_at, red, red_within, texts_at, texts_within}
use Rattle.wire_spec.specs.Text.{short_within, text_of, text_of_short, text_within}
use Rattle.wire_spec.specs.Dump.{dump, opening, dump_step, records, records_within, dump_written}
use Rattle.stream_spec.specs.Ready.{Chunk, chunk}
use Rattle.view_spec.specs.Characters.{class_of}
use Rattle.file_spec.specs.Script.{script}
use Rattle.file_spec.specs.declared.limits.TheConstants.{MOST_SCRIPT_OCTETS}
use Rattle.command_spec.specs.declared.requests.ReadRequest.{ReadRequest}
use Rattle.command_spec.specs.Transcripts.{escaped, chunks_read, transcript_view}
use Rattle.recording_views.specs.Laws.{IsSayable, script_lines}
use Rattle.recording_views.proofs.Reading.{is_script}

abbrev asked : ReadRequest
asked = record { ssrc = 1001; source = 1001; payload_types = record { t140 = 98; red = 100 } }

-- a sender types A and, 300 ms later, a new line
two_texts : List ℕ
two_texts = dump_written (
    (0, 0x80 ∷ 0x62 ∷ 0x00 ∷ 0x00 ∷ 0x00 ∷ 0x00 ∷ 0x00 ∷ 0x00 ∷ 0x00 ∷ 0x00 ∷ 0x03 ∷ 0xE9 ∷ 0x41 ∷ []) ∷
    (300, 0x80 ∷ 0x62 ∷ 0x00 ∷ 0x01 ∷ 0x00 ∷ 0x00 ∷ 0x01 ∷ 0x2C ∷ 0x00 ∷ 0x00 ∷ 0x03 ∷ 0xE9 ∷ 0xE2 ∷ 0x80 ∷ 0xA8 ∷ []) ∷ [])

abbrev heard : List Chunk
heard = chunk 0 0 (0x41 ∷ []) ∷ chunk 0 300 (0xE2 ∷ 0x80 ∷ 0xA8 ∷ []) ∷ []

heard_is : chunks_read asked two_texts ≡ heard
unfolding two_texts is_utf8 rtp rtp_of_header red_within headers_at texts_within text_within short_within dump opening dump_step records records_within chars encode_utf8
heard_is = refl

printed_is : transcript_view asked two_texts ≡ codes "0 A\n300 \\n\n"
unfolding two_texts transcript_view escaped is_utf8 rtp rtp_of_header red_within headers_at texts_within text_within short_within dump opening dump_step records records_within class_of chars encode_utf8 digits
printed_is = refl

all_sayable : All IsSayable heard
unfolding class_of chars
all_sayable =
    All-cons IsSayable (chunk 0 0 (0x41 ∷ [])) (chunk 0 300 (0xE2 ∷ 0x80 ∷ 0xA8 ∷ []) ∷ []) (record { early = omega arith; plain = refl })
    (All-cons IsSayable (chunk 0 300 (0xE2 ∷ 0x80 ∷ 0xA8 ∷ [])) [] (record { early = omega arith; plain = refl }) (All-nil IsSayable))

-- so what is printed is their script
is_their_script : script (transcript_view asked two_texts) ≡ Ok (script_lines 1 heard)
is_their_script =
    let size = ap length printed_is in
    let small : length (transcript_view asked two_texts) ≤ MOST_SCRIPT_OCTETS = omega (arith, size) in
    is_script asked two_texts (subst (All IsSayable) (sym heard_is) all_sayable) small ∙ ap (λ cs. Ok (script_lines 1 cs)) heard_is

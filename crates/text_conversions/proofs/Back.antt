-- The text of frames that are relayed and heard again.
use Rattle.std.proofs.Common.{◌≡◌, ℕ, ◌+◌, length, List, [], ◌∷◌, ◌++◌, map, refl, ap, sym, ◌∙◌}
use Rattle.std.specs.List.{concat, flat_map}
use Rattle.rtt_base.specs.declared.text_packets.PayloadTypes.{PayloadTypes}
use Rattle.wire_spec.specs.Dump.{arrivals}
use Rattle.stream_spec.specs.Hearing.{heard}
use Rattle.stream_spec.specs.Ready.{Chunk}
use Rattle.stream_spec.proofs.ChunkTexts.{chunk_texts}
use Rattle.file_spec.specs.declared.frame_limits.TheConstants.{FRAME_HEAD_OCTETS}
use Rattle.file_spec.specs.declared.frames.Frame.{Frame}
use Rattle.packetizer.specs.declared.senders.SenderSettings.{SenderSettings}
use Rattle.command_spec.specs.Scripts.{text_of_lines}
use Rattle.command_spec.specs.Frames.{chunk_frame, channel_chunks, channel_frames, lines_from, lines_of}
use Rattle.command_spec.specs.Reading.{usual_wait}
use Rattle.command_spec.specs.Usual.{usual_payload_types}
use Rattle.text_conversions.specs.Scripts.{IsEnd, recording_sent}
use Rattle.text_conversions.specs.Recordings.{IsReadable}
use Rattle.text_conversions.proofs.Heard.{script_heard}

lines_text : (byte : ℕ) (fs : List Frame) → text_of_lines (lines_from byte fs) ≡ flat_map (λ f. f.text) fs
lines_text byte [] = refl
lines_text byte (f ∷ fs) = ap (λ text. f.text ++ text) (lines_text (byte + (FRAME_HEAD_OCTETS + length f.text)) fs)

frames_text : (cs : List Chunk) → flat_map (λ f. f.text) (map chunk_frame cs) ≡ concat (map (λ c. c.text) cs)
frames_text [] = refl
frames_text (c ∷ cs) = ap (λ text. c.text ++ text) (frames_text cs)

pub given_back : (settings : SenderSettings) (fs : List Frame) (t : ℕ) → settings.payload_types ≡ usual_payload_types → IsReadable settings (lines_of fs) t → IsEnd settings (lines_of fs) t
    → flat_map (λ f. f.text) (channel_frames settings.ssrc (recording_sent settings (lines_of fs) t)) ≡ flat_map (λ f. f.text) fs
given_back settings fs t p r e =
    frames_text (channel_chunks settings.ssrc (recording_sent settings (lines_of fs) t))
    ∙ ap concat (chunk_texts usual_wait 0 (arrivals (recording_sent settings (lines_of fs) t) settings.ssrc usual_payload_types) settings.ssrc)
    ∙ ap (λ (payload_types : PayloadTypes). concat (heard usual_wait (arrivals (recording_sent settings (lines_of fs) t) settings.ssrc payload_types) settings.ssrc)) (sym p)
    ∙ script_heard settings (lines_of fs) t usual_wait r.settings_is r.ssrc r.lines_are r.until e r.moments r.size
    ∙ lines_text 0 fs

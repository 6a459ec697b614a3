-- What holds of frames that are relayed and heard again.
use Rattle.std.specs.Prelude.{◌≡◌, ℕ, List}
use Rattle.std.specs.List.{flat_map}
use Rattle.file_spec.specs.declared.frames.Frame.{Frame}
use Rattle.packetizer.specs.declared.senders.SenderSettings.{SenderSettings}
use Rattle.text_conversions.specs.Scripts.{IsEnd, recording_sent}
use Rattle.text_conversions.specs.Recordings.{IsReadable}
use Rattle.command_spec.specs.Frames.{channel_frames, lines_of}
use Rattle.command_spec.specs.Usual.{usual_payload_types}

abbrev pub text_of_frames : List Frame → List ℕ
text_of_frames fs = flat_map (λ f. f.text) fs

-- what is heard, as frames, of the recording in which they are sent until this moment
abbrev pub frames_back : SenderSettings → List Frame → ℕ → List Frame
frames_back settings fs t = channel_frames settings.ssrc (recording_sent settings (lines_of fs) t)

-- they give the text of all frames back, in order, where all is sent by then and can be read
abbrev pub ComesBack : SenderSettings → List Frame → ℕ → Type 0
ComesBack settings fs t =
    settings.payload_types ≡ usual_payload_types → IsReadable settings (lines_of fs) t → IsEnd settings (lines_of fs) t
    → text_of_frames (frames_back settings fs t) ≡ text_of_frames fs

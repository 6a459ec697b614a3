-- Words of the laws on an output.
use Rattle.std.specs.Prelude.{◌≡◌, ℕ, false, List, ◌∷◌, length}
use Rattle.stream_spec.specs.Lists.{In}
use Rattle.stream_spec.specs.History.{History, Placed, placed}
use Rattle.stream_spec.specs.Own.{Sent, Closed, sent_of, has_text_in, sent_history, own_packet, packet_after}
use Rattle.packetizer.specs.declared.outputs.PacketizerSettings.{PacketizerSettings}
use Rattle.packetizer.specs.OutputSettings.{AreSettings, stream_of}
use Rattle.packetizer.specs.Speakers.{EachIsNext}

-- the history of what an output sent
abbrev pub history_sent : PacketizerSettings → List Sent → History
history_sent settings past = sent_history (stream_of settings) past

-- this holds of each configuration and of all that may be sent
abbrev pub OfEach : (PacketizerSettings → List Sent → Type 0) → Type 0
OfEach P = (settings : PacketizerSettings) (past : List Sent) → AreSettings settings
    → EachIsNext (stream_of settings) past → P settings past

-- where nothing is left to be repeated, each text was repeated as often as it is to be
abbrev pub IsClosedAtEnd : PacketizerSettings → List Sent → Type 0
IsClosedAtEnd settings past =
    ((s : ℕ) → has_text_in settings.generations (sent_of s past) ≡ false)
    → Closed settings.generations (history_sent settings past)

-- the packet of x, the last entry of the history with e, is the one that is sent of e
abbrev pub IsOfLastEntry : PacketizerSettings → List Sent → Sent → Placed → Type 0
IsOfLastEntry settings past e x =
    In x (placed (history_sent settings (e ∷ past))) → x.place ≡ length past
    → own_packet (history_sent settings (e ∷ past)) x ≡ packet_after (stream_of settings) past e

-- What a sender stands for: a script, and the packets that it tells.
use Rattle.std.specs.Prelude.{◌≡◌, ℕ, Bool, Option, None, Some, List, [], ◌∷◌}
use Rattle.stream_spec.specs.History.{History}
use Rattle.stream_spec.specs.Typed as script
use Rattle.stream_spec.specs.Typed.{Event, Turned, IsScript, sents, entries, waiting, next_due, history_typed}
use Rattle.packetizer.specs.OutputStanding as outputs
use Rattle.packetizer.specs.declared.senders.SenderSettings.{SenderSettings}
use Rattle.packetizer.specs.declared.senders.Last.{Last}
use Rattle.packetizer.specs.SenderSettings.{stream_of, output_of}
use Rattle.packetizer.specs.SenderStates.{State}

-- what a sender of this configuration sent and what waits, after this script
abbrev pub sent_by : SenderSettings → List Event → List Turned
sent_by settings past = entries (stream_of settings) settings.interval past

abbrev pub waits_for : SenderSettings → List Event → List ℕ
waits_for settings past = waiting (stream_of settings) settings.interval past

-- text waits, or is still to be repeated
abbrev pub has_more : SenderSettings → List Event → Bool
has_more settings past = script.has_more (stream_of settings) settings.interval past

-- the moment from which the next packet is due
abbrev pub next_due_of : SenderSettings → List Event → Option ℕ
next_due_of settings past = next_due (stream_of settings) settings.interval past

-- the history of what was sent
abbrev pub history_sent : SenderSettings → List Event → History
history_sent settings past = history_typed (stream_of settings) settings.interval past

-- the moment and the media time of the last packet
abbrev pub last_of : List Turned → Option Last
last_of [] = None
last_of (e ∷ es) = Some (record { at = e.at; media = e.sent.media })

-- The sender was given the texts and was asked at the moments of this script, newest first.
pub record SenderStandsFor (settings : SenderSettings) (s : State) (past : List Event) : Type 0 where
  pub script : IsScript past
  pub settings_is : s.settings ≡ settings
  pub waits : s.waits ≡ waits_for settings past
  pub output : outputs.PacketizerStandsFor (output_of settings) (settings.ssrc ∷ []) s.output (sents (sent_by settings past))
  pub last : s.last ≡ last_of (sent_by settings past)

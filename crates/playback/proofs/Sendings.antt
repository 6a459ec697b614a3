-- How many packets were sent to a terminal, and what their recording is.
use Rattle.std.proofs.Common.{◌≡◌, ℕ, ◌+◌, ◌-◌, ◌<◌, ◌≤◌, ◌^◌, List, [], ◌∷◌, ◌++◌, length, map, drop, refl, sym, ap, ◌∙◌, arith, length-append}
use Rattle.std.proofs.lemmas.List.{map-append}
use Rattle.wire_spec.specs.Dump.{Item, sent_item}
use Rattle.stream_spec.specs.Own.{Sent}
use Rattle.packetizer.specs.declared.outputs.PacketizerSettings.{PacketizerSettings}
use Rattle.packetizer.specs.Sending.{octets_of}
use Rattle.sent_log.specs.States.{State, IsLawful, OfTerminal, recording_of, records_of, sents}
use Rattle.playback.specs.Written.{IsPlayable, IsWritten}
use Rattle.sent_log.proofs.Recorded.{terminal_there as sending_of}

-- ---- their packets

pub records_count : (settings : PacketizerSettings) (sent : List (ℕ × Sent)) → length (records_of settings sent) ≡ length sent
records_count settings [] = refl
records_count settings (e ∷ past) =
    omega (arith, length-append (records_of settings past) ((e.0, octets_of settings (sents past) e.1) ∷ []), records_count settings past)

-- they are fewer than 2^32
pub few_sent : (log : State) (terminal count : ℕ) → terminal < length log → OfTerminal log terminal IsPlayable → OfTerminal log terminal (λ x. count ≡ length x.sent) → count < 2 ^ 32
few_sent log terminal count low p c =
    let x = sending_of log terminal low in
    omega (arith, c x.0 x.1, records_count x.0.settings x.0.sent, (p x.0 x.1).written.few)

-- their recording is one of some records
pub recording_is : (log : State) (terminal : ℕ) (octets recording : List ℕ) → terminal < length log → OfTerminal log terminal IsPlayable → OfTerminal log terminal (λ x. IsLawful x → recording ≡ recording_of x) → octets ≡ recording → IsWritten octets
recording_is log terminal octets recording low p r e =
    let x = sending_of log terminal low in
    let q = p x.0 x.1 in
    (records_of x.0.settings x.0.sent, record { is = e ∙ r x.0 x.1 q.lawful; each = q.written.each; few = q.written.few })

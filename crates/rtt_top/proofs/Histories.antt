-- What is sent for a script.
use Rattle.std.proofs.Common.{◌≡◌, ℕ, ◌<◌, Option, Some, None, List, [], ◌∷◌, Result, Ok, Err, refl, ap, sym, arith}
use Rattle.file_spec.specs.Script.{ScriptLine}
use Rattle.file_spec.specs.Lines as lines
use Rattle.file_spec.specs.Script.{script}
use Rattle.command_spec.specs.Usual.{usual_payload_types}
use Rattle.rtt_words.specs.Words.{SendWords}
use Rattle.packetizer.specs.declared.senders.SenderSettings.{SenderSettings}
use Rattle.packetizer.specs.SenderSettings.{AreSettings}
use Rattle.packetizer.proofs.Scripts.{own}
use Rattle.command_spec.specs.Scripts as scripts
use Rattle.command_spec.specs.Scripts.{AreLines, events_through}
use Rattle.command_spec.specs.Work.{Steps, Makes}
use Rattle.rtt_words.specs.Tasks.{sending_of, sends, unless_full}
use Rattle.rtt_words.specs.Sent.{IsSent}
use Rattle.text_conversions.specs.Scripts.{IsEnd, first_end, full_line}
use Rattle.text_conversions.proofs.Accepted.{accepted_lines}
use Rattle.text_conversions.proofs.Typed.{lawful_sent, closed_sent, texts_sent}
use Rattle.text_conversions.proofs.Firsts.{scripts_end, ends_early}
use Rattle.text_conversions.proofs.ReadBack.{packets_back}
use Rattle.command_spec.specs.declared.limits.TheConstants.{USUAL_INTERVAL}

usual_settings : (s : SendWords) → AreSettings (record { ssrc = s.ssrc; seq = s.seq; timestamp = s.timestamp; payload_types = usual_payload_types; interval = USUAL_INTERVAL; generations = 2 })
usual_settings s = record { least = omega arith; most = omega arith; t140 = omega arith; red = omega arith; generations = omega arith; differ = λ e. omega arith }

-- the file of these steps
file_in : Steps → List ℕ
file_in (Makes printed (made ∷ more)) = made.octets
file_in _ = []

made_full : (s : SendWords) (ls : List ScriptLine) (found : Option ℕ) (file : List ℕ)
    → unless_full found (Makes [] (record { name = s.out; octets = scripts.recording (sending_of s) ls } ∷ [])) ≡ Makes [] (record { name = s.out; octets = file } ∷ [])
    → (found ≡ None) × (file ≡ scripts.recording (sending_of s) ls)
unfolding file_in
made_full s ls None file e = (refl, sym (ap file_in e))
made_full s ls (Some line) file e = cc e

pub sent : (s : SendWords) (octets file : List ℕ) → sends s (script octets) ≡ Makes [] (record { name = s.out; octets = file } ∷ []) → IsSent s octets file
sent s octets file e = go (script octets) refl e
  where
    go : (r : Result (List ScriptLine) lines.Refusal) → script octets ≡ r → sends s r ≡ Makes [] (record { name = s.out; octets = file } ∷ []) → IsSent s octets file
    go (Err refusal) read m = cc m
    go (Ok ls) read m =
        let settings : SenderSettings = record { ssrc = s.ssrc; seq = s.seq; timestamp = s.timestamp; payload_types = usual_payload_types; interval = USUAL_INTERVAL; generations = 2 } in
        let made = made_full s ls (full_line settings ls) file m in
        let are = accepted_lines octets ls read in
        let early : first_end settings ls < 80000000 = ends_early settings ls (usual_settings s) are made.0 in
        let end : IsEnd settings ls (first_end settings ls) = scripts_end settings ls (usual_settings s) are made.0 in
        record {
          lines = ls;
          read = read;
          file_is = made.1;
          lawful = lawful_sent settings ls (first_end settings ls) (usual_settings s) are (omega arith);
          own = own settings (events_through ls (first_end settings ls));
          closed = closed_sent settings ls (first_end settings ls) (usual_settings s) are (omega arith) end;
          whole = texts_sent settings ls (first_end settings ls) are end;
          packets = λ ssrc. packets_back settings ls (first_end settings ls) (usual_settings s) ssrc are (omega arith);
        }

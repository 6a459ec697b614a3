-- A file that is made of another one.
use Rattle.std.proofs.Common.{◌≡◌, ℕ, Some, None, List, [], ◌∷◌, Result, Ok, Err, refl, ap}
use Rattle.std.specs.Prelude.{IfOk}
use Rattle.wire_spec.specs.Dump.{dump, usual_limit}
use Rattle.file_spec.specs.Script.{script}
use Rattle.command_spec.specs.declared.faults.Fault.{Fault}
use Rattle.command_spec.specs.Frames.{channel, relay}
use Rattle.command_spec.specs.Outcomes.{outcome, Done}
use Rattle.command_spec.specs.Work.{Contents, IsInput, IsOutput}
use Rattle.rtt_words.specs.Words.{Command, SendWords, ChannelWords, Send, Relay, Channel}
use Rattle.rtt_words.specs.Tasks.{saves_frames, sending_of, sends, work}
use Rattle.rtt_top.specs.declared.conversions.Conversion.{Conversion}
use Rattle.rtt_top.specs.declared.conversions.Conversion.TheVariants.{Script, Frames, Recording}
use Rattle.rtt_top.specs.Conversions.{asked_for, input_of}
use Rattle.rtt_top.specs.Faults.{WhereRead}
use Rattle.rtt_top.specs.Files.{made_file}
use Rattle.rtt_top.specs.Worlds.{SendMakes}
use Rattle.rtt_top.proofs.Framing.{AreWritten, channel_path, written_outcome}
use Rattle.rtt_top.proofs.Sending.{only_makes}

-- ---- its input is read first
pub is_input : (WorldTells : Type 0) (held : Contents) (it : Conversion) → IsInput WorldTells held (work (asked_for it)).steps 0 (input_of it)
is_input WorldTells held (Script words) = refl
is_input WorldTells held (Frames words) = refl
is_input WorldTells held (Recording words) = refl

pub where_read : (P : Type 0) (it : Conversion) → WhereRead (work (asked_for it)).steps P → P
where_read P (Script words) read = read
where_read P (Frames words) read = read
where_read P (Recording words) read = read

-- ---- what is made of it, where it could be read
module _ (WorldTells : Type 0) (held : Contents) where
  abbrev MakesOf : Command → List ℕ → List ℕ → Type 0
  MakesOf c name octets = IsOutput WorldTells held (work c).steps 0 name
      × (WorldTells → outcome held (work c).steps ≡ Done [] (made_file name octets ∷ []))

  pub of_script : (s : SendWords) (res : Result (List ℕ) Fault)
      → IfOk res (λ file. (octets : List ℕ) × (WorldTells → held s.file ≡ Some octets) × SendMakes s octets file) → IfOk res (MakesOf (Send s) s.out)
  of_script s (Ok file) made = only_makes (Send s) s.file s.out (λ octets. sends s (script octets)) refl WorldTells held made.0 file made.1 made.2
  of_script s (Err fault) made = tt

  pub of_frames : (s : SendWords) (res : Result (List ℕ) Fault)
      → IfOk res (λ file. (octets : List ℕ) × (WorldTells → held s.file ≡ Some octets) × (relay (sending_of s) octets ≡ Ok file)) → IfOk res (MakesOf (Relay s) s.out)
  of_frames s (Ok file) made =
      only_makes (Relay s) s.file s.out (λ octets. saves_frames s.out (relay (sending_of s) octets)) refl WorldTells held made.0 file made.1 (ap (saves_frames s.out) made.2)
  of_frames s (Err fault) made = tt

  pub of_recording : (c : ChannelWords) (res : Result (List ℕ) Fault)
      → IfOk res (λ file. WorldTells → (octets : List ℕ) × (held c.file ≡ Some octets) × ((dump usual_limit octets).fault ≡ None) × (channel c.ssrc octets ≡ Ok file))
      → IfOk res (MakesOf (Channel c) c.out)
  of_recording c (Ok file) made =
      let written : WorldTells → AreWritten held c file = λ told. let m = made told in record { octets = m.0; lie = m.1; whole = m.2; are = m.3 } in
      (channel_path WorldTells held c file written, λ told. written_outcome held c file (written told))
  of_recording c (Err fault) made = tt

-- Frames that are relayed, and frames that are written of a recording.
use Rattle.std.proofs.Common.{◌≡◌, ℕ, true, false, Option, Some, None, is_some, List, [], ◌∷◌, Result, Ok, Err, refl, ap, sym, subst, ◌∙◌, inl, inr, arith}
use Rattle.std.specs.Prelude.{if◌then◌else◌, Bool}
use Rattle.std.proofs.lemmas.Bool.{false≢true}
use Rattle.wire_spec.specs.Dump.{dump, dump_opening, usual_limit, opening, dump_step, records_within, records, arrivals}
use Rattle.wire_spec.specs.Dump as dumps
use Rattle.file_spec.specs.declared.frames.Frame.{Frame}
use Rattle.file_spec.specs.declared.frames.FrameRefusal.{FrameRefusal}
use Rattle.file_spec.specs.Frames.{read_frames}
use Rattle.command_spec.specs.declared.faults.Refusal.TheVariants.{AtByte}
use Rattle.command_spec.specs.declared.faults.Fault.TheVariants.{CannotRead, Refused}
use Rattle.rtt_words.specs.Words.{SendWords, ChannelWords, Relay, Channel}
use Rattle.command_spec.specs.Work.{Contents, Steps, IsOutput}
use Rattle.command_spec.specs.Outcomes.{outcome, outcome_from, Done}
use Rattle.command_spec.specs.Outcomes as outcomes
use Rattle.rtt_words.specs.Tasks.{recording_fault, saves_frames, sending_of, unless_broken, work}
use Rattle.command_spec.specs.Frames.{channel, relay, relay_read}
use Rattle.command_spec.specs.Scripts.{Sending}
use Rattle.rtt_io.specs.Counts.{Rose}
use Rattle.rtpdump_io.specs.declared.items.DumpFault.{DumpFault}
use Rattle.rtpdump_io.specs.Reading.{is_of_source}
use Rattle.text_conversions.specs.declared.relay_faults.ChannelFault.{ChannelFault}
use Rattle.text_conversions.specs.declared.relay_faults.ChannelFault.TheVariants as channel_fault
use Rattle.text_conversions.specs.Channels.{IsChannelCause, IsFailed}
use Rattle.text_conversions.specs.declared.relay_faults.RelayFault.{RelayFault}
use Rattle.text_conversions.specs.declared.relay_faults.RelayFault.TheVariants as relay_fault
use Rattle.text_conversions.specs.RelayAnswers.{IsRelayCause}
use Rattle.rtt_top.specs.Files.{IsFrontOf, IsReadOf, made_file}
use Rattle.rtt_top.specs.Faults.{Stops}
use Rattle.rtt_top.specs.Frames.{most_read, fault_of_channel, fault_of_relay}
use Rattle.rtt_top.proofs.FrameFronts.{front_broken}
use Rattle.rtt_top.proofs.Working.{lies}
use Rattle.file_spec.proofs.Fronts.{long_front as front_read}
use Rattle.rtt_mix.proofs.Answering.{source_read as read_kind}

-- ---- what was read of frames
relay_front : (s : Sending) (octets whole : List ℕ) → IsFrontOf most_read octets whole → relay s whole ≡ relay s octets
relay_front s octets whole (inl e) = ap (relay s) e
relay_front s octets whole (inr f) = ap (relay s) f.2 ∙ ap (λ r. relay_read s r.frames r.fault) (front_read octets f.1 (omega (arith, f.0)))

-- frames that are read no further are not sent
not_sent : (s : Sending) (fs : List Frame) (found : Option FrameRefusal) (file : List ℕ) → is_some found ≡ true → relay_read s fs found ≡ Ok file → ⊥
not_sent s fs None file e r = false≢true e
not_sent s fs (Some fault) file e r = cc r

whole_sent : (s : Sending) (octets whole file : List ℕ) → IsFrontOf most_read octets whole → relay s octets ≡ Ok file → whole ≡ octets
whole_sent s octets whole file (inl e) r = e
whole_sent s octets whole file (inr f) r = absurd (not_sent s (read_frames octets).frames (read_frames octets).fault file (front_broken octets (omega (arith, f.0))) r)

-- the octets that were read, which lie there as far as that is told
pub frames_sent : (WorldTells : Type 0) (held : Option (List ℕ)) (s : Sending) (octets file : List ℕ) → (WorldTells → IsReadOf most_read held octets)
    → relay s octets ≡ Ok file → (o : List ℕ) × (WorldTells → held ≡ Some o) × (relay s o ≡ Ok file)
frames_sent WorldTells held s octets file given r = (octets, (λ t. let g = given t in g.1 ∙ ap (λ (o : List ℕ). Some o) (whole_sent s octets g.0 file g.2 r)), r)

-- ---- frames that are not sent
pub relay_stops : (WorldTells : Type 0) (held : Contents) (s : SendWords) (Call Object : Type 0) (octets : List ℕ) (fault : RelayFault)
    → (WorldTells → IsReadOf most_read (held s.file) octets) → IsRelayCause fault (relay (sending_of s) octets)
    → Stops WorldTells held (Relay s) Call Object (fault_of_relay fault)
relay_stops WorldTells held s Call Object octets (relay_fault.Refused fault) given e = (
  refl,
  refl,
  λ told. let g = given told in
      lies held s.file (λ o. saves_frames s.out (relay (sending_of s) o)) g.0 g.1
      ∙ ap (λ r. outcome_from 1 held (saves_frames s.out r)) (relay_front (sending_of s) octets g.0 g.2 ∙ e),
)
relay_stops WorldTells held s Call Object octets relay_fault.NoMemory given e = tt

-- ---- frames of a recording
-- what comes of a recording
channel_next : ChannelWords → List ℕ → Steps
channel_next c octets = unless_broken (recording_fault octets) (saves_frames c.out (channel c.ssrc octets))

-- where the fault is one of reading, its source failed
pub source_rose : {S : Type 0} (faults : S → ℕ) (old new : S) (fault : ChannelFault) → IsFailed faults old new fault
    → (f : DumpFault) → fault ≡ channel_fault.Dump f → is_of_source f.kind ≡ true → Rose (faults old) (faults new)
source_rose faults old new fault failed f e is = subst (IsFailed faults old new) e failed (read_kind f.kind is)

broken_outcome : (held : Contents) (c : ChannelWords) (octets : List ℕ) (fault : dumps.Fault) → held c.file ≡ Some octets → recording_fault octets ≡ Some fault
    → outcome held (work (Channel c)).steps ≡ outcomes.Refused 0 (AtByte fault.byte fault.kind)
unfolding channel_next
broken_outcome held c octets fault lie e =
    lies held c.file (channel_next c) octets lie
    ∙ ap (λ found. outcome_from 1 held (unless_broken found (saves_frames c.out (channel c.ssrc octets)))) e

read_outcome : (held : Contents) (c : ChannelWords) (octets : List ℕ) (written : Result (List ℕ) FrameRefusal) → held c.file ≡ Some octets → recording_fault octets ≡ None → channel c.ssrc octets ≡ written
    → outcome held (work (Channel c)).steps ≡ outcome_from 1 held (saves_frames c.out written)
unfolding channel_next
read_outcome held c octets written lie none e =
    lies held c.file (channel_next c) octets lie
    ∙ ap (λ found. outcome_from 1 held (unless_broken found (saves_frames c.out (channel c.ssrc octets)))) none
    ∙ ap (λ r. outcome_from 1 held (saves_frames c.out r)) e

pub channel_stops : (WorldTells : Type 0) (held : Contents) (c : ChannelWords) (Call Object : Type 0) (octets : List ℕ) (fault : ChannelFault)
    → ((f : DumpFault) → fault ≡ channel_fault.Dump f → is_of_source f.kind ≡ true → Object)
    → (WorldTells → (held c.file ≡ Some octets) × IsChannelCause fault c.ssrc octets)
    → Stops WorldTells held (Channel c) Call Object (fault_of_channel fault)
channel_stops WorldTells held c Call Object octets (channel_fault.Dump f) failed cause = go (is_of_source f.kind) refl
  where
    go : (b : Bool) → is_of_source f.kind ≡ b → Stops WorldTells held (Channel c) Call Object (if b then CannotRead 0 else Refused 0 (AtByte f.offset f.kind))
    go true e = (refl, failed f refl e)
    go false e = (refl, refl, λ told. let h = cause told in broken_outcome held c octets (record { byte = f.offset; kind = f.kind }) h.0 (h.1 e))
channel_stops WorldTells held c Call Object octets (channel_fault.Refused f) failed cause =
    (refl, refl, λ told. let h = cause told in read_outcome held c octets (Err f) h.0 h.1.0 h.1.1)
channel_stops WorldTells held c Call Object octets channel_fault.NoMemory failed cause = tt

-- what lies there is a recording, and these are its frames
pub record AreWritten (held : Contents) (c : ChannelWords) (file : List ℕ) : Type 0 where
  pub octets : List ℕ
  pub lie : held c.file ≡ Some octets
  pub whole : recording_fault octets ≡ None
  pub are : channel c.ssrc octets ≡ Ok file

pub written_outcome : (held : Contents) (c : ChannelWords) (file : List ℕ) → AreWritten held c file → outcome held (work (Channel c)).steps ≡ Done [] (made_file c.out file ∷ [])
written_outcome held c file w = read_outcome held c w.octets (Ok file) w.lie w.whole w.are

-- a recording without a record has no frames
silent_output : (WorldTells : Type 0) (held : Contents) (c : ChannelWords) → IsOutput WorldTells held (channel_next c dump_opening) 0 c.out
unfolding channel_next dump opening dump_step records_within records arrivals
silent_output WorldTells held c = refl

-- the file that is made, also where nothing is told of what lies there
pub channel_path : (WorldTells : Type 0) (held : Contents) (c : ChannelWords) (file : List ℕ) → (WorldTells → AreWritten held c file) → IsOutput WorldTells held (work (Channel c)).steps 0 c.out
unfolding channel_next
channel_path WorldTells held c file given = go (held c.file) refl
  where
    silent : (WorldTells → ⊥) → (octets : List ℕ) × (WorldTells → held c.file ≡ Some octets) × IsOutput WorldTells held (channel_next c octets) 0 c.out
    silent untold = (dump_opening, (λ told. absurd (untold told)), silent_output WorldTells held c)

    same : (o : List ℕ) → held c.file ≡ Some o → (w : AreWritten held c file) → w.octets ≡ o
    same o e w = let lie = w.lie in cc (e, lie)

    look : (o : List ℕ) → held c.file ≡ Some o → (found : Option dumps.Fault) → recording_fault o ≡ found → (written : Result (List ℕ) FrameRefusal) → channel c.ssrc o ≡ written
        → (octets : List ℕ) × (WorldTells → held c.file ≡ Some octets) × IsOutput WorldTells held (channel_next c octets) 0 c.out
    look o lie (Some fault) e written r =
        silent (λ told. let w = given told in false≢true (ap (λ (f : Option dumps.Fault). is_some f) (sym w.whole ∙ ap recording_fault (same o lie w) ∙ e)))
    look o lie None e (Err fault) r =
        silent (λ told. let w = given told in let two = sym w.are ∙ ap (channel c.ssrc) (same o lie w) ∙ r in cc two)
    look o lie None e (Ok frames) r = (
      o,
      (λ told. lie),
      subst (λ found. IsOutput WorldTells held (unless_broken found (saves_frames c.out (channel c.ssrc o))) 0 c.out) (sym e)
          (subst (λ written. IsOutput WorldTells held (saves_frames c.out written) 0 c.out) (sym r) refl),
    )

    go : (o : Option (List ℕ)) → held c.file ≡ o → (octets : List ℕ) × (WorldTells → held c.file ≡ Some octets) × IsOutput WorldTells held (channel_next c octets) 0 c.out
    go None e = silent (λ told. let lie = (given told).lie in cc (e, lie))
    go (Some o) e = look o e (recording_fault o) refl (channel c.ssrc o) refl

-- Texts that are written as frames, one after another.
use Rattle.std.proofs.Common.{◌≡◌, ℕ, ◌+◌, ◌*◌, ◌/◌, ◌%◌, ◌≤◌, ◌<◌, Bool, true, false, cond, ltb, List, [], ◌∷◌, ◌++◌, append_assoc, append-nil, length, map, None, Ok, Err, Result, refl, subst, sym, ap, ◌∙◌, arith}
use Rattle.std.specs.Int.{w32, to_be_bytes}
use Rattle.std.proofs.lemmas.Bool.{lt-ltb, le-ltb}
use Rattle.wire_spec.specs.declared.faults.DumpKind.{DumpKind}
use Rattle.wire_spec.specs.declared.faults.DumpKind.TheVariants.{Read}
use Rattle.wire_spec.specs.Dump.{Recording, arrivals, dump, usual_limit}
use Rattle.stream_spec.specs.Ready.{Chunk}
use Rattle.file_spec.specs.declared.frames.FrameRefusal.{FrameRefusal}
use Rattle.file_spec.specs.declared.frame_kinds.FrameKind.TheVariants.{ManyFrames}
use Rattle.file_spec.specs.declared.frame_limits.TheConstants.{MOST_FRAMES_OCTETS}
use Rattle.file_spec.specs.Frames.{frame_written, frames_written}
use Rattle.command_spec.specs.Frames.{channel, channel_file, chunk_frame}
use Rattle.rtpdump_io.specs.declared.items.RecordingFault.{RecordingFault}
use Rattle.rtpdump_io.specs.declared.items.RecordingFault.TheVariants as recordings
use Rattle.rtpdump_io.specs.declared.readers.DumpReader.{DumpReader}
use Rattle.rtpdump_io.specs.Reading.{IsFaultOf, is_of_source, source_of}
use Rattle.rtpdump_io.specs.Calls.{ReadsToEnd}
use Rattle.rtpdump_io.specs.Faults.{FaultOf, HasCause}
use Rattle.recording_views.specs.Writing.{WritesRecording, WritesText}
use Rattle.text_conversions.specs.declared.relay_faults.ChannelFault.{ChannelFault}
use Rattle.text_conversions.specs.declared.relay_faults.ChannelFault.TheVariants.{Refused}
use Rattle.text_conversions.specs.Channels.{AreFrames, AreFramesOf, ForRecording, HasSource, IsChannelCause, IsFailed, channel_request, fault_from}

-- ---- the time of a frame
pub same_time : (n : ℕ) → to_be_bytes w32 (n % 4294967296) ≡ to_be_bytes w32 n
same_time n =
    let a : n % 4294967296 / 16777216 % 256 ≡ n / 16777216 % 256 = omega arith in
    let b : n % 4294967296 / 65536 % 256 ≡ n / 65536 % 256 = omega arith in
    let c : n % 4294967296 / 256 % 256 ≡ n / 256 % 256 = omega arith in
    let d : n % 4294967296 % 256 ≡ n % 256 = omega arith in
    λ i. a i ∷ b i ∷ c i ∷ d i ∷ []

-- ---- text after text
written_more : (gave : List Chunk) (c : Chunk) → frames_written (map chunk_frame (gave ++ c ∷ [])) ≡ frames_written (map chunk_frame gave) ++ frame_written (chunk_frame c)
written_more [] c = append-nil (frame_written (chunk_frame c))
written_more (d ∷ gave) c =
    ap (λ octets. frame_written (chunk_frame d) ++ octets) (written_more gave c)
    ∙ sym (append_assoc (frame_written (chunk_frame d)) (frames_written (map chunk_frame gave)) (frame_written (chunk_frame c)))

pub frame_more : (old new : List ℕ) (c : Chunk) → new ≡ old ++ frame_written (chunk_frame c) → WritesText AreFrames old new c
frame_more old new c e first gave w =
    e
    ∙ (ap (λ octets. octets ++ frame_written (chunk_frame c)) w
    ∙ (append_assoc first (frames_written (map chunk_frame gave)) (frame_written (chunk_frame c))
    ∙ ap (λ octets. first ++ octets) (sym (written_more gave c))))

-- ---- the whole recording
-- all of it is written
pub all_frames : (ssrc : ℕ) (recording : Recording) (old new : List ℕ) → old ≡ [] → WritesRecording AreFrames (channel_request ssrc) recording old new → ForRecording recording (λ octets. new ≡ channel_file ssrc octets)
unfolding arrivals
all_frames ssrc recording old new e w octets is = w [] e octets is

pub few_frames : (ssrc : ℕ) (octets out : List ℕ) (n : ℕ) → n ≡ length out → n ≤ MOST_FRAMES_OCTETS → out ≡ channel_file ssrc octets → channel ssrc octets ≡ Ok out
few_frames ssrc octets out n e few w =
    ap (λ (file : List ℕ). unless (ltb MOST_FRAMES_OCTETS (length file)) file) (sym w)
    ∙ ap (λ b. unless b out) (le-ltb MOST_FRAMES_OCTETS (length out) (omega (arith, e, few)))
  where
    unless : Bool → List ℕ → Result (List ℕ) FrameRefusal
    unless b file = cond b (Err (record { offset = length file; kind = ManyFrames })) (Ok file)

many_frames : (ssrc : ℕ) (octets out : List ℕ) (n : ℕ) → n ≡ length out → MOST_FRAMES_OCTETS < n → out ≡ channel_file ssrc octets → channel ssrc octets ≡ Err (record { offset = n; kind = ManyFrames })
many_frames ssrc octets out n e many w =
    ap (λ (file : List ℕ). unless (ltb MOST_FRAMES_OCTETS (length file)) file) (sym w)
    ∙ ap (λ b. unless b out) (lt-ltb MOST_FRAMES_OCTETS (length out) (omega (arith, e, many)))
    ∙ ap (λ (k : ℕ). fault k) (sym e)
  where
    fault : ℕ → Result (List ℕ) FrameRefusal
    fault k = Err (record { offset = k; kind = ManyFrames })

    unless : Bool → List ℕ → Result (List ℕ) FrameRefusal
    unless b file = cond b (Err (record { offset = length file; kind = ManyFrames })) (Ok file)

pub too_many : (ssrc : ℕ) (recording : Recording) (out : List ℕ) (n : ℕ) → n ≡ length out → MOST_FRAMES_OCTETS < n → recording.fault ≡ None → ForRecording recording (λ octets. out ≡ channel_file ssrc octets)
    → ForRecording recording (IsChannelCause (Refused (record { offset = n; kind = ManyFrames })) ssrc)
too_many ssrc recording out n e many whole w octets is =
    (ap (λ (r : Recording). r.fault) (sym is) ∙ whole, many_frames ssrc octets out n e many (w octets is))

-- ---- it was not read to its end
pub cause_from : (ssrc : ℕ) (recording : Recording) (fault : RecordingFault) (made : ChannelFault) → made ≡ fault_from fault → FaultOf recording fault → ForRecording recording (IsChannelCause made ssrc)
cause_from ssrc recording fault made e c = subst (λ (f : ChannelFault). ForRecording recording (IsChannelCause f ssrc)) (sym e) (go fault c)
  where
    go : (fault : RecordingFault) → FaultOf recording fault → ForRecording recording (IsChannelCause (fault_from fault) ssrc)
    go (recordings.Dump f) c octets is = subst (λ (r : Recording). IsFaultOf r f) is c
    go recordings.NoMemory c octets is = tt

is_read : (k : DumpKind) → k ≡ Read → is_of_source k ≡ true
is_read k e = ap is_of_source e

failed_from : {S : Type 0} (faults : S → ℕ) (old new : DumpReader S) (fault : RecordingFault) → HasCause faults old new fault → IsFailed faults (source_of old) (source_of new) (fault_from fault)
failed_from faults old new (recordings.Dump fault) h = λ e. h (is_read fault.kind e)
failed_from faults old new recordings.NoMemory h = tt

module _ {S : Type 0} (tells : Type 0) (left : S → List ℕ) (faults : S → ℕ) (name : S → List ℕ) (old new : DumpReader S) where
  pub source_kept : {T U : Type 0} (done : T) (made : U) → ReadsToEnd tells left faults name old new (Ok done) → HasSource faults name (source_of old) (source_of new) (Ok made)
  source_kept done made r = record { failed = tt; never_falls = r.never_falls; same_name = r.same_name }

  pub source_failed : {T U : Type 0} (fault : RecordingFault) (made : ChannelFault) → made ≡ fault_from fault → ReadsToEnd {T = T} tells left faults name old new (Err fault) → HasSource {A = U} faults name (source_of old) (source_of new) (Err made)
  source_failed fault made e r = record {
    failed = subst (λ (f : ChannelFault). IsFailed faults (source_of old) (source_of new) f) (sym e) (failed_from faults old new fault r.failed);
    never_falls = r.never_falls;
    same_name = r.same_name;
  }

  pub source_refused : {T U : Type 0} (done : T) (refusal : FrameRefusal) → ReadsToEnd tells left faults name old new (Ok done) → HasSource {A = U} faults name (source_of old) (source_of new) (Err (Refused refusal))
  source_refused done refusal r = record { failed = tt; never_falls = r.never_falls; same_name = r.same_name }

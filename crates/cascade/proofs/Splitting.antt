-- A splitter, text by text.
use Rattle.std.proofs.Common.{◌≡◌, ℕ, None, ◌+◌, ◌%◌, ◌^◌, true, false, List, [], ◌∷◌, ◌++◌, refl, ap, sym, ◌∙◌, subst, append-nil, append_assoc}
use Rattle.std.proofs.lemmas.Bool.{eq-eqb}
use Rattle.rtt_base.specs.declared.text_packets.PayloadTypes.{PayloadTypes}
use Rattle.wire_spec.specs.Dump.{dump_opening, record_written}
use Rattle.wire_spec.specs.Rtp.{rtp_written}
use Rattle.wire_spec.specs.SentPackets.{packet_written}
use Rattle.stream_spec.specs.Ready.{Chunk}
use Rattle.command_spec.specs.Splitting.{Group, alone, groups, groups_from, joined, packet_of, packets_from, packets_in, record_of, recorded, timestamp_of}
use Rattle.cascade.specs.declared.splitters.SourceRecording.{SourceRecording}
use Rattle.cascade.specs.Splitters.{AddsChunk, Closes, Joins, Parts, Splits, Writes, groups_with, hand_of, packet_in_hand, records_in}

-- the octets of a packet in plain form
pub plain_is : (payload_types : PayloadTypes) (s seq timestamp : ℕ) (text : List ℕ)
    → rtp_written (record { marker_bit = false; pt = payload_types.t140; seq = seq; timestamp = timestamp; ssrc = s; csrc = None }) text ≡ packet_written payload_types (packet_of s seq timestamp text)
plain_is payload_types s seq timestamp text = rw (eq-eqb s s refl) refl

-- what is to be written by one is written by the other, which has one chunk more
abbrev Steps : SourceRecording → SourceRecording → Chunk → Type 0
Steps old new c =
    (payload_types : PayloadTypes) (s : ℕ) (more : List Chunk) → old.source ≡ s → old.payload_types ≡ payload_types
    → old.octets ++ records_in payload_types (packets_from s old.seq old.least (groups_with old (c ∷ more))) ≡ new.octets ++ records_in payload_types (packets_from s new.seq new.least (groups_with new more))

added : (old new : SourceRecording) (c : Chunk) → new.source ≡ old.source → new.payload_types ≡ old.payload_types → Steps old new c → AddsChunk old new c
added old new c s t f payload_types source cs h = record {
  source = s ∙ h.source;
  types = t ∙ h.types;
  writes = λ more. ap (λ xs. recorded payload_types (packets_in source (groups xs))) (append_assoc cs (c ∷ []) more) ∙ (h.writes (c ∷ more) ∙ f payload_types source more h.source h.types);
}

-- a chunk joins the group in hand
pub adds_joined : (old new : SourceRecording) (c : Chunk) → old.holds ≡ true → Joins old new c → AddsChunk old new c
adds_joined old new c h j = subst (λ sp. AddsChunk old sp c) (sym j.is)
    (added old (record old { text = old.text ++ c.text }) c refl refl (λ payload_types s more e t. rw (h, j.fits) refl))

-- the group in hand is written: it is the first that was still to be written
first_written : (old new : SourceRecording) (payload_types : PayloadTypes) (s : ℕ) (gs : List Group) → Writes old new → old.source ≡ s → old.payload_types ≡ payload_types
    → old.octets ++ records_in payload_types (packets_from s old.seq old.least (hand_of old ∷ gs)) ≡ new.octets ++ records_in payload_types (packets_from s new.seq new.least gs)
first_written old new payload_types s gs w e t =
    let front : List ℕ = record_written (record_of payload_types (packet_in_hand (record old { source = s }))) in
    let rest = records_in payload_types (packets_from s ((old.seq + 1) % 2 ^ 16) ((timestamp_of old.least (hand_of old) + 1) % 2 ^ 32) gs) in
    let own : new.octets ≡ old.octets ++ front = w.octets ∙ (ap (λ (p : PayloadTypes). old.octets ++ record_written (record_of p (packet_in_hand old))) t
    ∙ ap (λ (n : ℕ). old.octets ++ record_written (record_of payload_types (packet_in_hand (record old { source = n })))) e) in
    sym (append_assoc old.octets front rest)
    ∙ (ap (λ (xs : List ℕ). xs ++ rest) (sym own)
    ∙ (ap (λ (n : ℕ). new.octets ++ records_in payload_types (packets_from s n ((timestamp_of old.least (hand_of old) + 1) % 2 ^ 32) gs)) (sym w.seq)
    ∙ ap (λ (n : ℕ). new.octets ++ records_in payload_types (packets_from s new.seq n gs)) (sym w.least)))

-- a chunk does not join the group in hand, which is written, and is in hand then
pub adds_apart : (old joined written new : SourceRecording) (c : Chunk) → old.holds ≡ true → Parts old joined c → Writes joined written
    → new ≡ record written { holds = true; ready = c.ready; text = c.text } → AddsChunk old new c
adds_apart old joined written new c h p w n =
    let one : Writes old written = subst (λ sp. Writes sp written) p.same w in
    subst (λ sp. AddsChunk old sp c) (sym n)
    (added old (record written { holds = true; ready = c.ready; text = c.text }) c one.source one.payload_types
    (λ payload_types s more e t. rw (h, p.apart) (first_written old written payload_types s (groups_from (alone c) more) one e t)))

-- nothing was in hand
pub adds_first : (old new : SourceRecording) (c : Chunk) → old.holds ≡ false → new ≡ record old { holds = true; ready = c.ready; text = c.text } → AddsChunk old new c
adds_first old new c h n = subst (λ sp. AddsChunk old sp c) (sym n)
    (added old (record old { holds = true; ready = c.ready; text = c.text }) c refl refl (λ payload_types s more e t. rw h refl))

-- all is written
pub closes_held : (old new : SourceRecording) → old.holds ≡ true → Writes old new → Closes old new
closes_held old new h w payload_types s cs is =
    let all = is.writes [] in
    let whole : recorded payload_types (packets_in s (groups cs)) ≡ old.octets ++ records_in payload_types (packets_from s old.seq old.least (hand_of old ∷ [])) =
    ap (λ xs. recorded payload_types (packets_in s (groups xs))) (sym (append-nil cs)) ∙ (rw h at all) in
    sym (whole ∙ (first_written old new payload_types s [] w is.source is.types ∙ append-nil new.octets))

pub closes_empty : (old : SourceRecording) → old.holds ≡ false → Closes old old
closes_empty old h payload_types s cs is =
    let all = is.writes [] in
    sym (ap (λ xs. recorded payload_types (packets_in s (groups xs))) (sym (append-nil cs)) ∙ ((rw h at all) ∙ append-nil old.octets))

-- nothing was added
pub splits_none : (sp : SourceRecording) (payload_types : PayloadTypes) (s : ℕ) → sp.source ≡ s → sp.payload_types ≡ payload_types → sp.octets ≡ dump_opening → sp.seq ≡ 0 → sp.least ≡ 0 → sp.holds ≡ false → Splits sp payload_types s []
splits_none sp payload_types s e t o n l h = record { source = e; types = t; writes = λ more. rw (o, n, l, h) refl }

-- Lines of the texts that are heard of a source.
use Rattle.std.proofs.Common.{◌≡◌, ℕ, List, [], ◌∷◌, ◌++◌, map, flat_map, length, refl, ap, sym, ◌∙◌, subst, append-nil, append_assoc}
use Rattle.std.proofs.lemmas.Grind.{flat_map-append}
use Rattle.std.proofs.lemmas.List.{map-append}
use Rattle.wire_spec.specs.Packets.{Arrival}
use Rattle.wire_spec.specs.Dump.{Item, arrivals_after, sent_item}
use Rattle.stream_spec.specs.Ready.{Chunk, chunks}
use Rattle.command_spec.specs.declared.requests.ReadRequest.{ReadRequest}
use Rattle.command_spec.specs.Reading.{usual_wait}
use Rattle.receiver.specs.Cuts.{chunks_given}
use Rattle.receiver.specs.declared.cuts.TextCut.TheVariants.{Never}
use Rattle.receiver.specs.declared.ears.Ear.{Ear}
use Rattle.receiver.specs.Hears.{arrival_count}
use Rattle.recording_views.specs.Writing.{HasWritten, IsBegunFor, Texts, WritesEnd, WritesPacket, WritesText, asked_of}
use Rattle.recording_views.proofs.Writing.{has_written, item_written, none_cut}
use Rattle.report_spec.specs.Times.{chunk_lines, source_lines}
use Rattle.rtt_times.specs.declared.lines.Lines.{Lines}
use Rattle.rtt_times.specs.Lines.{Line, AddsLines, AddsText, Keeps, name_before, written, chunk_written}
use Rattle.rtt_times.specs.Writing.{AddsTexts, HasWrittenOf, lines_of}
use Rattle.wire_spec.proofs.Plain.{arrivals_more as after_more}

-- ---- lines that are added
pub adds_none : (l : Lines) → AddsLines l [] l
adds_none l lines k = subst (Keeps l) (sym (append-nil lines)) k

pub adds_both : (one two three : Lines) (xs ys : List Line) → AddsLines one xs two → AddsLines two ys three → AddsLines one (xs ++ ys) three
adds_both one two three xs ys f g lines k = subst (Keeps three) (append_assoc lines xs ys) (g (lines ++ xs) (f lines k))

pub adds_same : (one two : Lines) (xs ys : List Line) → xs ≡ ys → AddsLines one xs two → AddsLines one ys two
adds_same one two xs ys e f = subst (λ (zs : List Line). AddsLines one zs two) e f

-- ---- as texts are written
pub text_added : (name : List ℕ) (old new : Lines) (c : Chunk) → AddsText name c old new → WritesText (AddsTexts name) old new c
text_added name old new c add first gave w r e =
    adds_same first new (lines_of r gave ++ chunk_written r c) (lines_of r (gave ++ c ∷ []))
    (ap (λ ls. lines_of r gave ++ ls) (sym (append-nil (chunk_written r c))) ∙ sym (flat_map-append (chunk_written r) gave (c ∷ [])))
    (adds_both first old new (lines_of r gave) (chunk_written r c) (w r e) (add r e))

-- nothing came yet
pub begins_writing : (name : List ℕ) (r : ReadRequest) (ear : Ear) (lines : Lines) → IsBegunFor r ear → HasWrittenOf name r lines ear lines []
begins_writing name r ear lines h = has_written (AddsTexts name) r ear lines lines h (λ q e. adds_none lines)

-- ---- records
pub packet_written : (name : List ℕ) (r : ReadRequest) (before after : Ear) (at : ℕ) (octets : List ℕ) (first old new : Lines) → WritesPacket (AddsTexts name) at octets before old after new
    → (came : List Item) → HasWrittenOf name r first before old came → HasWrittenOf name r first after new (came ++ sent_item (at, octets) ∷ [])
packet_written name r before after at octets first old new p came h =
    subst (λ (a : List Arrival). HasWritten (AddsTexts name) r first a after new) (sym (after_more r.ssrc r.payload_types [] came (sent_item (at, octets))))
    (item_written (AddsTexts name) before after at octets old new p r first (arrivals_after r.ssrc r.payload_types [] came) h)

all_written : (r : ReadRequest) (cs : Texts) → lines_of r cs ≡ map written (flat_map (chunk_lines r.ssrc r.source) cs)
all_written r [] = refl
all_written r (c ∷ cs) = ap (λ ls. chunk_written r c ++ ls) (all_written r cs) ∙ sym (map-append written (chunk_lines r.ssrc r.source c) (flat_map (chunk_lines r.ssrc r.source) cs))

pub source_written : (name : List ℕ) (r : ReadRequest) (before : Ear) (first old new : Lines) (came : List Item) → name ≡ name_before r → HasWrittenOf name r first before old came → WritesEnd (AddsTexts name) before old new
    → AddsLines first (map written (source_lines r.ssrc (arrivals_after r.ssrc r.payload_types [] came) r.source)) new
source_written name r before first old new came named h e =
    let past = arrivals_after r.ssrc r.payload_types [] came in
    adds_same first new _ _
    (ap (λ (a : List Arrival). lines_of r (chunks_given Never (chunks usual_wait 0 a r.source))) h.1.arrivals
    ∙ ap (lines_of r) (none_cut r came)
    ∙ all_written r (chunks usual_wait 0 past r.source))
    (e first (asked_of r) r.source h.0 h.2 r named)

-- how many packets of text came
pub arrivals_written : (name : List ℕ) (r : ReadRequest) (ear : Ear) (first lines : Lines) (came : List Item) → HasWrittenOf name r first ear lines came → arrival_count ear ≡ length (arrivals_after r.ssrc r.payload_types [] came)
arrivals_written name r ear first lines came h = h.2.1.1.hears.tracks.follows.arrivals ∙ ap (λ (a : List Arrival). length a) h.1.arrivals

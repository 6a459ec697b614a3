-- The texts of the chunks of a leg are what is heard of it.
use Rattle.std.proofs.Common.{◌≡◌, ℕ, Option, Some, None, List, [], ◌∷◌, ◌++◌, refl, ap, ◌∙◌}
use Rattle.std.specs.Prelude.{flat_map, map}
use Rattle.wire_spec.specs.Packets.{Arrival}
use Rattle.stream_spec.specs.Hearing.{marker}
use Rattle.stream_spec.specs.Ready.{Chunk, chunk, chunks}
use Rattle.stream_spec.specs.Still.{still}
use Rattle.stream_spec.proofs.ChunkTexts.{chunk_texts}
use Rattle.mixer_spec.specs.Chunks.{texts_of}
use Rattle.mixer_spec.specs.Pieces.{pieces}
use Rattle.mixer_spec.proofs.Carries.{texts_append}
use Rattle.mixer_spec.proofs.Chunks.{texts_cut}
use Rattle.live_spec.specs.Told.{Former, Hearing, Told, all_former, all_told, former_chunks, former_texts, heard_told, last_chunks, last_texts, ready_until, sender_chunks, sender_texts, told_by}
use Rattle.live_spec.specs.ToldLaws.{TextsAreHeard}

same_texts : (t : ℕ) (cs : List Chunk) → texts_of (map (ready_until t) cs) ≡ texts_of cs
same_texts t [] = refl
same_texts t (c ∷ cs) = ap (λ ts. c.text ∷ ts) (same_texts t cs)

of_sender : (h : Hearing) (ssrc : ℕ) (past : List Arrival) → texts_of (sender_chunks h ssrc past) ≡ sender_texts h ssrc past
of_sender h ssrc past =
    texts_cut (pieces h.piece) (chunks h.wait h.leg (still past) ssrc) ∙ ap (flat_map (pieces h.piece)) (chunk_texts h.wait h.leg (still past) ssrc)

of_last : (h : Hearing) (sender : Option ℕ) (past : List Arrival) → texts_of (last_chunks h sender past) ≡ last_texts h sender past
of_last h None past = refl
of_last h (Some ssrc) past = of_sender h ssrc past

of_former : (h : Hearing) (f : Former) → texts_of (former_chunks h f) ≡ sender_texts h f.ssrc f.past ++ marker ∷ []
of_former h f =
    let cs = map (ready_until f.until) (sender_chunks h f.ssrc f.past) in
    texts_append cs (chunk h.leg f.until marker ∷ []) ∙ ap (λ ts. ts ++ marker ∷ []) (same_texts f.until (sender_chunks h f.ssrc f.past) ∙ of_sender h f.ssrc f.past)

of_formers : (h : Hearing) (before : List Former) → texts_of (all_former h before) ≡ former_texts h before
of_formers h [] = refl
of_formers h (f ∷ before) =
    texts_append (all_former h before) (former_chunks h f)
    ∙ (ap (λ ts. ts ++ texts_of (former_chunks h f)) (of_formers h before) ∙ ap (λ ts. former_texts h before ++ ts) (of_former h f))

told_texts : (h : Hearing) (d : Told) → texts_of (all_told h d) ≡ heard_told h d
told_texts h d =
    texts_append (all_former h d.before) (last_chunks h d.sender d.past)
    ∙ (ap (λ ts. ts ++ texts_of (last_chunks h d.sender d.past)) (of_formers h d.before) ∙ ap (λ ts. former_texts h d.before ++ ts) (of_last h d.sender d.past))

pub texts_law : TextsAreHeard
texts_law h takes = told_texts h (told_by h takes)

-- What is heard of a leg is what is kept of each sender's history.
use Rattle.std.proofs.Common.{◌≡◌, ℕ, Option, Some, None, List, [], ◌∷◌, ◌++◌, length, refl, ap, ◌∙◌}
use Rattle.std.specs.Prelude.{flat_map}
use Rattle.wire_spec.specs.Packets.{Arrival}
use Rattle.stream_spec.specs.Hearing.{marker}
use Rattle.stream_spec.specs.History.{History}
use Rattle.stream_spec.specs.Still.{still, still_history}
use Rattle.stream_spec.proofs.Still.{come_still, lawful_still}
use Rattle.stream_spec.proofs.Walks.{l1}
use Rattle.mixer_spec.specs.Pieces.{pieces}
use Rattle.live_spec.specs.Told.{Former, Hearing, former_texts, last_texts, sender_texts, told_by}
use Rattle.live_spec.specs.ToldLaws.{AllCome, ComesOf, FirstHopInParts, kept_former, kept_last, kept_of}

of_sender : (h : Hearing) (history : History) (ssrc : ℕ) (past : List Arrival) → ComesOf history past → sender_texts h ssrc past ≡ kept_of h history ssrc past
of_sender h history ssrc past c = ap (flat_map (pieces h.piece)) (l1 h.wait (still_history history) (lawful_still history c.0) (still past) (come_still history past c.1) ssrc)

of_last : (h : Hearing) (history : History) (sender : Option ℕ) (past : List Arrival) → ((ssrc : ℕ) → sender ≡ Some ssrc → ComesOf history past) → last_texts h sender past ≡ kept_last h history sender past
of_last h history None past c = refl
of_last h history (Some ssrc) past c = of_sender h history ssrc past (c ssrc refl)

of_formers : (h : Hearing) (of : ℕ → History) (before : List Former) → AllCome of before → former_texts h before ≡ kept_former h of before
of_formers h of [] c = refl
of_formers h of (f ∷ before) c =
    ap (λ ts. ts ++ (sender_texts h f.ssrc f.past ++ marker ∷ [])) (of_formers h of before c.1)
    ∙ ap (λ ts. kept_former h of before ++ (ts ++ marker ∷ [])) (of_sender h (of (length before)) f.ssrc f.past c.0)

pub parts_law : FirstHopInParts
parts_law h takes of c l =
    let d = told_by h takes in
    ap (λ ts. ts ++ last_texts h d.sender d.past) (of_formers h of d.before c) ∙ ap (λ ts. kept_former h of d.before ++ ts) (of_last h (of (length d.before)) d.sender d.past l)

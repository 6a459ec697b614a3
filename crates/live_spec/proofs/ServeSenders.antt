-- A live call tells each sender of a leg.
use Rattle.std.proofs.Common.{◌≡◌, ℕ, List, [], ◌∷◌, ◌++◌, length, refl, ap, subst, sym, ◌∙◌, append_assoc}
use Rattle.std.specs.List.{AllByRecursion, flat_map}
use Rattle.wire_spec.specs.Packets.{Arrival}
use Rattle.file_spec.specs.Conference.{Conference}
use Rattle.stream_spec.specs.Hearing.{heard, marker}
use Rattle.stream_spec.specs.Still.{still}
use Rattle.stream_spec.specs.History.{History}
use Rattle.stream_spec.specs.Carries.{CarriesFront}
use Rattle.stream_spec.proofs.Still.{come_still, lawful_still}
use Rattle.mixer_spec.specs.Setups.{leg_at, setup, ssrc_of}
use Rattle.mixer_spec.specs.Bridged.{cutting_of, told_at}
use Rattle.mixer_spec.specs.Pieces.{IsCutting, pieces}
use Rattle.mixer_spec.proofs.OfFiles.{is_cutting}
use Rattle.mixer_spec.specs.Headline.{Hop, IsHop, hears}
use Rattle.mixer_spec.specs.Headlines.{hop_behind}
use Rattle.stream_spec.specs.Links.{Takes}
use Rattle.live_spec.specs.Told.{Former, Hearing, former_texts, told_by}
use Rattle.live_spec.specs.ToldLaws.{AllCome, ComesOf}
use Rattle.live_spec.specs.Served.{heard_live, hearing_at, told_live}
use Rattle.live_spec.proofs.HeardLive.{begins, last_is}
use Rattle.live_spec.specs.InTurn.{AreHops, heard_in_turn}
use Rattle.live_spec.specs.Senders.{CallsTellInTurn, hops_before, last_hop, sender_hop}
use Rattle.live_spec.proofs.TwoHops.{turn_law}
use Rattle.mixer_spec.proofs.Plain.{leg_there}

-- ---- what is heard
turn_append : (ps : List Hop) (p last : Hop) → heard_in_turn (ps ++ p ∷ []) last ≡ heard_in_turn ps p ++ marker ∷ hears last
turn_append [] p last = refl
turn_append (x ∷ ps) p last = ap (λ ts. hears x ++ marker ∷ ts) (turn_append ps p last) ∙ sym (append_assoc (hears x) (marker ∷ heard_in_turn ps p) (marker ∷ hears last))

-- what is heard of the senders before, uncut
abbrev whole_formers : Hearing → List Former → List (List ℕ)
whole_formers h [] = []
whole_formers h (f ∷ before) = whole_formers h before ++ (heard h.wait (still f.past) f.ssrc ++ marker ∷ [])

formers_heard : (h : Hearing) (of : ℕ → History) (before : List Former) (last : Hop) → heard_in_turn (hops_before h.wait of before) last ≡ whole_formers h before ++ hears last
formers_heard h of [] last = refl
formers_heard h of (f ∷ before) last =
    let p = sender_hop h.wait (of (length before)) f.ssrc f.past in
    turn_append (hops_before h.wait of before) p last
    ∙ (ap (λ ts. ts ++ marker ∷ hears last) (formers_heard h of before p)
    ∙ (append_assoc (whole_formers h before) (heard h.wait (still f.past) f.ssrc) (marker ∷ hears last)
    ∙ (ap (λ ts. whole_formers h before ++ ts) (sym (append_assoc (heard h.wait (still f.past) f.ssrc) (marker ∷ []) (hears last)))
    ∙ sym (append_assoc (whole_formers h before) (heard h.wait (still f.past) f.ssrc ++ marker ∷ []) (hears last)))))

-- the same in pieces
cut_append : (cutting : List ℕ → List (List ℕ)) (xs ys : List (List ℕ)) → flat_map cutting (xs ++ ys) ≡ flat_map cutting xs ++ flat_map cutting ys
cut_append cutting [] ys = refl
cut_append cutting (x ∷ xs) ys = ap (λ ts. cutting x ++ ts) (cut_append cutting xs ys) ∙ sym (append_assoc (cutting x) (flat_map cutting xs) (flat_map cutting ys))

formers_cut : (h : Hearing) → IsCutting (pieces h.piece) → (before : List Former) → flat_map (pieces h.piece) (whole_formers h before) ≡ former_texts h before
formers_cut h c [] = refl
formers_cut h c (f ∷ before) =
    let cut = pieces h.piece in
    let one = heard h.wait (still f.past) f.ssrc in
    cut_append cut (whole_formers h before) (one ++ marker ∷ [])
    ∙ ((λ i. formers_cut h c before i ++ cut_append cut one (marker ∷ []) i)
    ∙ ap (λ ts. former_texts h before ++ (flat_map cut one ++ (ts ++ []))) c.marker_whole)

heard_is : (c : Conference) (takes : ℕ → Takes) (i : ℕ) (of : ℕ → History) → heard_live c takes i ≡ flat_map (cutting_of c) (heard_in_turn (hops_before c.wait of (told_live c takes i).before) (last_hop c takes i of))
heard_is c takes i of =
    let h = hearing_at c i in
    let d = told_by h (takes i) in
    let last = last_hop c takes i of in
    (λ ι. sym (formers_cut h (is_cutting c) d.before) ι ++ last_is h d.sender d.past (ssrc_of (leg_at c.legs i)) (begins h (takes i)) ι)
    ∙ (sym (cut_append (cutting_of c) (whole_formers h d.before) (hears last)) ∙ ap (flat_map (cutting_of c)) (sym (formers_heard h of d.before last)))

-- ---- they are hops
is_hop : (wait : ℕ) (h : History) (ssrc : ℕ) (past : List Arrival) → ComesOf h past → IsHop (sender_hop wait h ssrc past)
is_hop wait h ssrc past c = record { lawful = lawful_still h c.0; come = come_still h past c.1 }

one_more : (ps : List Hop) (p : Hop) → AllByRecursion IsHop ps → IsHop p → AllByRecursion IsHop (ps ++ p ∷ [])
one_more [] p a b = (b, tt)
one_more (x ∷ ps) p a b = (a.0, one_more ps p a.1 b)

are_before : (wait : ℕ) (of : ℕ → History) (before : List Former) → AllCome of before → AllByRecursion IsHop (hops_before wait of before)
are_before wait of [] a = tt
are_before wait of (f ∷ before) a =
    one_more (hops_before wait of before) (sender_hop wait (of (length before)) f.ssrc f.past) (are_before wait of before a.1) (is_hop wait (of (length before)) f.ssrc f.past a.0)

pub calls_law : CallsTellInTurn
calls_law c takes given end printed live j i pair of from wait came comes =
    let d = told_live c takes i in
    let told = live.told j i pair in
    let before = hops_before c.wait of d.before in
    let last = last_hop c takes i of in
    let q = hop_behind (setup c) live.served.table j i wait came in
    let hops : AreHops before last = record { before = are_before c.wait of d.before from.before; last = is_hop c.wait (of (length d.before)) last.source d.past from.last } in
    let leg = leg_there c.legs j pair.terminal in
    let front : CarriesFront (told_at (setup c) live.served.table j) ((setup c).ssrc i) (flat_map (cutting_of c) (heard_in_turn before last)) told.rest =
    subst (λ (ts : List (List ℕ)). CarriesFront (told_at (setup c) live.served.table j) ((setup c).ssrc i) ts told.rest) (heard_is c takes i of) told.front in
    turn_law (cutting_of c) (is_cutting c) before last q hops (record { lawful = (live.sent j leg.0 leg.1).lawful; come = comes }) told.rest front

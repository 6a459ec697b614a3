-- The headline of a leg behind another mixer, from that mixer's sender to a terminal.
use Rattle.std.proofs.Common.{◌≡◌, ℕ, None, Option, List, [], ◌∷◌, ◌++◌, length, refl, ap, subst, sym, ◌∙◌}
use Rattle.std.specs.Prelude.{flat_map}
use Rattle.std.proofs.lemmas.List.{append-nil}
use Rattle.stream_spec.specs.Carries.{Carries, Groups}
use Rattle.stream_spec.specs.Hearing.{AreHeardTexts}
use Rattle.stream_spec.specs.History.{History, Lawful, Come}
use Rattle.stream_spec.specs.Kept.{texts}
use Rattle.stream_spec.proofs.Still.{come_still, lawful_still}
use Rattle.stream_spec.proofs.Walks.{l1}
use Rattle.mixer_spec.specs.Setups.{AllStay}
use Rattle.mixer_spec.specs.Arrives.{IsPlan}
use Rattle.mixer_spec.specs.Bridged.{IsPart, pieces_heard, shared_texts}
use Rattle.mixer_spec.specs.Headline.{Headline, HeadlineAt, IsHop, all_sent, hears, told}
use Rattle.mixer_spec.specs.PieceHeadline.{PieceHeadline, PieceHeadlineAt, all_pieces, pieces_told}
use Rattle.mixer_spec.specs.Pieces.{characters, pieces}
use Rattle.mixer_spec.specs.Rooms.{piece_within}
use Rattle.mixer_spec.proofs.Bridged.{hops_law}
use Rattle.mixer_spec.proofs.BothHops.{headline_law}
use Rattle.mixer_spec.proofs.Characters.{characters_law, groups_law}
use Rattle.mixer_spec.proofs.Chunks.{texts_stay}
use Rattle.mixer_spec.proofs.HopMarkers.{groups_of}
use Rattle.mixer_spec.proofs.OfFiles.{few, four}
use Rattle.mixer_spec.proofs.PieceTold.{HasTexts}
use Rattle.mixer_spec.proofs.TwoHops.{headline_law as pieces_headline, hops_law as pieces_law, pieces_are}
use Rattle.command_spec.specs.Splitting.{Trunk, came_of}
use Rattle.command_spec.specs.Bridges.{Bridge, IsHeard, onward_from, setup_of, told_to}
use Rattle.command_spec.specs.Cascaded.{IsCutBehind, heard_of, pieces_heard_of, to_recording}
use Rattle.command_spec.proofs.Regrouped.{groups_say, groups_short, parted, regrouped}
use Rattle.rtt_base.specs.declared.limits.TheConstants.{MOST_TEXT_OCTETS}

-- what was sent to the other mixer's recording, and what is sent to the terminal j, are hops
first_hop : (t : Trunk) (octets : List ℕ) (ssrc : ℕ) (h : History) → Lawful h → Come h (came_of t octets) → IsHop (to_recording t octets ssrc h)
first_hop t octets ssrc h law come = record { lawful = lawful_still h law; come = come_still h (came_of t octets) come }

second_hop : (b : Bridge) (j i : ℕ) → IsHeard b j i → IsPlan b.conference.plan → History → IsHop (onward_from b j i)
second_hop b j i heard plan h = record { lawful = (heard.bridged h).out.lawful; come = (heard.bridged h).comes b.conference.plan plan }

-- ---- what is heard of the leg
-- Where packets have no limit, it is not cut: it goes into blocks.
heard_some : (ts : List (List ℕ)) → AreHeardTexts ts → HasTexts ts
heard_some [] h = tt
heard_some (t ∷ ts) h = (h.0, heard_some ts h.2)

pub uncut_behind : (b : Bridge) (i : ℕ) (recorded : List (List ℕ)) → AreHeardTexts (heard_of b i) → Groups (heard_of b i) recorded [] → b.conference.mtu ≡ None → pieces_heard_of b i ≡ heard_of b i
uncut_behind b i recorded are groups none =
    ap (λ (o : Option ℕ). flat_map (pieces (piece_within o)) (heard_of b i)) none
    ∙ texts_stay MOST_TEXT_OCTETS (heard_of b i) (heard_some (heard_of b i) are) (groups_short (heard_of b i) recorded [] groups)

-- In pieces it is groups of the characters that are heard in the recording.
pub characters_behind : (b : Bridge) (i : ℕ) (recorded : List (List ℕ)) → AreHeardTexts (heard_of b i) → AreHeardTexts recorded → Groups (heard_of b i) recorded [] → Groups (pieces_heard_of b i) (flat_map characters recorded) []
characters_behind b i recorded are sent groups =
    groups_law (piece_within b.conference.mtu) (four b.conference.mtu) (few b.conference.mtu) (heard_of b i) recorded are sent (groups_say (heard_of b i) recorded groups)

-- ---- it is cut at what the terminal shares, of which its packets carry each part
abbrev middle : (b : Bridge) (j i : ℕ) (recorded : List (List ℕ)) (cut : IsCutBehind b j i recorded) → IsPart (length cut.front) recorded cut.shared
middle b j i recorded cut = record { before = cut.front; after = cut.back; count = refl; whole = cut.whole }

cut_behind : (b : Bridge) (j i : ℕ) → IsHeard b j i → History → (recorded : List (List ℕ)) → Groups (pieces_heard_of b i) recorded []
    → (cut : IsCutBehind b j i recorded) × Carries (told_to b j) ((setup_of b).ssrc i) cut.shared
cut_behind b j i heard h recorded groups =
    let part = (heard.bridged h).part in
    let first = parted part.before (shared_texts b.table j i ++ part.after) recorded [] (subst (λ (ts : List (List ℕ)). Groups ts recorded []) part.whole groups) in
    let second = parted (shared_texts b.table j i) part.after first.back [] first.more in
    let whole : recorded ≡ first.front ++ (second.front ++ second.back) = first.is ∙ ap (λ (ts : List (List ℕ)). first.front ++ ts) second.is in (
      record { part = part; front = first.front; shared = second.front; back = second.back; whole = whole; before = first.first; between = second.first; behind = second.more },
      regrouped _ (shared_texts b.table j i) second.front (heard.bridged h).carries second.first,
    )

-- ---- character by character
pub headline_by_character : (t : Trunk) (octets : List ℕ) (b : Bridge) (j i ssrc : ℕ) → IsHeard b j i → IsPlan b.conference.plan → (h : History) → Lawful h → Come h (came_of t octets)
    → Groups (pieces_heard_of b i) (pieces_heard characters (to_recording t octets ssrc h)) []
    → (cut : IsCutBehind b j i (pieces_heard characters (to_recording t octets ssrc h))) × PieceHeadlineAt characters (to_recording t octets ssrc h) (onward_from b j i) cut.front [] cut.back
headline_by_character t octets b j i ssrc heard plan h law come groups =
    let p = to_recording t octets ssrc h in
    let c = cut_behind b j i heard h (pieces_heard characters p) groups in
    (c.0, pieces_law characters characters_law p (onward_from b j i) (first_hop t octets ssrc h law come) (second_hop b j i heard plan h) (length c.0.front) c.0.shared [] (middle b j i (pieces_heard characters p) c.0) c.1)

pub headline_all_by_character : (t : Trunk) (octets : List ℕ) (b : Bridge) (j i ssrc : ℕ) → IsHeard b j i → IsPlan b.conference.plan → AllStay (setup_of b) → (h : History) → Lawful h → Come h (came_of t octets)
    → Groups (pieces_heard_of b i) (pieces_heard characters (to_recording t octets ssrc h)) []
    → PieceHeadline characters (to_recording t octets ssrc h) (onward_from b j i) (all_pieces characters (to_recording t octets ssrc h))
headline_all_by_character t octets b j i ssrc heard plan stay h law come groups =
    let p = to_recording t octets ssrc h in
    let first = first_hop t octets ssrc h law come in
    let carries : Carries (told_to b j) ((setup_of b).ssrc i) (pieces_heard characters p) = regrouped _ (pieces_heard_of b i) (pieces_heard characters p) (heard.carries_all stay h) groups in
    let told_carries : Carries (told_to b j) ((setup_of b).ssrc i) (texts (pieces_told characters p)) =
    subst (Carries (told_to b j) ((setup_of b).ssrc i)) (sym (pieces_are characters characters_law p first)) carries in
    pieces_headline characters characters_law p (onward_from b j i) first (second_hop b j i heard plan h) (all_pieces characters p) (sym (append-nil (pieces_told characters p)))
    (groups_of (told_to b j) ((setup_of b).ssrc i) (texts (pieces_told characters p)) told_carries)

-- ---- block by block
pub headline_behind : (t : Trunk) (octets : List ℕ) (b : Bridge) (j i ssrc : ℕ) → IsHeard b j i → IsPlan b.conference.plan → (h : History) → Lawful h → Come h (came_of t octets)
    → Groups (pieces_heard_of b i) (hears (to_recording t octets ssrc h)) []
    → (cut : IsCutBehind b j i (hears (to_recording t octets ssrc h))) × HeadlineAt (to_recording t octets ssrc h) (onward_from b j i) cut.front [] cut.back
headline_behind t octets b j i ssrc heard plan h law come groups =
    let p = to_recording t octets ssrc h in
    let c = cut_behind b j i heard h (hears p) groups in
    (c.0, hops_law p (onward_from b j i) (first_hop t octets ssrc h law come) (second_hop b j i heard plan h) (length c.0.front) c.0.shared [] (middle b j i (hears p) c.0) c.1)

pub headline_all_behind : (t : Trunk) (octets : List ℕ) (b : Bridge) (j i ssrc : ℕ) → IsHeard b j i → IsPlan b.conference.plan → AllStay (setup_of b) → (h : History) → Lawful h → Come h (came_of t octets)
    → Groups (pieces_heard_of b i) (hears (to_recording t octets ssrc h)) []
    → Headline (to_recording t octets ssrc h) (onward_from b j i) (all_sent (to_recording t octets ssrc h))
headline_all_behind t octets b j i ssrc heard plan stay h law come groups =
    let p = to_recording t octets ssrc h in
    let first = first_hop t octets ssrc h law come in
    let carries : Carries (told_to b j) ((setup_of b).ssrc i) (hears p) = regrouped _ (pieces_heard_of b i) (hears p) (heard.carries_all stay h) groups in
    let told_carries : Carries (told_to b j) ((setup_of b).ssrc i) (texts (told p)) =
    subst (Carries (told_to b j) ((setup_of b).ssrc i)) (l1 p.wait p.sent first.lawful p.came first.come p.source) carries in
    headline_law p (onward_from b j i) first (second_hop b j i heard plan h) (all_sent p) (sym (append-nil (told p)))
    (groups_of (told_to b j) ((setup_of b).ssrc i) (texts (told p)) told_carries)

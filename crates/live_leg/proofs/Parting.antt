-- What an ear gives is of the part that it hears.
use Rattle.std.proofs.Common.{◌≡◌, ℕ, ◌≤◌, Bool, true, false, cond, Option, None, Some, List, [], ◌∷◌, ◌++◌, refl, ap, sym, ◌∙◌, subst}
use Rattle.std.specs.Prelude.{filter, map, max, if◌then◌else◌}
use Rattle.std.proofs.lemmas.List.{append_cancel_left, map-append}
use Rattle.wire_spec.specs.Packets.{Arrival, Packet}
use Rattle.stream_spec.specs.Fronts.{IsFront, is_ready_by}
use Rattle.stream_spec.specs.Hearing.{marker}
use Rattle.stream_spec.specs.Ready.{Chunk, chunk, chunks}
use Rattle.stream_spec.specs.Still.{is_lively_chunk, still}
use Rattle.stream_spec.proofs.StillChunks.{chunks_still}
use Rattle.reorder_buffer.specs.Stories.{Story}
use Rattle.receiver.specs.declared.settings.EarSettings.{EarSettings}
use Rattle.receiver.specs.declared.ears.Ear.{Ear}
use Rattle.receiver.specs.Hears.{Gave, GaveFront, ready_chunks, settings_of, story_chunks}
use Rattle.receiver.specs.Cuts.{most_of}
use Rattle.receiver.proofs.HandedOut.{given_cut}
use Rattle.mixer_spec.specs.Pieces.{chunks_cut, pieces}
use Rattle.stream_spec.specs.Links.{Takes}
use Rattle.live_spec.specs.Told.{Hearing, Told, all_by, all_former, all_told, former_after, last_chunks, ready_by, ready_until, taken_over, told_by}
use Rattle.live_spec.proofs.Fronts.{all_good, as_it_was, behind, more, ready_cut, ready_is}
use Rattle.live_leg.specs.declared.settings.LegSettings.{LegSettings}
use Rattle.live_leg.specs.declared.states.State.{State}
use Rattle.live_leg.specs.declared.states.State.TheVariants.{Idle, Giving, Blank, Parting, Ending, Over}
use Rattle.live_leg.specs.Stands.{IsPart, given_as}
use Rattle.live_leg.specs.Stories.{IsEarOf, IsOf, hearing_of}

filter_swap : {X : Type 0} (p q : X → Bool) (xs : List X) → filter p (filter q xs) ≡ filter q (filter p xs)
filter_swap p q [] = refl
filter_swap p q (x ∷ xs) = go (p x) (q x) refl refl (filter_swap p q xs)
  where
    go : (a b : Bool) → p x ≡ a → q x ≡ b → filter p (filter q xs) ≡ filter q (filter p xs)
        → filter p (cond b (x ∷ filter q xs) (filter q xs)) ≡ filter q (cond a (x ∷ filter p xs) (filter p xs))
    go true true e f h = rw e (rw f (ap (λ ys. x ∷ ys) h))
    go true false e f h = rw f h
    go false true e f h = rw e h
    go false false e f h = h

-- what an ear hands out by its story are the texts of the sender
pub part_chunks : (lc : LegSettings) (d : Told) (settings : EarSettings) (story : Story) → IsEarOf (hearing_of lc) d settings → story.past ≡ d.past
    → story_chunks settings settings.ssrc story ≡ last_chunks (hearing_of lc) d.sender d.past
part_chunks lc d settings story e s =
    given_cut settings.cut (chunks settings.wait 0 story.past settings.ssrc) e.cut
    ∙ (ap (λ cs. chunks_cut (pieces (most_of settings.cut)) cs) (sym (chunks_still settings.wait 0 story.past settings.ssrc))
    ∙ ((λ i. chunks_cut (pieces (e.piece i)) (chunks (e.wait i) 0 (still (s i)) settings.ssrc)) ∙ go d.sender e.sender))
  where
    go : (o : Option ℕ) → IsOf o settings.ssrc d.past → chunks_cut (pieces (hearing_of lc).piece) (chunks lc.ear.wait 0 (still d.past) settings.ssrc) ≡ last_chunks (hearing_of lc) o d.past
    go None p = ap (λ (a : List Arrival). chunks_cut (pieces (hearing_of lc).piece) (chunks lc.ear.wait 0 (still a) settings.ssrc)) p
    go (Some s) q = ap (λ (x : ℕ). chunks_cut (pieces (hearing_of lc).piece) (chunks lc.ear.wait 0 (still d.past) x)) q

-- what is ready of it is what is ready of them
pub part_ready : (lc : LegSettings) (d : Told) (settings : EarSettings) (story : Story) → IsEarOf (hearing_of lc) d settings → story.past ≡ d.past
    → ready_chunks settings settings.ssrc story ≡ filter (is_ready_by story.moment) (last_chunks (hearing_of lc) d.sender d.past)
part_ready lc d settings story e s =
    let cs = chunks settings.wait 0 story.past settings.ssrc in
    let cutting = pieces (most_of settings.cut) in
    given_cut settings.cut (filter (is_ready_by story.moment) cs) e.cut
    ∙ (ap (λ xs. chunks_cut cutting xs) (filter_swap is_lively_chunk (is_ready_by story.moment) cs)
    ∙ (sym (ready_cut cutting story.moment (filter is_lively_chunk cs))
    ∙ (ap (λ xs. filter (is_ready_by story.moment) xs) (sym (given_cut settings.cut cs e.cut)) ∙ ap (λ xs. filter (is_ready_by story.moment) xs) (part_chunks lc d settings story e s))))

-- what it gave so far is a front of them
pub part_front : (lc : LegSettings) (d : Told) (e : Ear) (story : Story) (cs : List Chunk) → GaveFront e → IsEarOf (hearing_of lc) d (settings_of e) → story.past ≡ d.past → Gave e (settings_of e) (settings_of e).ssrc story cs
    → IsFront cs (last_chunks (hearing_of lc) d.sender d.past)
part_front lc d e story cs f hears s w =
    let r = f (settings_of e) (settings_of e).ssrc story cs w in
    (r.0, sym (part_chunks lc d (settings_of e) story hears s) ∙ r.1)

-- ---- of all that is heard
-- one took over: what is left of the sender before, with its marker, is no longer the last
pub over_former : (h : Hearing) (d : Told) (t : ℕ) (s : ℕ) → d.sender ≡ Some s
    → all_former h (former_after d.sender d.past (max d.moment t) d.before)
    ≡ all_former h d.before ++ (map (ready_until (max d.moment t)) (last_chunks h d.sender d.past) ++ chunk h.leg (max d.moment t) marker ∷ [])
over_former h d t s e = go d.sender e
  where
    go : (o : Option ℕ) → o ≡ Some s
        → all_former h (former_after o d.past (max d.moment t) d.before) ≡ all_former h d.before ++ (map (ready_until (max d.moment t)) (last_chunks h o d.past) ++ chunk h.leg (max d.moment t) marker ∷ [])
    go None q = absurd (cc q)
    go (Some x) q = refl

over_front : (h : Hearing) (d : Told) (t : ℕ) (p : Packet) (s : ℕ) → d.sender ≡ Some s → (cs : List Chunk) → IsFront cs (last_chunks h d.sender d.past)
    → IsFront (all_former h d.before ++ map (ready_until (max d.moment t)) cs) (all_told h (taken_over d t p))
over_front h d t p s e cs f =
    let m = max d.moment t in
    let until : IsFront (map (ready_until m) cs) (map (ready_until m) (last_chunks h d.sender d.past)) = (map (ready_until m) f.0, ap (map (ready_until m)) f.1 ∙ map-append (ready_until m) cs f.0) in
    let first = behind (all_former h d.before) (map (ready_until m) cs) (map (ready_until m) (last_chunks h d.sender d.past) ++ chunk h.leg m marker ∷ [])
    (more (map (ready_until m) cs) (map (ready_until m) (last_chunks h d.sender d.past)) (chunk h.leg m marker ∷ []) until) in
    more (all_former h d.before ++ map (ready_until m) cs) (all_former h (taken_over d t p).before) (last_chunks h (taken_over d t p).sender (taken_over d t p).past)
    (subst (λ (ys : List Chunk). IsFront (all_former h d.before ++ map (ready_until m) cs) ys) (sym (over_former h d t s e)) first)

same_front : (h : Hearing) (takes : Takes) (part : Told) (cs : List Chunk) → part ≡ told_by h takes → IsFront cs (last_chunks h part.sender part.past) → IsFront (all_former h part.before ++ cs) (all_by h takes)
same_front h takes part cs e f = subst (λ (d : Told). IsFront (all_former h part.before ++ cs) (all_told h d)) e (behind (all_former h part.before) cs (last_chunks h part.sender part.past) f)

pub front_at : (st : State) (h : Hearing) (takes : Takes) (octets : List ℕ) (moment : ℕ) (part : Told) (cs : List Chunk) → IsPart st h takes octets part → moment ≡ (told_by h takes).moment
    → IsFront cs (last_chunks h part.sender part.past) → IsFront (all_former h part.before ++ given_as st moment cs) (all_by h takes)
front_at Idle h takes octets moment part cs p m f = same_front h takes part cs p f
front_at Giving h takes octets moment part cs p m f = same_front h takes part cs p f
front_at Blank h takes octets moment part cs p m f = same_front h takes part cs p f
front_at Ending h takes octets moment part cs p m f = same_front h takes part cs p f
front_at Over h takes octets moment part cs p m f = same_front h takes part cs p f
front_at Parting h takes octets moment part cs p m f =
    let same : moment ≡ max part.moment p.at = m ∙ ap (λ (d : Told). d.moment) p.over in
    subst (λ (d : Told). IsFront (all_former h part.before ++ map (ready_until moment) cs) (all_told h d)) (sym p.over)
    (subst (λ (n : ℕ). IsFront (all_former h part.before ++ map (ready_until n) cs) (all_told h (taken_over part p.at p.packet))) (sym same) (over_front h part p.at p.packet p.ssrc p.sender cs f))

-- ---- what is ready
-- of an open leg that gave all that is ready, behind what is heard of the senders before
pub ready_part : (h : Hearing) (takes : Takes) (cs : List Chunk) → (told_by h takes).closed ≡ false → all_former h (told_by h takes).before ++ cs ≡ ready_by h takes
    → cs ≡ filter (is_ready_by (told_by h takes).moment) (last_chunks h (told_by h takes).sender (told_by h takes).past)
ready_part h takes cs o e =
    let d = told_by h takes in
    let open_ready : ready_by h takes ≡ filter (is_ready_by d.moment) (all_told h d) = ap (λ (b : Bool). if b then all_told h d else filter (is_ready_by d.moment) (all_told h d)) o in
    append_cancel_left (all_former h d.before) cs (filter (is_ready_by d.moment) (last_chunks h d.sender d.past)) (e ∙ (open_ready ∙ ready_is h d d.moment (all_good h takes).until))

-- it is ready by the greatest moment
pub all_soon : (h : Hearing) (takes : Takes) (cs : List Chunk) (m : ℕ) → (told_by h takes).closed ≡ false → (told_by h takes).moment ≤ m → all_former h (told_by h takes).before ++ cs ≡ ready_by h takes
    → map (ready_until m) cs ≡ cs
all_soon h takes cs m o l e =
    let d = told_by h takes in
    let same = ready_part h takes cs o e in
    ap (map (ready_until m)) same ∙ (as_it_was d.moment m l (last_chunks h d.sender d.past) ∙ sym same)

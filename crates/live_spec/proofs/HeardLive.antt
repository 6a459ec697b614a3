-- What is heard of a live leg are the texts of all its chunks, and those of one stream where nobody took over.
use Rattle.std.proofs.Common.{◌≡◌, ℕ, Bool, true, false, Option, Some, None, Result, Ok, Err, List, [], ◌∷◌, ◌++◌, refl, ap, sym, ◌∙◌}
use Rattle.std.specs.Prelude.{flat_map, unwrap_or, if◌then◌else◌}
use Rattle.wire_spec.specs.declared.faults.TextFault.{TextFault}
use Rattle.wire_spec.specs.Packets.{Arrival, Packet}
use Rattle.wire_spec.specs.Text.{text_within}
use Rattle.stream_spec.specs.Hearing.{heard}
use Rattle.stream_spec.specs.Still.{still}
use Rattle.file_spec.specs.Conference.{Conference}
use Rattle.mixer_spec.specs.Chunks.{texts_of}
use Rattle.mixer_spec.specs.Pieces.{pieces}
use Rattle.mixer_spec.specs.Setups.{leg_at, ssrc_of}
use Rattle.stream_spec.specs.Links.{Came, Closed, Datagram, Large, Quiet, Takes}
use Rattle.live_spec.specs.Told.{Former, Hearing, Told, former_texts, is_sender, last_texts, taken_over, takes_over, told_by, told_came, told_packet, with_packet}
use Rattle.live_spec.proofs.Texts.{texts_law}
use Rattle.live_spec.proofs.Unfollowed.{unfollowed_law}
use Rattle.live_spec.specs.Served.{chunks_live, heard_live, hearing_at}
use Rattle.live_spec.specs.HeadLive.{OneSenderIsHeard, UnfollowedHasOneSender}

pub live_heard : (c : Conference) (takes : ℕ → Takes) (i : ℕ) → texts_of (chunks_live c takes i) ≡ heard_live c takes i
live_heard c takes i = texts_law (hearing_at c i) (takes i)

-- ---- of one sender
-- while there is none nothing came
abbrev pub Begins : Told → Type 0
Begins d = d.sender ≡ None → d.past ≡ []

packet_begins : (h : Hearing) (d : Told) (t : ℕ) (r : Result Packet TextFault) → Begins d → Begins (told_packet h d t r)
packet_begins h d t (Err fault) b = b
packet_begins h d t (Ok p) b = go (is_sender d.sender p.ssrc) (takes_over h d t p.ssrc) refl
  where
    none : (sender : Option ℕ) → is_sender sender p.ssrc ≡ true → sender ≡ None → ⊥
    none None e q = absurd (cc e)
    none (Some s) e q = absurd (cc q)

    go : (a b : Bool) → is_sender d.sender p.ssrc ≡ a → Begins (if a then with_packet d t p else (if b then taken_over d t p else d))
    go true c e = λ q. absurd (none d.sender e q)
    go false true e = λ q. absurd (cc q)
    go false false e = b

came_begins : (h : Hearing) (d : Told) (t : ℕ) (came : Came) → Begins d → Begins (told_came h d t came)
came_begins h d t (Datagram octets) b = packet_begins h d t (text_within h.most octets None h.payload_types) b
came_begins h d t Large b = b
came_begins h d t Quiet b = b
came_begins h d t Closed b = b

pub begins : (h : Hearing) (takes : Takes) → Begins (told_by h takes)
begins h [] = λ q. refl
begins h (a ∷ past) = came_begins h (told_by h past) a.at a.came (begins h past)

pub last_is : (h : Hearing) (sender : Option ℕ) (past : List Arrival) (x : ℕ) → (sender ≡ None → past ≡ []) → last_texts h sender past ≡ flat_map (pieces h.piece) (heard h.wait (still past) (unwrap_or sender x))
last_is h None past x b = ap (λ (ps : List Arrival). flat_map (pieces h.piece) (heard h.wait (still ps) x)) (sym (b refl))
last_is h (Some s) past x b = refl

pub one_sender : OneSenderIsHeard
one_sender c takes i alone =
    let h = hearing_at c i in
    let d = told_by h (takes i) in
    ap (λ (before : List Former). former_texts h before ++ last_texts h d.sender d.past) alone
    ∙ last_is h d.sender d.past (ssrc_of (leg_at c.legs i)) (begins h (takes i))

pub unfollowed : UnfollowedHasOneSender
unfollowed c takes i e =
    let h = hearing_at c i in
    let told = (unfollowed_law h (takes i) e).told in
    (ap (λ (d : Told). d.before) told, ap (λ (d : Told). unwrap_or d.sender (ssrc_of (leg_at c.legs i))) told)

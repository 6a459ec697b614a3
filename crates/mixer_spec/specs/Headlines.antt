-- What the laws say of the headline: at the end of plain mixing, after every list of events, where all legs stay, and of a
-- conference in files.
use Rattle.std.specs.Prelude.{◌≡◌, ℕ, ◌<◌, ◌≤◌, false, None, Ok, List, length}
use Rattle.wire_spec.specs.Packets.{Arrival}
use Rattle.file_spec.specs.declared.conference_lines.Form.{Form}
use Rattle.file_spec.specs.Conference.{Conference, conference_from}
use Rattle.file_spec.specs.Kept.{IsConference}
use Rattle.stream_spec.specs.History.{History, Come}
use Rattle.stream_spec.specs.Ready.{Chunk, chunks}
use Rattle.stream_spec.specs.Still.{still}
use Rattle.stream_spec.specs.Carries.{Carries, CarriesFront}
use Rattle.mixer_spec.specs.Setups.{AllStay, IsAnother, IsSetup, Setup, leg_at, setup, ssrc_of, is_long}
use Rattle.mixer_spec.specs.Table.{Table, chunks_taken, shared}
use Rattle.mixer_spec.specs.Core.{Event, after}
use Rattle.mixer_spec.specs.Plain.{IsOverWith}
use Rattle.mixer_spec.specs.Headline.{HeadlineAt, Hop, IsHop, OneHop, hears}
use Rattle.mixer_spec.specs.declared.limits.TheConstants.{PLACES}
use Rattle.mixer_spec.specs.Bridged.{AreCounted, IsConferenceMixed, IsHeardOf, IsMixed, IsOut, IsPair, IsPart, IsRunning, IsSentBy, SharedIsPart, before_shared, came_of, cutting_of, hop_from, hop_to, leg_chunks, leg_heard, pieces_heard, shared_texts, told_at, waiting_texts}
use Rattle.mixer_spec.specs.Behind.{Bridged, BridgedAsOne}
use Rattle.mixer_spec.specs.PieceHeadline.{PieceHeadline, PieceHeadlineAt, all_pieces}
use Rattle.mixer_spec.specs.Pieces.{IsCutting}

-- ---- at the end of plain mixing
-- What an aware terminal hears of a leg is bridged, whatever comes to it, and however texts are cut where the leg is heard.
abbrev pub PlainIsBridged : Type 0
PlainIsBridged =
    (cutting : List ℕ → List (List ℕ)) → IsCutting cutting
    → (s : Setup) (chunks : ℕ → List Chunk) (tick turns : ℕ) (table : Table)
    → IsMixed s chunks tick turns table
    → (j i : ℕ) → IsPair s j i
    → (p : Hop) (cs : List Chunk) → IsHeardOf cutting p i cs
    → AreCounted s chunks i cs
    → Bridged cutting s table j i (told_at s table j) p cs

-- A terminal that is not aware hears the mixer as the one source.
abbrev pub PlainIsBridgedAsOne : Type 0
PlainIsBridgedAsOne =
    (s : Setup) (chunks : ℕ → List Chunk) (tick turns : ℕ) (table : Table)
    → IsMixed s chunks tick turns table
    → (j : ℕ)
    → s.aware j ≡ false
    → j < s.legs
    → BridgedAsOne s table j (told_at s table j)

-- ---- after every list of events
-- the hop to the terminal j, where these of its packets came, and the leg i is listened to
abbrev pub hop_behind : Setup → Table → ℕ → ℕ → ℕ → List Arrival → Hop
hop_behind s w j i wait came = hop_to (told_at s w j) (s.ssrc i) wait came

-- What is shared of the leg i stands in what is heard of it, and the headline holds behind the terminal j, but for what still
-- waits there.
abbrev pub HasHeadline : (List ℕ → List (List ℕ)) → Setup → Table → ℕ → ℕ → Hop → List Chunk → ℕ → List Arrival → Type 0
HasHeadline cutting s w j i p cs wait came =
    (part : SharedIsPart cutting s w j i p cs)
    × PieceHeadlineAt cutting p (hop_behind s w j i wait came) part.before (waiting_texts w j i) part.after

-- At an aware terminal that is so of each other leg.
abbrev pub AnyHasHeadline : Type 0
AnyHasHeadline =
    (cutting : List ℕ → List (List ℕ)) → IsCutting cutting
    → (s : Setup) (chunks : ℕ → List Chunk) (past : List Event)
    → IsRunning s chunks past
    → (j i : ℕ) → IsPair s j i
    → (p : Hop) (cs : List Chunk) → IsHop p → IsHeardOf cutting p i cs
    → AreCounted s chunks i cs
    → (wait : ℕ) (came : List Arrival) → Come (told_at s (after s chunks past).table j) came
    → HasHeadline cutting s (after s chunks past).table j i p cs wait came

-- At each terminal, aware or not, what it shares of a leg stands in what is heard of the leg.
abbrev pub AnyIsPart : Type 0
AnyIsPart =
    (cutting : List ℕ → List (List ℕ)) (s : Setup) (chunks : ℕ → List Chunk) (past : List Event) (j i : ℕ)
    → IsAnother i j
    → (p : Hop) (cs : List Chunk) → IsHeardOf cutting p i cs
    → AreCounted s chunks i cs
    → SharedIsPart cutting s (after s chunks past).table j i p cs

-- The packets to an aware terminal carry a front of the texts that it shares, and the rest waits there.
abbrev pub AnyIsCarried : Type 0
AnyIsCarried =
    (s : Setup) (chunks : ℕ → List Chunk) (past : List Event)
    → IsRunning s chunks past
    → (j i : ℕ) → IsPair s j i
    → let w = (after s chunks past).table in
    CarriesFront (told_at s w j) (s.ssrc i) (shared_texts w j i) (waiting_texts w j i)

-- What was sent to a terminal, aware or not, are the packets of a lawful history.
abbrev pub AnyIsOut : Type 0
AnyIsOut =
    (s : Setup) (chunks : ℕ → List Chunk) (past : List Event)
    → IsRunning s chunks past
    → (j : ℕ)
    → j < s.legs
    → let w = (after s chunks past).table in
    IsOut s j (w.terminals j) (told_at s w j)

-- It is one hop for any source that is listened to: at a terminal that is not aware that is the mixer.
abbrev pub AnyIsOneHop : Type 0
AnyIsOneHop =
    (s : Setup) (chunks : ℕ → List Chunk) (past : List Event)
    → IsRunning s chunks past
    → (j x : ℕ)
    → j < s.legs
    → let h = told_at s (after s chunks past).table j in
    (wait : ℕ) (came : List Arrival) → Come h came
    → OneHop (hop_to h x wait came)

-- The headline of any two hops, the second of which carries a part of what the first one tells.
abbrev pub HopsHaveHeadline : Type 0
HopsHaveHeadline =
    (p q : Hop) → IsHop p → IsHop q
    → (n : ℕ) (shared rest : List (List ℕ)) (part : IsPart n (hears p) shared)
    → CarriesFront q.sent q.source shared rest
    → HeadlineAt p q part.before rest part.after

-- ---- where all legs stay
-- All that a terminal was given of another leg is all that was taken of it.
abbrev pub AllIsShared : Type 0
AllIsShared =
    (s : Setup) (chunks : ℕ → List Chunk) (tick turns j i : ℕ) (table : Table)
    → AllStay s
    → j < s.legs → IsAnother i j
    → IsOverWith s tick turns chunks table
    → shared j (table.taken i) ≡ chunks_taken (table.taken i)

-- Nothing stands before it.
abbrev pub NoneIsBefore : Type 0
NoneIsBefore =
    (s : Setup) (chunks : ℕ → List Chunk) (tick turns j i : ℕ) (table : Table) (cs : List Chunk)
    → AllStay s
    → j < s.legs → IsAnother i j
    → IsOverWith s tick turns chunks table
    → before_shared s table j i cs ≡ 0

-- The packets to an aware terminal carry all that is heard of a leg, and the headline leaves nothing out.
abbrev pub AllHasHeadline : Type 0
AllHasHeadline =
    (cutting : List ℕ → List (List ℕ)) → IsCutting cutting
    → (s : Setup) (chunks : ℕ → List Chunk) (tick turns : ℕ) (table : Table)
    → AllStay s
    → IsMixed s chunks tick turns table
    → (j i : ℕ) → IsPair s j i
    → (p : Hop) → IsHop p → IsHeardOf cutting p i (chunks i)
    → (wait : ℕ) (came : List Arrival) → Come (told_at s table j) came
    → Carries (told_at s table j) (s.ssrc i) (pieces_heard cutting p)
    × PieceHeadline cutting p (hop_behind s table j i wait came) (all_pieces cutting p)

-- ---- of a conference in files
-- What a conference file is accepted as is a conference, and a setup.
abbrev pub AcceptedIsSetup : Type 0
AcceptedIsSetup =
    (form : Form) (octets : List ℕ) (c : Conference)
    → conference_from form octets ≡ Ok c
    → IsConference c × IsSetup (setup c)

-- Where what comes of a leg is of a lawful history, that is a hop without its keep-alives.
abbrev pub ConferenceHops : Type 0
ConferenceHops =
    (c : Conference) (inputs : ℕ → List ℕ) (i : ℕ) (h : History)
    → IsSentBy c inputs i h
    → IsHop (hop_from c inputs i h)

-- At an aware terminal it is bridged, for every lawful history of which a leg's arrivals come.
abbrev pub ConferenceIsBridged : Type 0
ConferenceIsBridged =
    (c : Conference) (inputs : ℕ → List ℕ) (table : Table)
    → IsConference c
    → IsConferenceMixed c inputs table
    → (j i : ℕ) → IsPair (setup c) j i
    → (h : History)
    → Bridged (cutting_of c) (setup c) table j i (told_at (setup c) table j) (hop_from c inputs i h) (leg_heard c inputs i)

-- At a terminal that is not aware it is so as one source.
abbrev pub ConferenceIsBridgedAsOne : Type 0
ConferenceIsBridgedAsOne =
    (c : Conference) (inputs : ℕ → List ℕ) (table : Table)
    → IsConference c
    → IsConferenceMixed c inputs table
    → (j : ℕ)
    → (setup c).aware j ≡ false
    → j < (setup c).legs
    → BridgedAsOne (setup c) table j (told_at (setup c) table j)

-- Where there are no more legs than places, some number of turns is enough.
abbrev pub ConferenceEnds : Type 0
ConferenceEnds =
    (c : Conference) (inputs : ℕ → List ℕ)
    → IsConference c
    → length c.legs ≤ PLACES
    → (n : ℕ) × (table : Table) × IsOverWith (setup c) c.tick n (leg_chunks c inputs) table

-- At each terminal, aware or not, what it shares of a leg stands in what is heard of the leg.
abbrev pub ConferenceIsPart : Type 0
ConferenceIsPart =
    (c : Conference) (inputs : ℕ → List ℕ) (table : Table)
    → IsConference c
    → IsConferenceMixed c inputs table
    → (j i : ℕ)
    → i < (setup c).legs → IsAnother i j
    → (h : History)
    → SharedIsPart (cutting_of c) (setup c) table j i (hop_from c inputs i h) (leg_heard c inputs i)

-- Where packets have no limit, and a leg no long texts, each is heard whole.
abbrev pub ConferenceHearsWhole : Type 0
ConferenceHearsWhole =
    (c : Conference) (inputs : ℕ → List ℕ) (i : ℕ)
    → c.mtu ≡ None
    → is_long (leg_at c.legs i) ≡ false
    → leg_heard c inputs i ≡ chunks c.wait i (still (came_of c inputs i)) (ssrc_of (leg_at c.legs i))

-- What a live call promises, whatever its links gave, and at whatever moments (profile).
use Rattle.std.specs.Prelude.{◌≡◌, ◌<◌, ◌≤◌, ℕ, false, Some, Ok, List, [], ◌++◌, length, map, flat_map, All, IsSome}
use Rattle.std.specs.Option.{ForSome}
use Rattle.wire_spec.specs.Packets.{Arrival}
use Rattle.wire_spec.specs.Text.{text_of}
use Rattle.file_spec.specs.declared.conference_lines.Form.TheVariants.{Links}
use Rattle.file_spec.specs.declared.conference_lines.LegLine.{LegLine}
use Rattle.file_spec.specs.Conference.{Conference, conference_from, port}
use Rattle.stream_spec.specs.Lists.{In}
use Rattle.stream_spec.specs.History.{Come, History, Lawful, Placed, placed}
use Rattle.stream_spec.specs.Hearing.{heard}
use Rattle.stream_spec.specs.Ready.{Chunk}
use Rattle.stream_spec.specs.Still.{still, still_history}
use Rattle.stream_spec.specs.Own.{Own, own_packet}
use Rattle.stream_spec.specs.Own as histories
use Rattle.stream_spec.specs.Carries.{Carries, CarriesFront}
use Rattle.stream_spec.specs.Fronts.{IsFront}
use Rattle.mixer_spec.specs.Chunks.{texts_of}
use Rattle.mixer_spec.specs.Setups.{AllStay, IsAnother, leg_at, setup}
use Rattle.mixer_spec.specs.Table.{Table, chunks_taken}
use Rattle.mixer_spec.specs.Laws.{IsComposed, SendsGiven, chunks_given}
use Rattle.mixer_spec.specs.Bridged.{IsPair, cutting_of, hop_to, told_at, waiting_texts}
use Rattle.mixer_spec.specs.Headline.{Hop, OneHop}
use Rattle.mixer_spec.specs.PieceHeadline.{PieceHeadlineAt}
use Rattle.mixer_spec.specs.Headlines.{hop_behind}
use Rattle.command_spec.specs.Heard.{HearsNamed}
use Rattle.command_spec.specs.Seen.{ShowsNamed}
use Rattle.stream_spec.specs.Links.{Takes}
use Rattle.live_spec.specs.Served.{Closed, End, IsServed, came_live, chunks_live, heard_live, is_followed, sender_live, told_live}

-- What was given to the terminal j, where this is the leg j: the packets of the history that they tell, which is lawful and of the
-- mixer's own making. At `Closed` each text was repeated as often as it is to be.
pub record IsGiven (c : Conference) (table : Table) (end : End) (j : ℕ) (leg : LegLine) (given : List (List ℕ)) : Type 0 where
  pub lawful : Lawful (told_at (setup c) table j)
  pub own : Own leg.generations (told_at (setup c) table j)
  pub packets : map (λ octets. text_of octets (Some c.mixer.ssrc) leg.payload_types) given ≡ map (λ x. Ok (own_packet (told_at (setup c) table j) x)) (placed (told_at (setup c) table j))
  pub closed : end ≡ Closed → histories.Closed leg.generations (told_at (setup c) table j)
  -- Where packets have a limit none has more octets.
  pub fit : ForSome c.mtu (λ most. All (λ octets. length octets ≤ most) given)

-- nobody took over from the sender of the leg i
abbrev pub HasOneSender : Conference → (ℕ → Takes) → ℕ → Type 0
HasOneSender c takes i = (told_live c takes i).before ≡ []

-- what came of the leg i is of one sender, and of the lawful history h
pub record IsFromLive (c : Conference) (takes : ℕ → Takes) (i : ℕ) (h : History) : Type 0 where
  pub alone : HasOneSender c takes i
  pub lawful : Lawful h
  pub come : Come h (came_live c takes i)

-- the hop from the leg i, of whom the history h was sent, but for keep-alives
abbrev pub inward_live : Conference → (ℕ → Takes) → ℕ → History → Hop
inward_live c takes i h = record { sent = still_history h; wait = c.wait; came = still (came_live c takes i); source = sender_live c takes i }

-- Of the leg i the aware terminal j is given a front of what is heard of it, in order. At `Closed` it is given all of that.
pub record IsToldLive (c : Conference) (takes : ℕ → Takes) (table : Table) (end : End) (j i : ℕ) : Type 0 where
  pub rest : List (List ℕ)
  pub front : CarriesFront (told_at (setup c) table j) ((setup c).ssrc i) (heard_live c takes i) rest
  pub whole : end ≡ Closed → Carries (told_at (setup c) table j) ((setup c).ssrc i) (heard_live c takes i)
  -- What is left waits for its turn at the terminal, or was not taken by the mixer.
  pub left : (behind : List Chunk) × (chunks_taken (table.taken i) ++ behind ≡ chunks_live c takes i) × (rest ≡ waiting_texts table j i ++ texts_of behind)
  -- The hop to the terminal by itself, whatever comes of what it is given.
  pub one_hop : (wait : ℕ) (came : List Arrival) → Come (told_at (setup c) table j) came
      → OneHop (hop_behind (setup c) table j i wait came)
  -- The headline, for every lawful history of which the leg's packets come, and whatever comes to the terminal of what it is given.
  pub headline : (h : History) → IsFromLive c takes i h
      → (wait : ℕ) (came : List Arrival) → Come (told_at (setup c) table j) came
      → PieceHeadlineAt (cutting_of c) (inward_live c takes i h) (hop_behind (setup c) table j i wait came) [] rest []

-- A terminal that is not aware is given one text, of the mixer: what the composer gives of what is heard of the other legs. What it
-- gives of each is a front of that, in order. At `Closed` it is all of that.
pub record IsToldAsOne (c : Conference) (takes : ℕ → Takes) (table : Table) (end : End) (j : ℕ) : Type 0 where
  pub source : (x : Placed) → In x (placed (told_at (setup c) table j)) → x.source ≡ c.mixer.ssrc
  pub one_hop : (wait : ℕ) (came : List Arrival) → Come (told_at (setup c) table j) came
      → OneHop (hop_to (told_at (setup c) table j) c.mixer.ssrc wait came)
  pub composed : IsComposed (setup c) (chunks_live c takes) j (table.terminals j).asks
  pub sent : SendsGiven table j
  -- Whatever comes of it, however long a gap is waited for: what is heard are stretches of that text, with a marker between each
  -- two. Within each, each character that prints stands behind the label of the leg that typed it, up to the next label or marker;
  -- and what stands before the first label was typed by one leg.
  pub named : (wait : ℕ) (came : List Arrival) → Come (told_at (setup c) table j) came
      → HearsNamed (setup c) (table.terminals j).asks (hop_to (told_at (setup c) table j) c.mixer.ssrc wait came)
  -- What is shown of it is what is shown of each stretch for itself, with a marker between each two; and of each stretch its labels
  -- whole, and behind each label, up to the next, what prints of what its leg typed there.
  pub shown_named : (wait : ℕ) (came : List Arrival) (comes : Come (told_at (setup c) table j) came)
      → ShowsNamed (setup c) (table.terminals j).asks (hop_to (told_at (setup c) table j) c.mixer.ssrc wait came) (named wait came comes)
  pub front : (i : ℕ) → i < length c.legs → IsAnother i j
      → IsFront (texts_of (chunks_given i (table.terminals j).asks)) (heard_live c takes i)
  pub whole : end ≡ Closed → (i : ℕ) → i < length c.legs → IsAnother i j
      → texts_of (chunks_given i (table.terminals j).asks) ≡ heard_live c takes i

-- A live call: what its links gave was mixed in time, and is told to each terminal so. What is printed is seen of what was given.
pub record HeadLive (c : Conference) (takes : ℕ → Takes) (given : ℕ → List (List ℕ)) (end : End) (printed : List ℕ) : Type 0 where
  pub served : IsServed c takes given end printed
  pub sent : (j : ℕ) (leg : LegLine) → leg_at c.legs j ≡ Some leg → IsGiven c served.table end j leg (given j)
  pub told : (j i : ℕ) → IsPair (setup c) j i → IsToldLive c takes served.table end j i
  pub told_as_one : (j : ℕ) → j < length c.legs → (setup c).aware j ≡ false → IsToldAsOne c takes served.table end j

-- Whatever a conference file of links says, and whatever these links give.
abbrev pub ServedIsHeadLive : Type 0
ServedIsHeadLive =
    (octets : List ℕ) (c : Conference) (takes : ℕ → Takes) (given : ℕ → List (List ℕ)) (end : End) (printed : List ℕ)
    → conference_from Links octets ≡ Ok c
    → IsServed c takes given end printed
    → HeadLive c takes given end printed

-- ---- senders
-- Where nobody took over, a leg is heard as one stream, that of its sender.
abbrev pub OneSenderIsHeard : Type 0
OneSenderIsHeard =
    (c : Conference) (takes : ℕ → Takes) (i : ℕ)
    → HasOneSender c takes i
    → heard_live c takes i
    ≡ flat_map (cutting_of c) (heard c.wait (still (came_live c takes i)) (sender_live c takes i))

-- From the sender of a leg that is not followed nobody takes over, and that is the SSRC of the conference.
abbrev pub UnfollowedHasOneSender : Type 0
UnfollowedHasOneSender =
    (c : Conference) (takes : ℕ → Takes) (i : ℕ)
    → is_followed (leg_at c.legs i) ≡ false
    → HasOneSender c takes i × (sender_live c takes i ≡ (setup c).ssrc i)

-- ---- links
-- the input of each leg is a port, and no two legs have one
pub record HavePorts (c : Conference) : Type 0 where
  pub each : (j : ℕ) (leg : LegLine) → leg_at c.legs j ≡ Some leg → IsSome (port leg.input)
  pub differ : (j k : ℕ) (a b : LegLine) (p : ℕ) → leg_at c.legs j ≡ Some a → leg_at c.legs k ≡ Some b
      → port a.input ≡ Some p → port b.input ≡ Some p → j ≡ k

-- In a conference of links each leg has a port of its own.
abbrev pub LinksApart : Type 0
LinksApart = (octets : List ℕ) (c : Conference) → conference_from Links octets ≡ Ok c → HavePorts c

-- In a conference of links no leg comes later or goes, and each has a place.
abbrev pub LinksStay : Type 0
LinksStay = (octets : List ℕ) (c : Conference) → conference_from Links octets ≡ Ok c → AllStay (setup c)

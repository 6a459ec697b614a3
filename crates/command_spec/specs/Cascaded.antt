-- The headline of a conference behind another mixer, from what lay in files to what lies there then and is printed (profile).
use Rattle.std.specs.Prelude.{◌≡◌, ◌<◌, ℕ, true, false, None, Some, Ok, List, [], ◌++◌, length, map, flat_map, All}
use Rattle.std.specs.List.{AllZip, concat}
use Rattle.wire_spec.specs.Dump.{dump}
use Rattle.stream_spec.specs.Carries.{Groups}
use Rattle.stream_spec.specs.History.{History, Lawful, Come, places}
use Rattle.stream_spec.specs.Hearing.{heard}
use Rattle.stream_spec.specs.Kept.{kept, texts}
use Rattle.stream_spec.specs.Still.{still, still_history}
use Rattle.file_spec.specs.declared.conference_lines.Form.TheVariants.{Files}
use Rattle.file_spec.specs.declared.conference_lines.LegLine.{LegLine}
use Rattle.file_spec.specs.Conference.{conference_from}
use Rattle.mixer_spec.specs.Setups.{AllStay, leg_at, ssrc_of}
use Rattle.mixer_spec.specs.Headline.{Headline, HeadlineAt, Hop, all_sent, hears}
use Rattle.mixer_spec.specs.Bridged.{IsConferenceMixed, IsPair, IsPart, before_shared, input_limit, pieces_heard, shared_texts}
use Rattle.mixer_spec.specs.Bridged as mixer
use Rattle.mixer_spec.specs.PieceHeadline.{PieceHeadline, PieceHeadlineAt, all_pieces}
use Rattle.mixer_spec.specs.Pieces.{characters}
use Rattle.command_spec.specs.Splitting.{Trunk, came_of, chunks_of}
use Rattle.command_spec.specs.Laws.{split_of}
use Rattle.command_spec.specs.Work.{Contents, Made}
use Rattle.command_spec.specs.Outcomes.{AllStored, Done, outcome}
use Rattle.command_spec.specs.Mixing.{input_at}
use Rattle.command_spec.specs.Bridges.{Bridge, IsHeard, IsHeardAsOne, IsOut, chunks_of as chunks_in, cut_by, onward_from, setup_of, views_behind}
use Rattle.command_spec.specs.Cascading.{cascading, is_on_trunk, trunk_limit, trunk_of}

-- the text of a leg lies in these octets: the split of its SSRC, or what lies in its input
pub record IsTextOf (held : Contents) (split : ℕ → List ℕ) (leg : LegLine) (octets : List ℕ) : Type 0 where
  pub on_trunk : is_on_trunk leg ≡ true → octets ≡ split leg.ssrc
  pub read : is_on_trunk leg ≡ false → held leg.input ≡ Some octets

-- what the mixer hears of the leg i
abbrev pub heard_of : Bridge → ℕ → List (List ℕ)
heard_of b i = heard b.conference.wait (still (mixer.came_of b.conference (input_at b.inputs) i)) (ssrc_of (leg_at b.conference.legs i))

-- and that in pieces
abbrev pub pieces_heard_of : Bridge → ℕ → List (List ℕ)
pieces_heard_of b i = flat_map (cut_by b) (heard_of b i)

-- the hop to the other mixer's recording, of whose sender the history h was sent, but for keep-alives, where this SSRC is listened to
abbrev pub to_recording : Trunk → List ℕ → ℕ → History → Hop
to_recording t octets ssrc h = record { sent = still_history h; wait = t.wait; came = still (came_of t octets); source = ssrc }

-- What is heard in the recording, cut where what the terminal j shares of the leg i begins and ends in what is heard of the leg.
pub record IsCutBehind (b : Bridge) (j i : ℕ) (recorded : List (List ℕ)) : Type 0 where
  pub part : IsPart (before_shared (setup_of b) b.table j i (chunks_in b i)) (pieces_heard_of b i) (shared_texts b.table j i)
  pub front : List (List ℕ)
  pub shared : List (List ℕ)
  pub back : List (List ℕ)
  pub whole : recorded ≡ front ++ (shared ++ back)
  pub before : Groups part.before front []
  pub between : Groups (shared_texts b.table j i) shared []
  pub behind : Groups part.after back []

-- What is heard of the leg i, of this SSRC, which stands behind another mixer whose recording has these octets. Each text is a group
-- of whole texts that are heard of the SSRC in the recording: none is lost, and no marker is added.
pub record IsHeardBehind (t : Trunk) (octets : List ℕ) (b : Bridge) (i ssrc : ℕ) : Type 0 where
  pub same : Groups (heard_of b i) (map (λ c. c.text) (chunks_of t.wait (came_of t octets) ssrc)) []
  -- Where the recording is of a lawful history, that is what is kept of it, whatever was lost before it was recorded.
  pub kept_of : (h : History) → Lawful h → Come h (came_of t octets)
      → concat (heard_of b i) ≡ concat (texts (kept (still_history h) (places t.wait (still_history h) (still (came_of t octets))) ssrc))
  -- Then the headline holds, character by character, from the sender of that history to each aware terminal, cut at what the
  -- terminal shares of the leg.
  pub headline_by_character : (j : ℕ) → IsPair (setup_of b) j i
      → (h : History) → Lawful h → Come h (came_of t octets)
      → (cut : IsCutBehind b j i (pieces_heard characters (to_recording t octets ssrc h)))
      × PieceHeadlineAt characters (to_recording t octets ssrc h) (onward_from b j i) cut.front [] cut.back
  -- Where nobody comes later or goes, it leaves nothing out.
  pub headline_all_by_character : AllStay (setup_of b) → (j : ℕ) → IsPair (setup_of b) j i
      → (h : History) → Lawful h → Come h (came_of t octets)
      → PieceHeadline characters (to_recording t octets ssrc h) (onward_from b j i) (all_pieces characters (to_recording t octets ssrc h))
  -- Where packets have no limit, what is heard of the leg is not cut, and both hold block by block.
  pub uncut : b.conference.mtu ≡ None → pieces_heard_of b i ≡ heard_of b i
  pub headline : b.conference.mtu ≡ None → (j : ℕ) → IsPair (setup_of b) j i
      → (h : History) → Lawful h → Come h (came_of t octets)
      → (cut : IsCutBehind b j i (hears (to_recording t octets ssrc h)))
      × HeadlineAt (to_recording t octets ssrc h) (onward_from b j i) cut.front [] cut.back
  pub headline_all : b.conference.mtu ≡ None → AllStay (setup_of b) → (j : ℕ) → IsPair (setup_of b) j i
      → (h : History) → Lawful h → Come h (came_of t octets)
      → Headline (to_recording t octets ssrc h) (onward_from b j i) (all_sent (to_recording t octets ssrc h))

-- What lies in the outputs of a mixed conference then, what is printed of it, and what its terminals hear.
pub record IsSeen (after : Contents) (printed : List ℕ) (b : Bridge) : Type 0 where
  pub outs : (j : ℕ) (leg : LegLine) → leg_at b.conference.legs j ≡ Some leg
      → (octets : List ℕ) × (after leg.output ≡ Some octets) × IsOut b j leg octets
  pub views : printed ≡ views_behind b
  pub heard : (j i : ℕ) → IsPair (setup_of b) j i → IsHeard b j i
  pub heard_as_one : (j : ℕ) → j < length b.conference.legs → (setup_of b).aware j ≡ false → IsHeardAsOne b j

-- The conference of the bridge lies in one file, and in another one a recording of these octets, which is read to its end, as are
-- those in which the texts of the legs lie. Mixing it is over within its turns.
pub record IsCascadedFrom (held : Contents) (conference file : List ℕ) (ssrc : ℕ) (octets : List ℕ) (b : Bridge) : Type 0 where
  pub read : (described : List ℕ) × (held conference ≡ Some described) × (conference_from Files described ≡ Ok b.conference)
  pub lies : held file ≡ Some octets
  pub recorded : (dump (trunk_limit b.conference) octets).fault ≡ None
  pub texts_lie : AllZip (IsTextOf held (split_of (trunk_of b.conference ssrc) octets)) b.conference.legs b.inputs
  pub whole : All (λ text. (dump (input_limit b.conference) text).fault ≡ None) b.inputs
  pub over : IsConferenceMixed b.conference (input_at b.inputs) b.table

-- Of what lies in files there is one recording of the other mixer at most, and one bridge.
abbrev pub CascadesAreOne : Type 0
CascadesAreOne =
    (held : Contents) (conference file : List ℕ) (ssrc : ℕ) (x y : List ℕ) (a b : Bridge)
    → IsCascadedFrom held conference file ssrc x a
    → IsCascadedFrom held conference file ssrc y b
    → (x ≡ y) × (a ≡ b)

-- What `cascade` makes of the conference in a file, behind a mixer of this SSRC, whose recording lay in the other one, where this lies
-- there then, and this is printed.
pub record IsCascaded (held after : Contents) (conference file : List ℕ) (ssrc : ℕ) (printed : List ℕ) : Type 0 where
  pub bridge : Bridge
  pub octets : List ℕ
  pub cascaded : IsCascadedFrom held conference file ssrc octets bridge
  -- The conference is mixed as any is,
  pub seen : IsSeen after printed bridge
  -- and of a leg behind the other mixer is heard what that heard of its SSRC.
  pub behind : (i : ℕ) (leg : LegLine) → leg_at bridge.conference.legs i ≡ Some leg → is_on_trunk leg ≡ true
      → IsHeardBehind (trunk_of bridge.conference ssrc) octets bridge i leg.ssrc

-- Whatever lies in the files, that is what `cascade` makes of them.
abbrev pub CascadesAreBridged : Type 0
CascadesAreBridged =
    (held after : Contents) (conference file : List ℕ) (ssrc : ℕ) (printed : List ℕ) (files : List Made)
    → outcome held (cascading conference file ssrc) ≡ Done printed files
    → AllStored files held after
    → IsCascaded held after conference file ssrc printed

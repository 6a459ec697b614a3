-- Whose words are shown at a terminal that is not aware, whatever is lost, late or repeated on the way to it (profile).
use Rattle.std.specs.Prelude.{◌≡◌, ◌==◌, ℕ, ◌<◌, ◌&&◌, Bool, true, false, IsUtf8, Option, None, Some, List, [], ◌∷◌, ◌++◌, map, filter, flat_map, chars, encode_utf8_all, if◌then◌else◌}
use Rattle.std.specs.List.{concat, list_all, list_any}
use Rattle.view_spec.specs.Shown.{Display, begins_with_lf, ends_with_cr, lines_of, shown, signs, survivors, with_marker_between}
use Rattle.view_spec.specs.TextViews.{label_after}
use Rattle.wire_spec.specs.Packets.{Arrival}
use Rattle.stream_spec.specs.Lists.{In}
use Rattle.stream_spec.specs.History.{Come, Placed, placed}
use Rattle.stream_spec.specs.Ready.{Chunk}
use Rattle.mixer_spec.specs.Setups.{Setup}
use Rattle.mixer_spec.specs.Composed.{Asked}
use Rattle.mixer_spec.specs.Table.{Table}
use Rattle.mixer_spec.specs.Core.{Event, after}
use Rattle.mixer_spec.specs.Laws.{AllTexts, IsComposed, SendsGiven}
use Rattle.mixer_spec.specs.Headline.{Hop, IsHop, hears, told}
use Rattle.mixer_spec.specs.Bridged.{IsMixed, IsRunning, hop_to, told_at}
use Rattle.command_spec.specs.Stretches.{runs}
use Rattle.command_spec.specs.Named.{Piece, named, named_after, prints}
use Rattle.command_spec.specs.Heard.{HearsNamed}

-- ---- cut at the markers
-- what is shown of each, one behind the other, with a marker between each two
abbrev pub parted : List Display → Display
parted [] = shown []
parted (d ∷ []) = d
parted (d ∷ e ∷ ds) = with_marker_between d (parted (e ∷ ds))

-- the text of a run
abbrev pub run_text : List Placed → List ℕ
run_text run = concat (map (λ x. x.text) run)

-- ---- a run, cut at its labels
-- What a run has behind a label, up to the next one, or before its first: the label, if it has one; the leg whose label stands
-- last, if one does; what that leg typed, as it is sent; and what goes ahead of the labels to come.
pub record Words : Type 0 where
  pub label : List ℕ
  pub leg : Option ℕ
  pub typed : List ℕ
  pub ahead : List ℕ

-- What stands behind in this piece, where this leg typed it.
abbrev pub typed_by : Option ℕ → Piece → List ℕ
typed_by None p = []
typed_by (Some leg) p = if p.leg == leg then p.behind else []

-- The piece before the first of these words: a label begins words of its own.
abbrev pub words_by : (ℕ → List ℕ) → Option ℕ → Piece → Option Bool → Words → List Words → List Words
words_by name who p None w ws = record { label = []; leg = who; typed = typed_by who p ++ w.typed; ahead = p.ahead ++ w.ahead } ∷ ws
words_by name who p (Some is_open) w ws =
    record { label = []; leg = who; typed = []; ahead = p.ahead }
    ∷ record { label = label_after is_open (name p.leg); leg = Some p.leg; typed = typed_by (Some p.leg) p ++ w.typed; ahead = w.ahead }
    ∷ ws

abbrev pub words_before : (ℕ → List ℕ) → Option ℕ → Piece → List Words → List Words
words_before name who p [] = []
words_before name who p (w ∷ ws) = words_by name who p p.label w ws

-- The words of these pieces, where `who` is the leg whose label stands last before them.
abbrev pub words : (ℕ → List ℕ) → Option ℕ → List Piece → List Words
words name who [] = record { label = []; leg = who; typed = []; ahead = [] } ∷ []
words name who (p ∷ ps) = words_before name who p (words name (named who p) ps)

abbrev pub words_text : Words → List ℕ
words_text w = w.label ++ (encode_utf8_all w.typed ++ encode_utf8_all w.ahead)

-- ---- what is shown of it
-- The characters that are shown of these, with LF for each new line.
abbrev pub stand : List ℕ → List ℕ
stand cs = survivors (signs cs)

-- The label whole, and behind it what is shown of all else for itself: no erasure takes back anything of a label, or before one.
abbrev pub words_stand : Words → List ℕ
words_stand w = signs (chars w.label) ++ stand (w.typed ++ w.ahead)

-- What prints of these words is what prints of what their leg typed there, as if nobody else had typed: nothing that goes ahead of
-- a label to come prints, or takes back what does.
pub record AreTheirs (w : Words) : Type 0 where
  pub unseen : list_any prints w.ahead ≡ false
  pub kept : filter prints (stand (w.typed ++ w.ahead)) ≡ filter prints (stand w.typed)

abbrev pub AllTheirs : List Words → Type 0
AllTheirs [] = Unit {0}
AllTheirs (w ∷ ws) = AreTheirs w × AllTheirs ws

-- each name has characters alone that are shown as they are
abbrev pub NamesPrint : (ℕ → List ℕ) → Type 0
NamesPrint name = (leg : ℕ) → list_all prints (chars (name leg)) ≡ true

-- What is shown of a run with these pieces: its words, each for itself, one behind the other.
pub record IsShownRun (name : ℕ → List ℕ) (who : Option ℕ) (part : List Piece) (text : List ℕ) : Type 0 where
  pub text_is : text ≡ flat_map words_text (words name who part)
  pub lines : (shown text).lines ≡ map encode_utf8_all (lines_of (flat_map words_stand (words name who part)))
  pub theirs : AllTheirs (words name who part)

-- What is shown of what is heard on the hop q: each run for itself, with a marker between each two, and of each run its words.
pub record ShowsNamed (s : Setup) (asks : List Asked) (q : Hop) (heard : HearsNamed s asks q) : Type 0 where
  pub parts : shown (concat (hears q)) ≡ parted (map (λ run. shown (run_text run)) (runs (told q)))
  pub each : (run : List Placed) (i : In run (runs (told q)))
      → let r = heard.heard run i in
      IsShownRun s.name (named_after None r.before) r.part (run_text run)

-- What is heard is named, and so is what is shown of it.
abbrev pub IsNamedThere : Setup → List Asked → Hop → Type 0
IsNamedThere s asks q = (heard : HearsNamed s asks q) × ShowsNamed s asks q heard

-- ---- the laws
-- Wherever a terminal is sent what its composer gave, by the mixer alone.
abbrev pub SentIsShown : Type 0
SentIsShown =
    (s : Setup) (chunks : ℕ → List Chunk) (table : Table) (j : ℕ)
    → ((leg : ℕ) → IsUtf8 (s.name leg))
    → NamesPrint s.name
    → AllTexts chunks
    → IsComposed s chunks j (table.terminals j).asks
    → SendsGiven table j
    → ((x : Placed) → In x (placed (told_at s table j)) → x.source ≡ s.mixer)
    → (wait : ℕ) (came : List Arrival) → IsHop (hop_to (told_at s table j) s.mixer wait came)
    → IsNamedThere s (table.terminals j).asks (hop_to (told_at s table j) s.mixer wait came)

-- At the end of plain mixing.
abbrev pub EndIsShown : Type 0
EndIsShown =
    (s : Setup) (chunks : ℕ → List Chunk) (tick turns : ℕ) (table : Table)
    → NamesPrint s.name
    → IsMixed s chunks tick turns table
    → (j : ℕ) → s.aware j ≡ false → j < s.legs
    → (wait : ℕ) (came : List Arrival) → Come (told_at s table j) came
    → IsNamedThere s (table.terminals j).asks (hop_to (told_at s table j) s.mixer wait came)

-- After every list of events.
abbrev pub AnyIsShown : Type 0
AnyIsShown =
    (s : Setup) (chunks : ℕ → List Chunk) (past : List Event)
    → NamesPrint s.name
    → IsRunning s chunks past
    → (j : ℕ) → s.aware j ≡ false → j < s.legs
    → let table = (after s chunks past).table in
    (wait : ℕ) (came : List Arrival) → Come (told_at s table j) came
    → IsNamedThere s (table.terminals j).asks (hop_to (told_at s table j) s.mixer wait came)

-- What is shown of a part of a text is the end of what is shown of all up to there. So where what stands before it is lost, the same
-- of its own characters are taken back as if that had come: an erasure of a lost character takes back nothing.
abbrev pub PartsAreEnds : Type 0
PartsAreEnds = (before part : List ℕ) → (ends_with_cr before && begins_with_lf part) ≡ false
    → (left : List ℕ) × (stand (before ++ part) ≡ left ++ stand part)

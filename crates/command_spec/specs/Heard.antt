-- Whose words a terminal hears that is not aware, whatever is lost, late or repeated on the way to it (profile).
use Rattle.std.specs.Prelude.{◌≡◌, ◌<◌, ℕ, Bool, false, None, List, ◌++◌, length, filter, map}
use Rattle.std.specs.List.{AllZip}
use Rattle.wire_spec.specs.Packets.{Arrival, has_text}
use Rattle.stream_spec.specs.Lists.{In}
use Rattle.stream_spec.specs.History.{Placed, Come, placed}
use Rattle.stream_spec.specs.Kept.{texts}
use Rattle.stream_spec.specs.Ready.{Chunk}
use Rattle.mixer_spec.specs.Setups.{Setup}
use Rattle.mixer_spec.specs.Composed.{Answer, Asked}
use Rattle.mixer_spec.specs.Table.{Table}
use Rattle.mixer_spec.specs.Core.{Event, after}
use Rattle.mixer_spec.specs.Laws.{AllTexts, IsComposed, SendsGiven}
use Rattle.mixer_spec.specs.Through.{text_entries}
use Rattle.mixer_spec.specs.Headline.{Hop, IsHop, hears, told}
use Rattle.mixer_spec.specs.Bridged.{IsMixed, IsRunning, hop_to, told_at}
use Rattle.command_spec.specs.Stretches.{AreStretches, Stretch, marked, runs}
use Rattle.command_spec.specs.Named.{AreNamed, IsPieceOf, Piece, answers, named_after, piece_text}

-- A run is a stretch of these entries, and its texts are some of these pieces that stand one behind the other, at the same place.
-- Within it each character that prints stands behind the label of the leg that typed it, up to the next label; and what stands
-- before its first label was typed by one leg: by the one whose label stands last in the pieces before it.
pub record IsNamedRun (name : ℕ → List ℕ) (entries : List Placed) (pieces : List Piece) (run : List Placed) : Type 0 where
  pub stretch : Stretch entries run
  pub before : List Piece
  pub part : List Piece
  pub behind : List Piece
  pub is : pieces ≡ before ++ (part ++ behind)
  pub at : length before ≡ length stretch.before
  pub text : map (λ x. x.text) run ≡ map (piece_text name) part
  pub named : AreNamed (named_after None before) part

abbrev pub has_answer : Answer → Bool
has_answer g = has_text g.text

-- What is heard on the hop q of the one text that the composer gave at these asks.
pub record HearsNamed (s : Setup) (asks : List Asked) (q : Hop) : Type 0 where
  -- The entries of the hop with text are, one by one, the answers with text. In these each character that prints stands behind
  -- the label of the leg that typed it.
  pub pieces : List Piece
  pub of : AllZip (IsPieceOf s.name) (filter has_answer (answers asks)) pieces
  pub sent : map (λ x. x.text) (text_entries q.sent q.source) ≡ map (piece_text s.name) pieces
  pub named : AreNamed None pieces
  -- What is heard are runs of these entries with a marker between each two.
  pub text : hears q ≡ texts (marked (runs (told q)))
  -- Each run is a stretch of the entries. They stand in order, and no entry is in two of them.
  pub stretches : AreStretches (text_entries q.sent q.source) (runs (told q))
  pub heard : (run : List Placed) → In run (runs (told q)) → IsNamedRun s.name (text_entries q.sent q.source) pieces run

-- ---- the laws
-- Wherever a terminal is sent what its composer gave, by the mixer alone.
abbrev pub SentIsNamed : Type 0
SentIsNamed =
    (s : Setup) (chunks : ℕ → List Chunk) (table : Table) (j : ℕ)
    → AllTexts chunks
    → IsComposed s chunks j (table.terminals j).asks
    → SendsGiven table j
    → ((x : Placed) → In x (placed (told_at s table j)) → x.source ≡ s.mixer)
    → (wait : ℕ) (came : List Arrival) → IsHop (hop_to (told_at s table j) s.mixer wait came)
    → HearsNamed s (table.terminals j).asks (hop_to (told_at s table j) s.mixer wait came)

-- At the end of plain mixing.
abbrev pub EndIsNamed : Type 0
EndIsNamed =
    (s : Setup) (chunks : ℕ → List Chunk) (tick turns : ℕ) (table : Table)
    → IsMixed s chunks tick turns table
    → (j : ℕ) → s.aware j ≡ false → j < s.legs
    → (wait : ℕ) (came : List Arrival) → Come (told_at s table j) came
    → HearsNamed s (table.terminals j).asks (hop_to (told_at s table j) s.mixer wait came)

-- After every list of events.
abbrev pub AnyIsNamed : Type 0
AnyIsNamed =
    (s : Setup) (chunks : ℕ → List Chunk) (past : List Event)
    → IsRunning s chunks past
    → (j : ℕ) → s.aware j ≡ false → j < s.legs
    → let table = (after s chunks past).table in
    (wait : ℕ) (came : List Arrival) → Come (told_at s table j) came
    → HearsNamed s (table.terminals j).asks (hop_to (told_at s table j) s.mixer wait came)

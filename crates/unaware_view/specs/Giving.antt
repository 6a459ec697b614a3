-- What one ask changes in a composer.
use Rattle.std.specs.Prelude.{◌≡◌, ℕ, Bool, true, false, ◌⊎◌, Option, None, Some, List, []}
use Rattle.stream_spec.specs.Ready.{Chunk}
use Rattle.mixer_spec.specs.Chunks.{front}
use Rattle.mixer_spec.specs.Composed.{after_cr, room_beside}
use Rattle.mixer_spec.specs.Setups.{Setup}
use Rattle.mixer_spec.specs.Table.{Table}
use Rattle.mixer_places.specs.Lanes.{Waiting}
use Rattle.mixer_places.specs.SlotStanding as slots
use Rattle.mixer_places.specs.Words.{fetched}
use Rattle.unaware_view.specs.declared.composers.Choice.{Choice}
use Rattle.unaware_view.specs.declared.composers.Choice.TheVariants.{Nobody, Begins, GoesOn}
use Rattle.unaware_view.specs.declared.runs.Run.{Run}
use Rattle.unaware_view.specs.Runs.{Heads, IsBegun}
use Rattle.unaware_view.specs.Runs.{GoesOn as RunGoesOn}
use Rattle.unaware_view.specs.States.{State}
use Rattle.unaware_view.specs.Standing.{name_at}

abbrev pub remembered : State → Option ℕ → ℕ → State
remembered c None media = c
remembered c (Some s) media = record c { current = Some (record { speaker = s; given_at = media }) }

-- what waits at the terminal of the leg
abbrev pub waits_of : Table → ℕ → ℕ → List Chunk
waits_of table own i = (table.terminals own).waits i

-- nobody was given text
pub record GivesNone (s : Setup) (table : Table) (r next : Run) (text : List ℕ) (after : List Waiting) : Type 0 where
  pub run : next ≡ r
  pub text_is : text ≡ []
  pub stands : slots.SlotsStandFor s after table

-- what fits beside the label of the run, which is to come
pub record GivesHeaded (s : Setup) (table : Table) (own room : ℕ) (name : List ℕ) (r next : Run) (behind_cr : Bool) (run : List ℕ) (speaker : ℕ) (text : List ℕ) (after : List Waiting) : Type 0 where
  pub heads : Heads name r next behind_cr run (front (room_beside room name) (waits_of table own speaker)) text
  pub stands : slots.SlotsStandFor s after (fetched own speaker (room_beside room name) table)

-- a run of the speaker begins, behind CR or not
pub record GivesRun (s : Setup) (table : Table) (own room : ℕ) (name : List ℕ) (r next : Run) (behind_cr : Bool) (speaker : ℕ) (text : List ℕ) (after : List Waiting) : Type 0 where
  pub start : Run
  pub begun : IsBegun r start
  pub headed : GivesHeaded s table own room name start next behind_cr [] speaker text after

-- the run of the speaker goes on behind its label
pub record GivesOn (s : Setup) (table : Table) (own room : ℕ) (name : List ℕ) (r next : Run) (alone behind_cr : Bool) (run : List ℕ) (speaker : ℕ) (text : List ℕ) (after : List Waiting) : Type 0 where
  pub labelled : r.labelled ≡ true
  pub goes : RunGoesOn name r next alone behind_cr run (front room (waits_of table own speaker)) [] text
  pub stands : slots.SlotsStandFor s after (fetched own speaker room table)

-- the label of the run is to come
pub record GivesLabel (s : Setup) (table : Table) (own room : ℕ) (name : List ℕ) (r next : Run) (alone behind_cr : Bool) (run : List ℕ) (speaker : ℕ) (text : List ℕ) (after : List Waiting) : Type 0 where
  pub labelled : r.labelled ≡ false
  pub headed : GivesHeaded s table own room name r next behind_cr run speaker text after

-- the run of the speaker, which has these characters, goes on
abbrev pub GivesMore : Setup → Table → ℕ → ℕ → List ℕ → Run → Run → Bool → Bool → List ℕ → ℕ → List ℕ → List Waiting → Type 0
GivesMore s table own room name r next alone behind_cr run speaker text after =
    GivesOn s table own room name r next alone behind_cr run speaker text after ⊎ GivesLabel s table own room name r next alone behind_cr run speaker text after

-- The text of the choice was given: the run, which had these characters, is `next` then, and these are the slots.
abbrev pub Gives : Setup → Table → ℕ → ℕ → List (List ℕ) → Run → Run → Bool → Bool → List ℕ → Choice → List ℕ → List Waiting → Type 0
Gives s table own room names r next alone behind_cr run Nobody text after = GivesNone s table r next text after
Gives s table own room names r next alone behind_cr run (Begins i) text after = GivesRun s table own room (name_at names i) r next (after_cr alone behind_cr run) i text after
Gives s table own room names r next alone behind_cr run (GoesOn i) text after = GivesMore s table own room (name_at names i) r next alone behind_cr run i text after

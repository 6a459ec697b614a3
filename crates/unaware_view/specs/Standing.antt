-- What a composer stands for: the asks so far (profile).
use Rattle.std.specs.Prelude.{◌≡◌, ℕ, ◌+◌, ◌<◌, Bool, true, false, ◌||◌, Option, None, Some, List, [], ◌∷◌, length, slice_index_or, IsUtf8}
use Rattle.stream_spec.specs.Ready.{Chunk}
use Rattle.mixer_spec.specs.Chunks.{joined, has_chunk}
use Rattle.mixer_spec.specs.Rounds.{set_at}
use Rattle.mixer_spec.specs.Setups.{Setup}
use Rattle.mixer_spec.specs.Table.{Terminal, Table}
use Rattle.mixer_spec.specs.Laws.{AreTexts}
use Rattle.mixer_spec.specs.Composed.{Answer, Asked, answer, began_alone, began_behind_cr, chars_of, is_open, latest, run_of, given_at, since, waits_here}
use Rattle.mixer_places.specs.Lanes.{Waiting}
use Rattle.mixer_places.specs.SlotStanding as slots
use Rattle.unaware_view.specs.declared.composers.Current.{Current}
use Rattle.unaware_view.specs.Runs.{IsRun}
use Rattle.unaware_view.specs.declared.runs.Run.{Run}
use Rattle.unaware_view.specs.States.{State}
use Rattle.unaware_view.specs.Choices.{since_at}

-- the least media time of the next ask
abbrev pub least_ask : List Asked → ℕ
least_ask [] = 0
least_ask (a ∷ asks) = a.media + 1

-- the speaker of the last answer, another leg than the terminal's own
pub record IsSpeaker (s : Setup) (own : ℕ) (asks : List Asked) (g : Answer) (x : Current) : Type 0 where
  pub source : g.source ≡ x.speaker
  pub given : given_at x.speaker asks ≡ Some x.given_at
  pub leg : x.speaker < s.legs
  pub other : x.speaker ≡ own → ⊥

abbrev pub IsCurrent : Setup → ℕ → List Asked → Option Answer → Option Current → Type 0
IsCurrent s own asks None None = Unit {0}
IsCurrent s own asks None (Some x) = ⊥
IsCurrent s own asks (Some g) None = ⊥
IsCurrent s own asks (Some g) (Some x) = IsSpeaker s own asks g x

-- The run has these chunks so far, or its label alone, and a line is open or not.
pub record RunStands (r : Run) (alone behind_cr : Bool) (chunks : List Chunk) (opened : Bool) : Type 0 where
  pub is_run : IsRun r alone behind_cr (chars_of chunks)
  pub utf8 : IsUtf8 (joined chunks)
  pub chunk : r.has_chunk ≡ has_chunk chunks
  pub begun : (has_chunk chunks || alone) ≡ true
  pub line : r.is_open ≡ opened

-- The composer of a terminal of this setup was asked so.
pub record ComposerStandsFor (s : Setup) (c : State) (asks : List Asked) : Type 0 where
  pub legs : length c.since ≡ s.legs
  pub room : c.room ≡ s.room c.own
  pub current : IsCurrent s c.own asks (latest asks) c.current
  pub waits_since : (i : ℕ) → i < s.legs → (i ≡ c.own → ⊥) → since_at c.since i ≡ since i asks
  pub run : RunStands c.run (began_alone asks) (began_behind_cr asks) (run_of asks) (is_open asks)
  pub asked : c.asked ≡ least_ask asks
  pub relabel : c.relabel ≡ s.relabel

-- ---- one ask
-- the leg of its terminal
abbrev pub own_of : State → ℕ
own_of c = c.own

abbrev pub legs_of : State → ℕ
legs_of c = length c.since

abbrev pub next_ask : State → ℕ
next_ask c = c.asked

abbrev pub name_at : List (List ℕ) → ℕ → List ℕ
name_at names i = slice_index_or names i []

-- The composer of the terminal `own` was asked so, the slots have what waits there, which are texts, and these are the names.
pub record IsAsked (s : Setup) (table : Table) (c : State) (now : List Waiting) (called : List (List ℕ)) (asks : List Asked) : Type 0 where
  pub stands : ComposerStandsFor s c asks
  pub slots_stand : slots.SlotsStandFor s now table
  pub texts : (i : ℕ) → AreTexts ((table.terminals c.own).waits i)
  pub names : (i : ℕ) → i < s.legs → name_at called i ≡ s.name i

-- of all that it may have been asked
abbrev pub OfAsks : State → List Waiting → List (List ℕ) → (Setup → Table → List Asked → Type 0) → Type 0
OfAsks c now called P = (s : Setup) (table : Table) (asks : List Asked) → IsAsked s table c now called asks → P s table asks

-- what waits at the terminal
abbrev pub waiting : Table → State → ℕ → List Chunk
waiting table c = (table.terminals c.own).waits

-- what is given at this media time, where text may be given or not
abbrev pub given_now : Setup → Table → State → ℕ → Bool → List Asked → Option Answer
given_now s table c media due asks = answer (s.room c.own) s.legs s.name s.relabel c.own media due (waiting table c) asks

-- with this ask
abbrev pub asked_now : Setup → Table → State → ℕ → Bool → List Asked → List Asked
asked_now s table c media due asks = record { media = media; waiting = λ i. has_chunk (waiting table c i); given = given_now s table c media due asks } ∷ asks

abbrev pub left_after : Answer → Terminal → Terminal
left_after g d = record { past = d.past; asks = d.asks; waits = set_at d.waits g.source g.rest }

-- what the answer took waits at the terminal no more
abbrev pub answered : ℕ → Option Answer → Table → Table
answered own None table = table
answered own (Some g) table = record table { terminals = set_at table.terminals own (left_after g (table.terminals own)) }

-- no other leg than its own waits at the terminal
abbrev pub NoneWaits : Setup → Table → State → Type 0
NoneWaits s table c = (i : ℕ) → i < s.legs → waits_here c.own (waiting table c) i ≡ false

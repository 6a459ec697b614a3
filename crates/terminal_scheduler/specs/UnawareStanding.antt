-- What the terminal_scheduler of a terminal that is not aware stands for (profile).
use Rattle.std.specs.Prelude.{◌≡◌, ◌+◌, ◌-◌, ◌<◌, ◌==◌, ◌||◌, not, ℕ, Bool, true, false, Option, is_some, List, [], ◌∷◌, if◌then◌else◌}
use Rattle.wire_spec.specs.Packets.{has_text}
use Rattle.stream_spec.specs.Own.{Sent}
use Rattle.stream_spec.specs.Ready.{Chunk}
use Rattle.mixer_spec.specs.Chunks.{has_chunk}
use Rattle.mixer_spec.specs.Composed.{Asked, text_given, waits_here}
use Rattle.mixer_spec.specs.Setups.{Setup, IsSetup, stream}
use Rattle.mixer_spec.specs.Laws.{AreTexts}
use Rattle.mixer_spec.specs.Table.{Terminal, TurnEntry, Table, empty, sents, sent_from, last_media, turn_unaware}
use Rattle.packetizer.specs.Speakers.{EachIsNext}
use Rattle.mixer_places.specs.Lanes.{Waiting}
use Rattle.mixer_places.specs.SlotStanding as slots
use Rattle.unaware_view.specs.Standing as composers
use Rattle.unaware_view.specs.Standing.{name_at, given_now, asked_now, answered, NoneWaits}
use Rattle.unaware_view.specs.Standing.{own_of as own_of_composer}
use Rattle.unaware_view.specs.States.{State as ComposerState}
use Rattle.terminal_scheduler.specs.Turns.{SendsNext, free_after, new_entry, repeats_left}
use Rattle.terminal_scheduler.specs.UnawareStates.{UnawareState, own_of}

-- the source of each is this one
abbrev pub AreBy : ℕ → List Sent → Type 0
AreBy source [] = Unit {0}
AreBy source (e ∷ es) = (e.source ≡ source) × AreBy source es

-- This was sent to the terminal j, and its composer was asked so.
pub record UnawareStandsFor (s : Setup) (j : ℕ) (o : UnawareState) (d : Terminal) : Type 0 where
  pub setup : IsSetup s
  pub own : own_of o ≡ j
  pub leg : j < s.legs
  pub spacing : o.spacing ≡ s.spacing
  pub composer : composers.ComposerStandsFor s o.composer d.asks
  pub generations : o.generations ≡ s.generations j
  pub sent : EachIsNext (stream s j) (sents d.past)
  pub left : o.left ≡ repeats_left (s.generations j) (sent_from s.mixer d)
  pub free : o.free_at ≡ free_after s.spacing (last_media (sent_from s.mixer d))
  pub by_mixer : AreBy s.mixer (sents d.past)
  pub rests : o.none_waits ≡ true → (i : ℕ) → i < s.legs → waits_here j d.waits i ≡ false

-- Made so, it stands for a terminal of this leg to which nothing was sent.
abbrev pub StandsNew : (generations legs own room spacing : ℕ) → Option ℕ → UnawareState → Type 0
StandsNew generations legs own room spacing relabel o =
    (s : Setup) → IsSetup s → s.legs ≡ legs → s.spacing ≡ spacing → s.generations own ≡ generations
    → s.room own ≡ room → s.relabel ≡ relabel
    → UnawareStandsFor s own o (empty.terminals own)

-- it stands for the same terminal, whatever waits there
abbrev pub StandsWoken : UnawareState → UnawareState → Type 0
StandsWoken old new =
    (s : Setup) (j : ℕ) (d : Terminal) (waits : ℕ → List Chunk)
    → UnawareStandsFor s j old d → UnawareStandsFor s j new (record d { waits = waits })

-- ---- a turn
-- the terminal j after a turn at the moment `now`, with the media time t
abbrev pub turned_here : Setup → ℕ → ℕ → ℕ → Table → Terminal
turned_here s j now t table = turn_unaware s j now t (table.terminals j)

-- the entry of this turn, if it sends anything
abbrev pub entry_here : Setup → ℕ → ℕ → ℕ → Table → List TurnEntry
entry_here s j now t table = new_entry (table.terminals j).past (turned_here s j now t table).past

-- Such a turn at the terminal j, for which the terminal_scheduler stands: the slots have what waits there, which are
-- texts, these are the names, and what is sent may be sent.
pub record IsTurn (s : Setup) (j : ℕ) (table : Table) (o : UnawareState) (waiting : List Waiting) (called : List (List ℕ)) (now t : ℕ) : Type 0 where
  pub stands : UnawareStandsFor s j o (table.terminals j)
  pub slots_stand : slots.SlotsStandFor s waiting table
  pub texts : (i : ℕ) → AreTexts ((table.terminals j).waits i)
  pub names : (i : ℕ) → i < s.legs → name_at called i ≡ s.name i
  pub next : SendsNext (stream s j) (table.terminals j).past (turned_here s j now t table).past

-- of all turns that it may be
abbrev pub OfTurns : UnawareState → List Waiting → List (List ℕ) → ℕ → (Setup → ℕ → Table → ℕ → Type 0) → Type 0
OfTurns o waiting called t P = (s : Setup) (j : ℕ) (table : Table) (now : ℕ)
    → IsTurn s j table o waiting called now t → P s j table now

-- of each terminal for which it stands, where the slots have what waits
abbrev pub OfTerminals : UnawareState → List Waiting → (Setup → ℕ → Terminal → Type 0) → Type 0
OfTerminals o waiting P = (s : Setup) (j : ℕ) (table : Table) → UnawareStandsFor s j o (table.terminals j)
    → slots.SlotsStandFor s waiting table → P s j (table.terminals j)

-- ---- what waits
-- nothing of the leg waits at the terminal, or it is its own
abbrev pub none_here : ℕ → Terminal → ℕ → Bool
none_here own d i = (i == own) || not (has_chunk (d.waits i))

-- ---- an ask
-- The composer, asked so, was asked once more, where text could be given or not: it gave this text or none, as the
-- definition does, and these are the terminal_scheduler and the slots then.
pub record Composes (s : Setup) (table : Table) (c : ComposerState) (t : ℕ) (due : Bool) (asks : List Asked) (gave : Bool) (text : List ℕ) (new : UnawareState) (after : List Waiting) : Type 0 where
  pub given : gave ≡ is_some (given_now s table c t due asks)
  pub text_is : text ≡ text_given (given_now s table c t due asks)
  pub composer : composers.ComposerStandsFor s new.composer (asked_now s table c t due asks)
  pub slots_stand : slots.SlotsStandFor s after (answered (own_of_composer c) (given_now s table c t due asks) table)
  pub rests : new.none_waits ≡ true → NoneWaits s (answered (own_of_composer c) (given_now s table c t due asks) table) c

-- of all that it may have been asked, where nothing waits if that is known
abbrev pub OfAsks : UnawareState → List Waiting → List (List ℕ) → (Setup → Table → List Asked → Type 0) → Type 0
OfAsks o waiting called P = (s : Setup) (table : Table) (asks : List Asked)
    → composers.IsAsked s table o.composer waiting called asks
    → (o.none_waits ≡ true → NoneWaits s table o.composer) → P s table asks

-- ---- a text that is sent
-- how many packets are still to repeat the last text, behind one with this text
abbrev pub left_behind : UnawareState → List ℕ → ℕ
left_behind o text = if has_text text then o.generations else o.left - 1

-- the terminal_scheduler behind a packet with this text at this media time
abbrev pub kept_sent : ℕ → List ℕ → UnawareState → UnawareState
kept_sent media text o = record o { left = left_behind o text; free_at = media + o.spacing }

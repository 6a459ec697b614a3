-- What a turn of an aware terminal finds, and what it comes to.
use Rattle.std.specs.Prelude.{◌≡◌, ℕ, ◌+◌, ◌-◌, ◌<◌, ◌==◌, ◌&&◌, not, Bool, true, Option, None, Some, List, length, slice_index, slice_set, if◌then◌else◌}
use Rattle.wire_spec.specs.Packets.{has_text}
use Rattle.stream_spec.specs.Own.{Sent}
use Rattle.stream_spec.specs.Ready.{Chunk}
use Rattle.mixer_spec.specs.Chunks.{joined, front}
use Rattle.mixer_spec.specs.Setups.{Setup, stream}
use Rattle.mixer_spec.specs.Table.{Seats, Terminal, Table, is_spaced, last_media, sent_from, sents, serve_leg, served}
use Rattle.packetizer.specs.Speakers.{IsNext}
use Rattle.mixer_places.specs.Lanes.{Waiting}
use Rattle.mixer_places.specs.SlotStanding as slots
use Rattle.terminal_scheduler.specs.Turns.{Puts, new_entry, with_terminal}
use Rattle.terminal_scheduler.specs.AwareStates.{AwareState}
use Rattle.terminal_scheduler.specs.AwareStanding.{AwareStandsFor}

-- of each terminal for which the terminal_scheduler stands
abbrev pub AtTerminal : AwareState → (Setup → Terminal → Type 0) → Type 0
AtTerminal o P = (s : Setup) (d : Terminal) → AwareStandsFor s o.own o d → P s d

-- The terminal_scheduler stands for the terminal of its leg in this table, and the slots for the table.
pub record IsIn (s : Setup) (o : AwareState) (now : List Waiting) (table : Table) : Type 0 where
  pub scheduler : AwareStandsFor s o.own o (table.terminals o.own)
  pub slots_stand : slots.SlotsStandFor s now table

-- of each such table, with the terminal
abbrev pub AtTable : AwareState → List Waiting → (Setup → Table → Terminal → Type 0) → Type 0
AtTable o now P = (s : Setup) (table : Table) → IsIn s o now table → P s table (table.terminals o.own)

-- whether a packet of the leg may be sent at this media time, as far as its last packet goes
abbrev pub is_free : Setup → ℕ → Terminal → ℕ → Bool
is_free s media d leg = is_spaced s.spacing media (last_media (sent_from (s.ssrc leg) d))

-- what goes into this room of the text of the leg that waits
abbrev pub text_of_leg : ℕ → Terminal → ℕ → List ℕ
text_of_leg room d leg = joined (front room (d.waits leg))

-- what a turn at this media time sends of the leg to the terminal j
abbrev pub sent_of_leg : Setup → ℕ → ℕ → Terminal → ℕ → Sent
sent_of_leg s j media d leg = record { source = s.ssrc leg; media = media; text = text_of_leg (s.room j) d leg }

-- A turn of the terminal j with the media time t is over, which came to d: these are its terminal_scheduler and the slots then, and of
-- which source what text is sent, if anything is.
pub record IsTurned (s : Setup) (table : Table) (j : ℕ) (d : Terminal) (t : ℕ) (o : AwareState) (now : List Waiting) (source : Option ℕ) (text : List ℕ) : Type 0 where
  pub scheduler : AwareStandsFor s j o d
  pub slots_stand : slots.SlotsStandFor s now (with_terminal j d table)
  pub puts : Puts true t (new_entry (table.terminals j).past d.past) source text

-- text of the leg that holds the place is sent at this media time
abbrev pub ServesLeg : AwareState → List Waiting → (place leg media : ℕ) → AwareState → List Waiting → List ℕ → Type 0
ServesLeg o waiting place leg media o' waiting' text = AtTable o waiting (λ s table d. (now : ℕ) → leg < s.legs
    → IsNext (stream s o.own) (sents d.past) (sent_of_leg s o.own media d leg)
    → IsTurned s table o.own (serve_leg s o.own now media d place (Some leg)) media o' waiting' (Some leg) text)

-- it stands for the same terminal, whatever waits there
abbrev pub StandsWoken : AwareState → AwareState → Type 0
StandsWoken old new = AtTerminal old (λ s d. (waits : ℕ → List Chunk)
    → AwareStandsFor s old.own new (record { past = d.past; asks = d.asks; waits = waits }))

-- whoever holds which place, no turn before this media time serves anybody
abbrev pub IsCalmBefore : ℕ → AwareState → Type 0
IsCalmBefore calm o = AtTerminal o (λ s d. (seats : Seats) (t : ℕ) → t < calm → None ≡ served s seats o.own t d)

-- how many packets of the leg are still to repeat its last text, behind one with this text
abbrev pub left_behind : ℕ → List ℕ → AwareState → ℕ
left_behind leg text o = if has_text text then o.generations else slice_index o.left leg - 1

-- Behind a packet of the leg at this media time nobody is due before this one: of two legs the other is the terminal's own, which is
-- never due there.
abbrev pub calm_behind : ℕ → ℕ → AwareState → ℕ
calm_behind leg media o = if (length o.free_at == 2) && not (leg == o.own) then media + o.spacing else 0

-- the terminal_scheduler behind a packet of the leg that holds the place, with this text
abbrev pub kept_served : ℕ → ℕ → ℕ → List ℕ → AwareState → AwareState
kept_served place leg media text o = record o {
  left = slice_set o.left leg (left_behind leg text o);
  free_at = slice_set o.free_at leg (media + o.spacing);
  next = place + 1;
  calm = calm_behind leg media o;
}

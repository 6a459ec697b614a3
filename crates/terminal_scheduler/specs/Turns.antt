-- What a turn of a terminal sends, and what it may send.
use Rattle.std.specs.Prelude.{◌≡◌, ℕ, ◌+◌, ◌-◌, ◌==◌, Bool, Option, None, Some, List, [], ◌∷◌, length, if◌then◌else◌}
use Rattle.wire_spec.specs.Packets.{has_text}
use Rattle.stream_spec.specs.Own.{Sent, Stream}
use Rattle.mixer_spec.specs.Rounds.{set_at}
use Rattle.mixer_spec.specs.Table.{TurnEntry, Terminal, Table, sents}
use Rattle.packetizer.specs.Speakers.{IsNext}

-- what was sent between these two, if anything was, may be sent
abbrev pub SendsNext : Stream → List TurnEntry → List TurnEntry → Type 0
SendsNext c before after = (e : TurnEntry) → after ≡ e ∷ before → IsNext c (sents before) e.sent

-- the entry that was made between these two, if there is one
abbrev pub new_entry : List TurnEntry → List TurnEntry → List TurnEntry
new_entry before [] = []
new_entry before (e ∷ past) = if length past == length before then e ∷ [] else []

-- the number of the entry's source at its terminal: that of its leg, or 0 where the mixer is the only source
abbrev pub number_of : Bool → TurnEntry → ℕ
number_of aware e = if aware then e.leg else 0

-- A turn with the media time t sends the entry, if there is one: of the source with this number, with this text.
abbrev pub Puts : Bool → ℕ → List TurnEntry → Option ℕ → List ℕ → Type 0
Puts aware t [] source text = source ≡ None
Puts aware t (e ∷ es) source text = (source ≡ Some (number_of aware e)) × (text ≡ e.sent.text) × (e.sent.media ≡ t)

-- the table with this terminal in place of that of the leg j
abbrev pub with_terminal : ℕ → Terminal → Table → Table
with_terminal j d table = record table { terminals = set_at table.terminals j d }

-- from when a source may be sent again whose last packet has this media time
abbrev pub free_after : ℕ → Option ℕ → ℕ
free_after spacing None = 0
free_after spacing (Some m) = m + spacing

-- how many packets of a source are still to repeat its last text, where this was sent of it, newest first
abbrev pub repeats_left : ℕ → List Sent → ℕ
repeats_left generations [] = 0
repeats_left generations (e ∷ sent) = if has_text e.text then generations else repeats_left generations sent - 1

-- What the terminal_scheduler of an aware terminal stands for (profile).
use Rattle.std.specs.Prelude.{◌≡◌, ℕ, ◌<◌, false, [], length, slice_index}
use Rattle.mixer_spec.specs.Setups.{Setup, IsSetup, stream}
use Rattle.mixer_spec.specs.Table.{Terminal, sents, sent_from, last_media, round_start, is_due}
use Rattle.packetizer.specs.Speakers.{EachIsNext}
use Rattle.terminal_scheduler.specs.Turns.{free_after, repeats_left}
use Rattle.terminal_scheduler.specs.AwareStates.{AwareState}
use Rattle.mixer_spec.specs.declared.limits.TheConstants.{PLACES}

-- no leg is due at the terminal j at the media time t
abbrev pub NoneDue : Setup → ℕ → ℕ → Terminal → Type 0
NoneDue s j t d = (i : ℕ) → i < s.legs → is_due s j t d i ≡ false

-- This was sent to the aware terminal j.
pub record AwareStandsFor (s : Setup) (j : ℕ) (o : AwareState) (d : Terminal) : Type 0 where
  pub setup : IsSetup s
  pub places : s.places ≡ PLACES
  pub own : o.own ≡ j
  pub leg : j < s.legs
  pub room : o.room ≡ s.room j
  pub spacing : o.spacing ≡ s.spacing
  pub generations : o.generations ≡ s.generations j
  pub sent : EachIsNext (stream s j) (sents d.past)
  pub legs : length o.free_at ≡ s.legs
  pub left : (i : ℕ) → i < s.legs → slice_index o.left i ≡ repeats_left (s.generations j) (sent_from (s.ssrc i) d)
  pub free : (i : ℕ) → i < s.legs → slice_index o.free_at i ≡ free_after s.spacing (last_media (sent_from (s.ssrc i) d))
  pub next : o.next ≡ round_start d.past
  pub none_mixed : sent_from s.mixer d ≡ []
  pub calm : (t : ℕ) → t < o.calm → NoneDue s j t d

-- A terminal_scheduler of the terminal j of so many legs, which repeats so often, whose texts have so much room, and which waits so
-- long, is one of this setup.
pub record IsMadeFor (s : Setup) (generations legs j room spacing : ℕ) : Type 0 where
  pub setup : IsSetup s
  pub places : s.places ≡ PLACES
  pub generations_is : generations ≡ s.generations j
  pub legs_is : legs ≡ s.legs
  pub room_is : room ≡ s.room j
  pub spacing_is : spacing ≡ s.spacing

-- What is told of a live call while it runs: the chunks that its mixer took, and its turns.
use Rattle.std.specs.Prelude.{◌≡◌, ◌==◌, ◌⊎◌, ℕ, Bool, true, false, List, [], ◌∷◌, ◌++◌, filter, if◌then◌else◌}
use Rattle.rtt_base.specs.declared.text_packets.PayloadTypes.{PayloadTypes}
use Rattle.stream_spec.specs.Ready.{Chunk}
use Rattle.mixer_spec.specs.Setups.{Setup}
use Rattle.mixer_spec.specs.Table.{Call, Admit, Hush, Leave, Offer, Turn, after_calls, has_room}
use Rattle.mix_loop.specs.declared.live_turns.LiveTurnsEnd.{LiveTurnsEnd}
use Rattle.mix_loop.specs.declared.live_turns.LiveTurnsEnd.TheVariants.{Stopped}
use Rattle.rtt_live.specs.declared.faults.LiveFault.{LiveFault}
use Rattle.rtt_live.specs.declared.faults.LiveFault.TheVariants.{Link, NoMemory}
use Rattle.rtt_live.specs.declared.mixer_taps.TappedMixer.{TappedMixer}

-- that the mixer took a chunk; that a turn was made, or the call is over: from then on all that was taken is shown
pub data Notice : Type 0 where
  Took : Chunk → Notice
  Shows : Notice

-- what these calls tell, newest first
abbrev pub notices_by : Setup → List Call → List Notice
notices_by s [] = []
notices_by s (Admit i l ∷ past) = notices_by s past
notices_by s (Hush i ∷ past) = notices_by s past
notices_by s (Leave i ∷ past) = notices_by s past
notices_by s (Offer c ∷ past) = if has_room s c.source c (after_calls s past) then Took c ∷ notices_by s past else notices_by s past
notices_by s (Turn now ∷ past) = Shows ∷ notices_by s past

-- the chunks that were taken by what was told, oldest first
abbrev pub chunks_taken_in : List Notice → List Chunk
chunks_taken_in [] = []
chunks_taken_in (Took c ∷ past) = chunks_taken_in past ++ c ∷ []
chunks_taken_in (Shows ∷ past) = chunks_taken_in past

-- and those of them that are shown
abbrev pub chunks_shown_in : List Notice → List Chunk
chunks_shown_in [] = []
chunks_shown_in (Took c ∷ past) = chunks_shown_in past
chunks_shown_in (Shows ∷ past) = chunks_taken_in past

-- those of the leg i
abbrev pub chunks_of : ℕ → List Chunk → List Chunk
chunks_of i chunks = filter (λ c. c.source == i) chunks

module _ {T : Type 0} (stands : T → List Notice → Type 0) where
  -- it was told this, behind what it was told before
  abbrev pub Learns : T → T → Notice → Type 0
  Learns old new notice = (past : List Notice) → stands old past → stands new (notice ∷ past)

-- These calls were made of the mixer. The tap was told what they tell, unless it had no memory for a chunk.
pub record TellsFor {M T : Type 0} (mixes : M → Setup → (ℕ → PayloadTypes) → List Call → Type 0) (stands : T → List Notice → Type 0) (m : TappedMixer M T) (s : Setup) (payload_types : ℕ → PayloadTypes) (calls : List Call) : Type 0 where
  pub made : mixes m.mixer s payload_types calls
  pub told : m.short ≡ false → stands m.tap (notices_by s calls)

-- a turn at this moment was made behind these calls, or was not sent to its end
abbrev pub HaltsTold : {M T : Type 0} → (M → Setup → (ℕ → PayloadTypes) → List Call → Type 0)
    → (M → Setup → (ℕ → PayloadTypes) → List Call → ℕ → Type 0) → TappedMixer M T → Setup → (ℕ → PayloadTypes)
    → List Call → ℕ → Type 0
HaltsTold mixes halted m s payload_types calls now = halted m.mixer s payload_types calls now ⊎ mixes m.mixer s payload_types (Turn now ∷ calls)

-- why a turn was the last: the mixer could not send, or memory ran out
abbrev pub IsUnsentIn : {M T : Type 0} → (M → LiveFault → Type 0) → TappedMixer M T → LiveFault → Type 0
IsUnsentIn unsent m (Link leg) = unsent m.mixer (Link leg)
IsUnsentIn unsent m NoMemory = Unit {0}

-- how a call ended whose turns ended so: for want of memory where the tap had none for a chunk
abbrev pub ended_with : Bool → LiveTurnsEnd LiveFault → LiveTurnsEnd LiveFault
ended_with true turned = Stopped NoMemory
ended_with false turned = turned

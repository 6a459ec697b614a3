-- What a mixing of inlets tells, by what they gave.
use Rattle.std.specs.Prelude.{◌≡◌, ◌≤◌, ℕ, false, Some, List, [], length, map, slice_get}
use Rattle.std.specs.Vec.{vec_capacity}
use Rattle.rtt_base.specs.declared.text_packets.PayloadTypes.{PayloadTypes}
use Rattle.file_spec.specs.declared.conference_lines.LegLine.{LegLine}
use Rattle.mixer_spec.specs.Setups.{Setup, in_stay}
use Rattle.mixer_spec.specs.Table.{Table, Call}
use Rattle.mix_loop.specs.declared.plain_mix.Room.{Room}
use Rattle.mix_loop.specs.declared.turns.MixEnd.{MixEnd}
use Rattle.mix_loop.specs.Items.{Gave, nothing, is_open}
use Rattle.mix_loop.specs.Mixers.{At, Of}
use Rattle.mix_loop.specs.Ports.{of_leg}
use Rattle.mix_loop.specs.Turns.{TellsMixing, UnlessUnsent}

-- what counts of all that the leg j gave: what is ready within its stay, as its chunks
abbrev pub part_of : {F : Type 0} → Setup → ℕ → Gave F → Gave F
part_of s j gave = record { chunks = map (of_leg j) (in_stay s j gave.chunks); ended = gave.ended }

-- each leg stays as its line says
abbrev pub StayAs : Setup → List LegLine → Type 0
StayAs s legs = (j : ℕ) (leg : LegLine) → slice_get legs j ≡ Some leg
    → (s.from j ≡ leg.stay.from) × (s.until j ≡ leg.stay.until)

-- each may be asked
abbrev pub AllGood : {I : Type 0} → (I → Type 0) → List I → Type 0
AllGood {I} good inlets = (j : ℕ) (i : I) → slice_get inlets j ≡ Some i → good i

module _ {I F : Type 0} where
  -- room for so many legs
  pub record HasRoom (n : ℕ) (room : Room I F) : Type 0 where
    pub no_port : room.ports.items ≡ []
    pub ports : n ≤ vec_capacity room.ports
    pub no_inlet : room.inlets.items ≡ []
    pub inlets : n ≤ vec_capacity room.inlets

  -- each of these gave nothing yet, from itself on
  abbrev pub NoneGave : (I → I → Gave F → Type 0) → List I → Type 0
  NoneGave stands inlets = (j : ℕ) (i : I) → slice_get inlets j ≡ Some i → stands i i nothing

  -- the inlet of the leg j gave this, and no more, where `inlets` are those at the beginning
  pub record GaveAll (stands : I → I → Gave F → Type 0) (inlets : List I) (j : ℕ) (now : I) (gave : Gave F) : Type 0 where
    pub first : I
    pub of : slice_get inlets j ≡ Some first
    pub gives : stands first now gave
    pub closed : is_open gave.ended ≡ false

  -- Each leg gave this, and no more. What is answered is what plain mixing comes to of what counts of it, or the lowest leg's fault;
  -- unless the mixer could not send, it has this table.
  pub record MixedAll {M T : Type 0} (stands : I → I → Gave F → Type 0) (mixes : M → Setup → List Call → Type 0) (s : Setup) (tick turns : ℕ) (answer : MixEnd F T) (old new : List I) (m : M) : Type 0 where
    pub gave : ℕ → Gave F
    pub table : Table
    pub legs : (j : ℕ) (now : I) → slice_get new j ≡ Some now → GaveAll stands old j now (gave j)
    pub above : (j : ℕ) → s.legs ≤ j → gave j ≡ nothing
    pub mixed : UnlessUnsent answer (At mixes m s table)
    pub tells : TellsMixing answer s tick turns (λ j. part_of s j (gave j)) table

  -- In a mixing of inlets that gave nothing yet, by a mixer of which nothing was called, this was answered.
  abbrev pub MixesInlets : {M T : Type 0} → (I → I → Gave F → Type 0)
      → (M → Setup → (ℕ → PayloadTypes) → List Call → Type 0) → ℕ → ℕ → List LegLine → MixEnd F T → List I
      → List I → M → M → Type 0
  MixesInlets stands mixes tick turns legs answer old new m m' =
      (s : Setup) (payload_types : ℕ → PayloadTypes) → NoneGave stands old → mixes m s payload_types []
      → s.legs ≡ length old → StayAs s legs
      → MixedAll stands (Of mixes payload_types) s tick turns answer old new m'

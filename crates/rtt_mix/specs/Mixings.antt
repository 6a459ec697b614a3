-- What a clause says of a mixing of recordings.
use Rattle.std.specs.Prelude.{◌≡◌, ◌≤◌, ℕ, List, length, vec_len}
use Rattle.std.specs.Global.{Vec}
use Rattle.rtt_base.specs.declared.text_packets.PayloadTypes.{PayloadTypes}
use Rattle.file_spec.specs.declared.conference_lines.LegLine.{LegLine}
use Rattle.mixer_spec.specs.Setups.{Setup}
use Rattle.mixer_spec.specs.Table.{Call}
use Rattle.mix_loop.specs.Mixers.{ComeBefore}
use Rattle.leg.specs.declared.inlets.LegInlet.{LegInlet}
use Rattle.leg.specs.Answers.{AllNew, PlainMixes}
use Rattle.rtt_mix.specs.declared.threads.LegReturn.{LegReturn}
use Rattle.file_spec.specs.declared.limits.TheConstants.{MOST_LEGS}

module _ {S M : Type 0} where
  -- these legs may be mixed, by this mixer
  pub record CanMix (legs_of turns_of : M → ℕ) (horizon : ℕ) (legs : Vec (LegInlet S)) (lines : List LegLine) (mixer : M) (tick turns : ℕ) : Type 0 where
    pub few : vec_len legs ≤ MOST_LEGS
    pub new : AllNew legs.items
    pub lines_fit : vec_len legs ≡ length lines
    pub terminals : legs_of mixer ≡ vec_len legs
    pub none : turns_of mixer ≡ 0
    pub turns_fit : turns ≤ 5000000
    pub tick_fits : tick ≤ 400
    pub in_time : ComeBefore horizon tick turns

  -- this is how they were mixed, plainly, by this mixer
  abbrev pub RanPlain : (M → Setup → (ℕ → PayloadTypes) → List Call → Type 0) → Type 0 → (S → List ℕ) → (S → ℕ)
      → (S → List ℕ) → ℕ → ℕ → Vec (LegInlet S) → List LegLine → M → LegReturn S M → Type 0
  RanPlain mixes tells left faults name tick turns legs lines mixer ran =
      PlainMixes mixes tells left faults name tick turns lines ran.mixing legs.items ran.legs.items mixer ran.mixer

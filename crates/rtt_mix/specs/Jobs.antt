-- What a clause says of a mixing that runs.
use Rattle.std.specs.Prelude.{◌≡◌, ℕ, List, vec_len}
use Rattle.std.specs.Mem.{manually_drop_value}
use Rattle.core.specs.declared.mem.manually_drop.ManuallyDrop.{ManuallyDrop}
use Rattle.rtt_base.specs.declared.text_packets.PayloadTypes.{PayloadTypes}
use Rattle.mixer_spec.specs.Setups.{Setup}
use Rattle.mixer_spec.specs.Table.{Call}
use Rattle.workers.specs.Rooms as lanes
use Rattle.mix_loop.specs.Mixing as mixing
use Rattle.rtt_mix.specs.declared.jobs.MixJob.{MixJob}
use Rattle.rtt_mix.specs.declared.jobs.Task.{Task}
use Rattle.rtt_mix.specs.declared.threads.LegReturn.{LegReturn}
use Rattle.rtt_mix.specs.Mixings.{CanMix, RanPlain}

module _ {S M : Type 0} where
  -- what a task names may be mixed
  abbrev pub CanDo : (M → ℕ) → (M → ℕ) → ℕ → Task S M → Type 0
  CanDo legs_of turns_of horizon task = CanMix legs_of turns_of horizon task.legs task.lines.now task.mixer task.tick task.turns

  -- it was mixed, and all legs came back
  pub record RanAs (mixes : M → Setup → (ℕ → PayloadTypes) → List Call → Type 0) (tells : Type 0) (left : S → List ℕ) (faults : S → ℕ) (name : S → List ℕ) (task : Task S M) (ran : LegReturn S M) : Type 0 where
    pub legs : vec_len ran.legs ≡ vec_len task.legs
    pub mixed : RanPlain mixes tells left faults name task.tick task.turns task.legs task.lines.now task.mixer ran

module _ {S M G : Type 0} where
  -- what a job names may be mixed, and there is room for its legs
  pub record CanRun (legs_of turns_of : M → ℕ) (horizon : ℕ) (job : MixJob S M G) : Type 0 where
    pub may : CanDo legs_of turns_of horizon job.task
    pub lanes : lanes.HasRoom (vec_len job.task.legs) job.lanes
    pub room : mixing.HasRoom (vec_len job.task.legs) job.room

  -- a job that is lent may be run
  abbrev pub LentCanRun : (M → ℕ) → (M → ℕ) → ℕ → ManuallyDrop (MixJob S M G) → Type 0
  LentCanRun legs_of turns_of horizon lent = CanRun legs_of turns_of horizon (manually_drop_value lent)

  -- a job that is lent was run
  abbrev pub LentRanAs : (M → Setup → (ℕ → PayloadTypes) → List Call → Type 0) → Type 0 → (S → List ℕ)
      → (S → ℕ) → (S → List ℕ) → ManuallyDrop (MixJob S M G) → LegReturn S M → Type 0
  LentRanAs mixes tells left faults name lent ran = RanAs mixes tells left faults name (manually_drop_value lent).task ran

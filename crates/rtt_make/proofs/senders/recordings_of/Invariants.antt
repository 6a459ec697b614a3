use Rattle.std.proofs.Common.{◌≡◌, ◌++◌, ◌-◌, length, map}
use Rattle.std.specs.List.{range_with_len}
use Rattle.command_spec.specs.Making.{recording_at, recordings}
use Rattle.rtt_make.specs.Mades.{made_of}
use Rattle.rtt_make.proofs.senders.recordings_of.Given as goal

abbrev pub invariant-loop-leg : goal.invariant-loop-leg
invariant-loop-leg l =
    recordings (made_of l.made) ≡ l.all.items ++ map (recording_at (made_of l.made)) (range_with_len l.leg (length l.made.scripts - l.leg))

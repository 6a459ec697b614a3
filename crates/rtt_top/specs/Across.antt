-- How a command ends and runs, from what a world and its outputs were to what they are.
use Rattle.std.specs.Prelude.{ℕ, Some, List}
use Rattle.rtt_io.specs.declared.sinks.Sink as sinks
use Rattle.rtt_io.specs.declared.worlds.World as worlds
use Rattle.command_spec.specs.Messages.{Ending}
use Rattle.rtt_words.specs.Words.{Command}
use Rattle.rtt_top.specs.Outside.{outside_at, output_at}
use Rattle.rtt_top.specs.Runs.{Ends, Runs}

-- this command ends so, where the file or the leg that is told of has this name
abbrev pub EndsAcross : {W S D P K : Type 0} → worlds.Ghosts W S D P → sinks.Ghosts K → Command → W → K → W → K
    → List ℕ → Ending → Type 0
EndsAcross w k c old out new out_then name ending = Ends c w.tells k.tells (outside_at w k old out) (outside_at w k new out_then) name ending

-- a run of this command ends with this status, where errors are told to the last output
abbrev pub RunsAcross : {W S D P K E : Type 0} → worlds.Ghosts W S D P → sinks.Ghosts K → sinks.Ghosts E → Command
    → W → K → E → W → K → E → ℕ → Type 0
RunsAcross w k e c old out err new out_then err_then status =
    Runs (Some c) w.tells k.tells e.tells (outside_at w k old out) (outside_at w k new out_then) (output_at e err) (output_at e err_then) status

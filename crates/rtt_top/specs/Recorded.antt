-- A conference that is mixed over recordings: what is asked for, and how it may end.
use Rattle.std.specs.Prelude.{◌≡◌, Some, ℕ, List, Ok}
use Rattle.rtt_io.specs.declared.sinks.Sink as sinks
use Rattle.rtt_io.specs.declared.worlds.World as worlds
use Rattle.file_spec.specs.declared.conference_lines.Form.TheVariants.{Files}
use Rattle.file_spec.specs.Conference.{Conference, conference_from}
use Rattle.command_spec.specs.Messages.{Ending}
use Rattle.rtt_words.specs.Words.{Attend, Command, Mix, MixWords}
use Rattle.rtt_top.specs.declared.mix_modes.MixMode.{MixMode}
use Rattle.rtt_top.specs.declared.mix_modes.MixMode.TheVariants.{Attending, Plain}
use Rattle.rtt_top.specs.Conferences.{ending_name}
use Rattle.rtt_top.specs.Across.{EndsAcross}

-- what is asked for where a conference is mixed so
abbrev pub asked_as : MixMode → MixWords → Command
asked_as Plain m = Mix m
asked_as Attending m = Attend m

-- It ends so where the file of any name has this conference; its legs are these then.
abbrev pub MixingEndsAs : {W S D P K : Type 0} → MixMode → worlds.Ghosts W S D P → sinks.Ghosts K → W → K → W → K
    → Conference → Conference → Ending → Type 0
MixingEndsAs mixing w k old out new out_then c now ending =
    (file octets : List ℕ) → (w.tells → w.contents old file ≡ Some octets) → conference_from Files octets ≡ Ok c
    → EndsAcross w k (asked_as mixing (record { conference = file })) old out new out_then (ending_name file now.legs ending) ending

-- A file that is made of another one: what is asked for, and the names of the two.
use Rattle.std.specs.Prelude.{ℕ, List}
use Rattle.rtt_words.specs.Words.{Command, Send, Relay, Channel}
use Rattle.rtt_words.specs.Commands.{sent, channelled}
use Rattle.rtt_top.specs.declared.conversions.Conversion.{Conversion}
use Rattle.rtt_top.specs.declared.conversions.Conversion.TheVariants.{Script, Frames, Recording}

-- what is asked for where a file is made so
abbrev pub asked_for : Conversion → Command
asked_for (Script words) = Send (sent words)
asked_for (Frames words) = Relay (sent words)
asked_for (Recording words) = Channel (channelled words)

-- the name of the file that is read
abbrev pub input_of : Conversion → List ℕ
input_of (Script words) = words.file.now
input_of (Frames words) = words.file.now
input_of (Recording words) = words.file.now

-- the name of the file that is made
abbrev pub output_of : Conversion → List ℕ
output_of (Script words) = words.out.now
output_of (Frames words) = words.out.now
output_of (Recording words) = words.out.now

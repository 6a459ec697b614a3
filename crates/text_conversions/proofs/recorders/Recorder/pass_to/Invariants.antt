use Rattle.std.proofs.Common.{◌-◌, ◌≤◌, List}
use Rattle.packetizer.specs.declared.senders.SenderSettings.{SenderSettings}
use Rattle.file_spec.specs.Script.{ScriptLine}
use Rattle.text_conversions.specs.Insides.{IsAt}
use Rattle.text_conversions.proofs.recorders.Recorder.pass_to.Given as goal

abbrev pub invariant-loop-self : goal.invariant-loop-self
invariant-loop-self l = record {
  is_at : (settings : SenderSettings) (lines : List ScriptLine) → IsAt settings lines l.initial.self → IsAt settings lines l.self;
  within : l.initial.self.now ≤ l.at → l.self.now ≤ l.at;
}

abbrev pub decreases-loop-self : goal.decreases-loop-self
decreases-loop-self l = l.at - l.self.now

use Rattle.std.proofs.Common.{◌≡◌, length}
use Rattle.file_spec.specs.Conferences.{meaning_of}
use Rattle.rtt_live.specs.Outputs.{NoneSent}
use Rattle.rtt_live.proofs.outputs.outputs_of.Given as goal

abbrev pub invariant-loop-own : goal.invariant-loop-own
invariant-loop-own l = (length l.outputs.items ≡ l.own) × NoneSent (meaning_of l.conference) l.outputs.items

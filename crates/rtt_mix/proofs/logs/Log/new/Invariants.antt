use Rattle.std.proofs.Common.{◌≡◌, length}
use Rattle.file_spec.specs.Conferences.{meaning_of}
use Rattle.rtt_mix.proofs.Noting.{AreNew}
use Rattle.rtt_mix.proofs.logs.Log.new.Given as goal

abbrev pub invariant-loop-own : goal.invariant-loop-own
invariant-loop-own l = record {
  many : length l.sent ≡ l.own;
  all : AreNew (meaning_of l.conference) l.sent;
}

use Rattle.mixer_spec.specs.Table.{Table}
use Rattle.file_spec.specs.Conferences.{meaning_of}
use Rattle.sent_log.specs.Files.{recordings_of}
use Rattle.rtt_mix.specs.Viewed.{AreOf, AreSent, IsSeenBetween}
use Rattle.rtt_mix.proofs.views.views_between.Given as goal

abbrev pub invariant-loop-own : goal.invariant-loop-own
invariant-loop-own l = record {
  seen : (table : Table) → AreSent (meaning_of l.conference) table (recordings_of l.log) → IsSeenBetween (meaning_of l.conference) table l.from l.own l.seen;
  numbers : AreOf l.own l.seen;
}

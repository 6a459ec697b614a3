use Rattle.std.proofs.Common.{◌≡◌, drop}
use Rattle.command_spec.specs.Attending.{and_events}
use Rattle.rtt_attend.specs.Heard.{said_of}
use Rattle.rtt_attend.proofs.source_notes.hear_events.Given as goal

-- those so far and those of the rest are all
abbrev pub invariant-loop-event : goal.invariant-loop-event
invariant-loop-event l = record {
  said : and_events l.ssrc l.at (said_of l.said) (drop l.event-index l.events) ≡ and_events l.ssrc l.at (said_of l.fn.said) l.events;
  tally : l.said.tally ≡ l.fn.said.tally;
}

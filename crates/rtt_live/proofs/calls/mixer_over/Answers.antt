use Rattle.std.proofs.Common.{ap}
use Rattle.link_io.specs.Given.{packets}
use Rattle.rtt_live.specs.Ends.{packets_in}
use Rattle.file_spec.specs.Conferences.{meaning_of}
use Rattle.rtt_live.proofs.Writing.{were_none}
use Rattle.rtt_live.proofs.calls.mixer_over.Goals as goal

pub live_mixer-requires-clause-none : goal.live_mixer-requires-clause-none
live_mixer-requires-clause-none g c =
    were_none g.O.LinkOut.tells (packets_in g.O.LinkOut.given) g.O.LinkOut.faults (meaning_of c.args.conference.now) _ c.requires.each (λ j end e. let u = c.requires.unused j end e in (ap packets u.0, u.1)) c.in-Ok-outputs_of.ensures.none c.in-Ok.ensures.none

use Rattle.file_spec.specs.Conferences.{meaning_of}
use Rattle.rtt_live.specs.Spans.{span_of}
use Rattle.rtt_live.proofs.Returning.{as_served}
use Rattle.rtt_live.proofs.live_calls.serve.Goals as goal

pub returns-clause-served : goal.returns-clause-served
returns-clause-served g c = as_served _ g.W.Links.tells (span_of g.W.Links c.args.world.now c.serve_tapped-served.new.world) (g.W.Links.taken_at c.serve_tapped-served.new.world) (g.W.Links.given_at c.serve_tapped-served.new.world) (meaning_of c.args.conference.now) c.serve_tapped-served.result.0 c.serve_tapped-served.ensures.tapped

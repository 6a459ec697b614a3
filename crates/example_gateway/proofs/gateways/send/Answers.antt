use Rattle.std.proofs.Common.{get_or, refl}
use Rattle.example_gateway.proofs.Outputs.{same_counts}
use Rattle.example_gateway.proofs.gateways.send.Goals as goal

pub returns : goal.returns
returns g c =
    let outputs = c.args.outputs.now in
    let k = c.args.post.now.terminal in
    let o = c.index-outputs-post.result in
    same_counts outputs k (get_or outputs k o) c.packet.new.self o refl c.packet.ensures.sources

use Rattle.mix_loop.proofs.Addresses.{give_none}
use Rattle.mixer_posts.proofs.posts.send_posts.Goals as goal

pub returns-then-is_empty-clause-addresses : goal.returns-then-is_empty-clause-addresses
returns-then-is_empty-clause-addresses g c = give_none c.args.beat.now.pauses (g.O.PostSink.addresses c.args.outbound.now)

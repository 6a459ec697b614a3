use Rattle.std.proofs.Common.{◌≡◌}
use Rattle.mix_loop.specs.Addresses.{GiveAfter}
use Rattle.mixer_posts.proofs.Posting.{Taken}
use Rattle.mixer_posts.proofs.posts.send_each.Given as goal

abbrev pub invariant-loop-post : goal.invariant-loop-post
invariant-loop-post g l = record {
  sources : g.O.PostSink.sources l.outbound ≡ g.O.PostSink.sources l.fn.outbound;
  addresses : GiveAfter l.beat.pauses (g.O.PostSink.addresses l.fn.outbound) (g.O.PostSink.addresses l.outbound);
  taken : Taken g.O.PostSink.took l.now l.posts l.post-index l.fn.outbound l.outbound;
}

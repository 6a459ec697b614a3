use Rattle.std.proofs.Common.{◌∙◌, ℕ, List, refl, subst, sym}
use Rattle.mixer.specs.Posts.{IsPost}
use Rattle.mix_loop.proofs.Addresses.{give_none, give_then}
use Rattle.mixer_posts.proofs.Posting.{halted_in, is_post, taken_more}
use Rattle.mixer_posts.proofs.posts.send_each.Goals as goal

pub send-requires-clause-post : goal.send-requires-clause-post
send-requires-clause-post g c =
    subst (λ (sources : List ℕ). IsPost sources c.post-item.result) (sym c.loop-post.invariant.sources)
    (is_post (g.O.PostSink.sources c.args.outbound.now) c.args.posts.now c.loop-post.post-index c.post-item.result c.loop-post-test.true c.post-item.is c.requires.posts)

pub loop-post-init : goal.loop-post-init
loop-post-init g c = record { sources = refl; addresses = give_none c.args.beat.now.pauses (g.O.PostSink.addresses c.args.outbound.now); taken = λ s payload_types sent next h. h }

pub loop-post-preserved : goal.loop-post-preserved
loop-post-preserved g c =
    let i = c.loop-post.invariant in
    record {
      sources = c.send.ensures.sources ∙ i.sources;
      addresses = give_then c.args.beat.now.pauses (g.O.PostSink.addresses c.args.outbound.now) (g.O.PostSink.addresses c.loop-post.outbound) (g.O.PostSink.addresses c.send.new.self) i.addresses c.send.ensures.addresses;
      taken = taken_more g.O.PostSink.took c.args.now c.args.posts.now c.args.outbound.now c.loop-post.outbound c.send.new.self c.loop-post.post-index c.post-item.result c.loop-post-test.true c.post-item.is
          i.taken c.in-Ok.ensures.took;
    }

pub returns-in-Err-clause-halted : goal.returns-in-Err-clause-halted
returns-in-Err-clause-halted g c =
    halted_in g.O.PostSink.took g.O.PostSink.halted c.args.now c.args.posts.now c.args.outbound.now c.loop-post.outbound c.send.new.self c.loop-post.post-index c.post-item.result c.loop-post-test.true c.post-item.is
    c.loop-post.invariant.taken c.in-Err.ensures.halted

pub returns-in-Err-clause-addresses : goal.returns-in-Err-clause-addresses
returns-in-Err-clause-addresses g c =
    give_then c.args.beat.now.pauses (g.O.PostSink.addresses c.args.outbound.now) (g.O.PostSink.addresses c.loop-post.outbound) (g.O.PostSink.addresses c.send.new.self) c.loop-post.invariant.addresses c.send.ensures.addresses

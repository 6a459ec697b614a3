use Rattle.std.proofs.Common.{◌≡◌, ℕ, List, ap, ◌∙◌, subst, sym, arith}
use Rattle.std.specs.Prelude.{OnErr, OnOk}
use Rattle.mixer_spec.specs.Table.{after_calls}
use Rattle.mix_loop.specs.Mixers.{Halts, Turns}
use Rattle.mixer.specs.declared.batches.Post.{Post}
use Rattle.mixer.specs.Posts.{ArePosts}
use Rattle.mixer.specs.States.{sources_of}
use Rattle.mixer.specs.Turns.{HasBatch}
use Rattle.mixer_posts.specs.States.{SendingState}
use Rattle.mixer_posts.specs.Standing.{HaltsFor, SendsFor}
use Rattle.mixer_posts.proofs.Calling.{on_err, on_ok, turn_halted, turn_sent}
use Rattle.mixer_posts.proofs.mixers.SendingMixerMixerCalls.turn.Goals as goal

pub turn-requires-clause-moment : goal.turn-requires-clause-moment
turn-requires-clause-moment g c = let near = g.met.O.PostSink.in_time in omega (arith, near, c.requires.now)

pub turn-requires-clause-turns : goal.turn-requires-clause-turns
turn-requires-clause-turns g c = let same = ap (λ (m : SendingState g.row.O.Denot). m.mixer.turns) c.self.view_is in omega (arith, same, c.requires.few)

pub send_posts-requires-clause-posts : goal.send_posts-requires-clause-posts
send_posts-requires-clause-posts g c =
    subst (λ (sources : List ℕ). ArePosts sources c.posts.result.now) (sym c.self.invariant) (subst (λ (posts : List Post). ArePosts (sources_of c.self.inside.mixer) posts) (sym c.posts.ensures) c.turn.ensures.posts)

pub invariant_of-self : goal.invariant_of-self
invariant_of-self g c = c.send_posts.ensures.sources ∙ (c.self.invariant ∙ sym c.turn.ensures.sources)

pub returns-clause-turned : goal.returns-clause-turned
returns-clause-turned g c =
    let old : SendingState g.row.O.Denot = record { mixer = c.self.inside.mixer; outbound = c.self.inside.outbound } in
    let new : SendingState g.row.O.Denot = record { mixer = c.turn.new.self; outbound = c.send_posts.new.outbound } in
    let few : c.self.inside.mixer.turns ≡ c.args.self.now.mixer.turns = ap (λ (m : SendingState g.row.O.Denot). m.mixer.turns) c.self.view_is in
    subst (λ (m : SendingState g.row.O.Denot). OnOk c.send_posts.result (Turns (SendsFor g.O.PostSink.took g.O.PostSink.sources g.O.PostSink.horizon) m new c.args.now)) c.self.view_is
    (on_ok c.send_posts.result _ _
    (λ takes. turn_sent g.O.PostSink.took g.O.PostSink.sources g.O.PostSink.horizon c.args.now old new c.posts.result.now c.requires.now c.turn.ensures.stands (omega (arith, few, c.requires.few))
    (λ s calls h. subst (λ (posts : List Post). HasBatch s c.args.now (after_calls s calls) posts) (sym c.posts.ensures) (c.turn.ensures.batch s calls h)) takes c.send_posts.ensures.sources)
    c.send_posts.ensures.took)

pub returns-clause-halted : goal.returns-clause-halted
returns-clause-halted g c =
    let old : SendingState g.row.O.Denot = record { mixer = c.self.inside.mixer; outbound = c.self.inside.outbound } in
    let new : SendingState g.row.O.Denot = record { mixer = c.turn.new.self; outbound = c.send_posts.new.outbound } in
    subst (λ (m : SendingState g.row.O.Denot). OnErr c.send_posts.result (Halts (SendsFor g.O.PostSink.took g.O.PostSink.sources g.O.PostSink.horizon) (HaltsFor g.O.PostSink.halted) m new c.args.now)) c.self.view_is
    (on_err c.send_posts.result _ _
    (λ takes. turn_halted g.O.PostSink.took g.O.PostSink.halted g.O.PostSink.sources g.O.PostSink.horizon c.args.now old new c.posts.result.now c.turn.ensures.stands
    (λ s calls h. subst (λ (posts : List Post). HasBatch s c.args.now (after_calls s calls) posts) (sym c.posts.ensures) (c.turn.ensures.batch s calls h)) takes)
    c.send_posts.ensures.halted)

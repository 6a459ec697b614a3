use Rattle.std.proofs.Common.{List, map, subst, sym}
use Rattle.std.proofs.lemmas.List.Elements.{All-nil}
use Rattle.terminal_scheduler.specs.Schedulers.{sources_of}
use Rattle.mixer.specs.declared.batches.Post.{Post}
use Rattle.mixer.specs.Posts.{ArePosts, IsPost}
use Rattle.mixer.proofs.Resting.{calm_turned, later}
use Rattle.mixer.proofs.calm.turn_from.Goals as goal

pub returns-then-media-calm-clause-turned : goal.returns-then-media-calm-clause-turned
returns-then-media-calm-clause-turned c = λ s table now may.
    calm_turned s table now c.args.media c.args.schedulers.now c.args.seating.now c.args.slots.now c.args.names.now may c.args.calm c.if-media-calm.true c.requires.calm c.clear.new.self c.clear.ensures

pub returns-then-media-calm-clause-posts : goal.returns-then-media-calm-clause-posts
returns-then-media-calm-clause-posts c = subst (λ (b : List Post). ArePosts (map sources_of c.args.schedulers.now) b) (sym c.clear.ensures) (All-nil (IsPost (map sources_of c.args.schedulers.now)))

pub returns-then-media-calm-clause-schedulers : goal.returns-then-media-calm-clause-schedulers
returns-then-media-calm-clause-schedulers c = later _ c.args.media c.args.schedulers.now c.requires.schedulers

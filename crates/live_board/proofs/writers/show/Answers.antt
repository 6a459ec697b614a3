use Rattle.live_board.proofs.Keeping.{shows, has_shown, view_shown}
use Rattle.live_board.proofs.writers.show.Goals as goal

pub publish_as-outer-requires : goal.publish_as-outer-requires
publish_as-outer-requires g c next is = shows _ _ c.args.outer.desk.shown.value _ next c.requires is

pub returns-clause-shown : goal.returns-clause-shown
returns-clause-shown g c =
    has_shown _ _ _ _ _ _ c.publish_as-outer.result.1 (c.publish_as-outer.ensures.succeeds tt) c.publish_as-outer.ensures.values c.publish_as-outer.ensures.rule

pub returns-clause-view : goal.returns-clause-view
returns-clause-view g c =
    view_shown _ _ c.args.outer.desk.shown.value _ c.publish_as-outer.result.1 (c.publish_as-outer.ensures.succeeds tt) c.publish_as-outer.ensures.rule

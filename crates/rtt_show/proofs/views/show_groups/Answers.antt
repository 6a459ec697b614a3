use Rattle.std.proofs.Common.{◌<◌, length, sym, subst, arith}
use Rattle.rtt_show.specs.Whole.{IsGroupOf}
use Rattle.rtt_show.proofs.Showing.{groups_more, groups_end}
use Rattle.rtt_show.proofs.views.show_groups.Goals as goal

pub show_group-requires-clause-records : goal.show_group-requires-clause-records
show_group-requires-clause-records c =
    let below : c.loop-index.index < length c.args.groups.now = omega arith in
    (subst (IsGroupOf c.args.shape) (sym c.index-groups-index.is) (c.requires c.loop-index.index c.index-groups-index.result below)).0

pub show_group-requires-clause-name : goal.show_group-requires-clause-name
show_group-requires-clause-name c =
    let below : c.loop-index.index < length c.args.groups.now = omega arith in
    (subst (IsGroupOf c.args.shape) (sym c.index-groups-index.is) (c.requires c.loop-index.index c.index-groups-index.result below)).1

pub loop-index-preserved : goal.loop-index-preserved
loop-index-preserved c = λ of items few each.
    let below : c.loop-index.index < length c.args.groups.now = omega arith in
    groups_more c.args.shape of items c.args.groups.now c.loop-index.index c.index-groups-index.result c.loop-index.out c.show_group.new.out _ below c.index-groups-index.is few each c.in_ok-show_group.ensures (c.loop-index.invariant of items few each)

pub returns : goal.returns
returns c = λ of items few each.
    groups_end c.args.shape of items c.args.groups.now c.loop-index.index c.loop-index.out _ (omega arith) (c.loop-index.invariant of items few each)

use Rattle.std.proofs.Common.{arith, subst, sym}
use Rattle.rtt_show.specs.Rows.{IsRow}
use Rattle.rtpdump_io.proofs.Fronts.{Left, front_none, front_all}
use Rattle.rtt_show.proofs.Rowing.{row_more}
use Rattle.rtt_show.proofs.Steps.{all_left, step_of}
use Rattle.rtt_show.proofs.rows.row_of.Goals as goal

pub loop-at-init : goal.loop-at-init
loop-at-init c = record {
  left = subst (Left c.args.records.now) (sym c.none-row.ensures.packets) (all_left c.args.records.now c.requires);
  row = λ all a. front_none (IsRow c.none-row.result) c.args.records.now all c.none-row.ensures.nothing a;
}

pub take-requires : goal.take-requires
take-requires c =
    let s = step_of c.loop-at.rest.now c.in-Some.at c.in-Some.octets.now c.in-Some.more.now c.in-Some.ensures.record c.in-Some.ensures.shorter in
    let e = s.some c.loop-at.row.packets c.loop-at.invariant.left in
    omega (arith, e)

pub loop-at-preserved : goal.loop-at-preserved
loop-at-preserved c =
    let i = c.loop-at.invariant in
    let s = step_of c.loop-at.rest.now c.in-Some.at c.in-Some.octets.now c.in-Some.more.now c.in-Some.ensures.record c.in-Some.ensures.shorter in
    let old = c.loop-at.row in
    let new = c.take.new.self in
    let m = c.take.ensures c.if-not-take.false in
    record {
      left = s.less old.packets new.packets (omega (arith, m.packets)) i.left;
      row = λ all a.
          s.more (IsRow old) (IsRow new) (row_more old new c.in-Some.at c.in-Some.octets.now c.in-Some-origin_of.origin c.in-Some-origin_of.ensures m) all (i.row all a);
    }

pub returns : goal.returns
returns c = λ all a. front_all (IsRow c.loop-at.row) c.loop-at.rest.now all c.in_default.ensures.record (c.loop-at.invariant.row all a)

use Rattle.std.proofs.Common.{ℕ, List, refl, ap, subst, sym, ◌∙◌}
use Rattle.view_spec.specs.declared.tallies.Tally.{Tally}
use Rattle.command_spec.specs.Attending.{said_after}
use Rattle.rtpdump_io.specs.Entries.{entries_to_come}
use Rattle.rtpdump_io.specs.Reading.{to_come}
use Rattle.rtt_attend.proofs.Tallying.{StayFew, are_few, none_counted, none_yet}
use Rattle.rtt_attend.specs.Counted.{CountsFate, IsCounted, fate_in}
use Rattle.rtt_attend.specs.Heard.{TellsItem}
use Rattle.rtt_attend.proofs.Records.{all_heard, goes_more, not_heard, source_failed}
use Rattle.rtt_attend.proofs.inputs.hear_records.Goals as goal

pub loop-item-init : goal.loop-item-init
loop-item-init g c = record {
  not_ended = c.requires.open;
  same_name = refl;
  calm = refl;
  heard = λ t. ap (λ s. said_after c.args.sender.ssrc 0 s (entries_to_come g.S.Source.left c.args.reader.now)) c.new-said.ensures.said;
  fault = λ t. refl;
  few = subst (StayFew c.args.reader.now) (sym c.new-said.ensures.tally) (none_counted c.args.reader.now);
  counted = λ t. subst (λ (y : Tally). IsCounted c.args.sender y (to_come g.S.Source.left c.args.reader.now).items (to_come g.S.Source.left c.args.reader.now).items) (sym c.new-said.ensures.tally)
      (none_yet c.args.sender (to_come g.S.Source.left c.args.reader.now).items);
}

pub count_item-requires : goal.count_item-requires
count_item-requires g c = record { few = are_few c.loop-item.reader c.loop-item.said.tally c.loop-item.invariant.few }

pub loop-item-preserved : goal.loop-item-preserved
loop-item-preserved g c =
    goes_more g.S.Source.tells g.S.Source.left g.S.Source.faults g.S.Source.name c.args.sender c.args.reader.now c.loop-item.reader c.next_all.new.self c.loop-item.latest c.loop-item.said c.next_all.new.out
    c.loop-item.invariant c.in-Ok.item c.in-Some.at c.later-latest.result c.hear_item.new.said (sym c.in-Some.ensures) c.later-latest.ensures
    (subst (λ (o : List ℕ). TellsItem c.args.sender.ssrc c.later-latest.result c.in-Ok.item o c.loop-item.said c.hear_item.new.said) c.as_slice-read.ensures.value c.hear_item.ensures.tells)
    (subst (λ (y : Tally). CountsFate (fate_in c.args.sender c.in-Ok.item c.next_all.new.out) c.loop-item.said.tally y) (sym c.hear_item.ensures.tally)
    (subst (λ (o : List ℕ). CountsFate (fate_in c.args.sender c.in-Ok.item o) c.loop-item.said.tally c.count_item.new.tally) c.as_slice-read.ensures.value c.count_item.ensures))
    c.in-Ok.ensures.reads.nearer
    c.in-Ok.ensures.reads.ended c.in-Ok.ensures.reads.same_name c.in-Ok.ensures.reads.calm c.in-Ok.ensures.reads.gives c.in-Ok.ensures.entries

pub returns-in_default-clause-hears : goal.returns-in_default-clause-hears
returns-in_default-clause-hears g c =
    all_heard g.S.Source.tells g.S.Source.left g.S.Source.faults g.S.Source.name c.args.sender c.args.reader.now c.loop-item.reader c.next_all.new.self c.loop-item.latest c.loop-item.said c.next_all.new.out
    c.loop-item.invariant c.in-Ok.item c.with_senders.result c.with_senders.ensures.said c.with_senders.ensures.tally (sym c.moment_of.ensures ∙ c.in_default.is) c.in-Ok.ensures.reads.gives c.in-Ok.ensures.entries

pub returns-in_default-clause-read : goal.returns-in_default-clause-read
returns-in_default-clause-read g c = record {
  same_name = c.in-Ok.ensures.reads.same_name ∙ c.loop-item.invariant.same_name;
  read = tt;
  calm = c.in-Ok.ensures.reads.calm ∙ c.loop-item.invariant.calm;
}

pub returns-in-Err-clause-hears : goal.returns-in-Err-clause-hears
returns-in-Err-clause-hears g c =
    not_heard g.S.Source.tells g.S.Source.left g.S.Source.faults g.S.Source.name c.args.sender c.args.reader.now c.loop-item.reader c.next_all.new.self c.loop-item.latest c.loop-item.said c.next_all.new.out
    c.loop-item.invariant c.in-Err.fault c.in-Err.ensures.reads.gives

pub returns-in-Err-clause-read : goal.returns-in-Err-clause-read
returns-in-Err-clause-read g c = record {
  same_name = c.in-Err.ensures.reads.same_name ∙ c.loop-item.invariant.same_name;
  read = λ source. source_failed g.S.Source.faults c.args.reader.now c.loop-item.reader c.next_all.new.self c.in-Err.fault c.loop-item.invariant.calm c.in-Err.ensures.reads.read source;
  calm = λ none. c.in-Err.ensures.reads.calm none ∙ c.loop-item.invariant.calm;
}

use Rattle.std.proofs.Common.{[], length, refl, ap, sym, subst, arith}
use Rattle.std.proofs.lemmas.List.{length_push}
use Rattle.file_spec.specs.Conferences.{meaning_of}
use Rattle.sent_log.specs.States.{Sending, State}
use Rattle.rtt_mix.proofs.Noting.{AreNew, IsNewAt, is_new, new_more}
use Rattle.rtt_mix.proofs.logs.Log.new.Goals as goal

pub loop-own-init : goal.loop-own-init
loop-own-init c =
    let none = c.in_ok-sent.ensures in
    record {
      many = ap (λ (log : State). length log) none;
      all = subst (λ (log : State). AreNew (meaning_of c.args.conference.now) log) (sym none) (λ j x at. absurd (cc at));
    }

pub loop-own-preserved : goal.loop-own-preserved
loop-own-preserved c =
    let conference = meaning_of c.args.conference.now in
    let i = c.loop-own.invariant in
    let x : Sending = record { settings = c.stream_to-stream.result; sources = c.in_ok-sources.sources.items; sent = [] } in
    let added = c.in_ok-add.ensures.ok in
    let here : IsNewAt conference c.loop-own.own x = record {
      silent = record { settings = c.stream_to-stream.ensures.stream; sources = c.in_ok-sources.ensures.are; sent = refl };
      count = c.in_ok-sources.ensures.count;
    } in
    record {
      many = omega (arith, ap (λ (log : State). length log) added, length_push c.loop-own.sent x, i.many);
      all = new_more conference c.loop-own.sent c.add.new.self c.loop-own.own x i.all i.many here added;
    }

pub returns : goal.returns
returns c =
    let i = c.loop-own.invariant in
    is_new (meaning_of c.args.conference.now) c.loop-own.sent (omega (arith, i.many, c.len-own-end.ensures)) i.all

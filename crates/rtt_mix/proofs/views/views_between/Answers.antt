use Rattle.std.proofs.Common.{◌<◌, length, get_or, arith}
use Rattle.file_spec.specs.Conferences.{meaning_of}
use Rattle.command_spec.specs.Mixing.{records_to}
use Rattle.playback.specs.Written.{IsPlayable}
use Rattle.rtt_mix.proofs.Recorded.{sent_within}
use Rattle.rtt_mix.proofs.Viewing.{no_leg, seen_more, seen_none}
use Rattle.rtt_mix.proofs.views.views_between.Goals as goal

pub add_view-requires-clause-sent : goal.add_view-requires-clause-sent
add_view-requires-clause-sent c = λ x at. sent_within IsPlayable c.args.log.now c.loop-own.own x c.requires.sent at

pub loop-own-init : goal.loop-own-init
loop-own-init c =
    let n = c.nothing_seen-seen.ensures in
    record {
      seen = λ table a. seen_none (meaning_of c.args.conference.now) table c.args.from c.nothing_seen-seen.result n.views n.packets n.used n.markers;
      numbers = record { packets = omega (arith, n.packets); used = omega (arith, n.used); markers = omega (arith, n.markers) };
    }

pub loop-own-preserved : goal.loop-own-preserved
loop-own-preserved c =
    let q = meaning_of c.args.conference.now in
    let own = c.loop-own.own in
    let within : own < length c.args.conference.now.legs = omega (arith, c.requires.each) in
    let d = no_leg in
    let leg = get_or c.args.conference.now.legs own d in
    record {
      seen = λ table a. seen_more q table c.args.from own d c.loop-own.seen c.add_view.new.seen within (c.loop-own.invariant.seen table a)
          (c.in_ok-add_view.ensures.adds (records_to q table own leg) d (a own d within));
      numbers = c.in_ok-add_view.ensures.with_it;
    }

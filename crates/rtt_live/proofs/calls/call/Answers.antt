use Rattle.std.proofs.Common.{◌≡◌, ◌≤◌, ◌∙◌, ℕ, false, [], length, ap, sym, subst, arith}
use Rattle.std.specs.Prelude.{vec_len}
use Rattle.std.specs.Global.{Vec}
use Rattle.file_spec.specs.Conferences.{meaning_of}
use Rattle.workers.specs.Rooms.{HasRoom}
use Rattle.live_leg.specs.LinkLegs.{LinkLeg}
use Rattle.rtt_live.specs.declared.far_ends.FarEnds.{FarEnds}
use Rattle.mix_loop.specs.Clocks.{IsPaced}
use Rattle.mix_loop.specs.Walks.{IsPaused}
use Rattle.mix_loop.specs.declared.live_turns.LiveTurnsEnd.{LiveTurnsEnd}
use Rattle.mixer_posts.specs.States.{SendingState}
use Rattle.mixer.specs.States.{legs_of}
use Rattle.rtt_live.specs.declared.faults.LiveFault.{LiveFault}
use Rattle.rtt_live.specs.declared.mixer_taps.TappedMixer.{TappedMixer}
use Rattle.rtt_live.specs.Calls.{IsCalled}
use Rattle.mix_loop.specs.Addresses.{AreWithin}
use Rattle.rtt_live.specs.Ends.{addresses_of, packets_in}
use Rattle.rtt_live.specs.Mixers.{HasAll}
use Rattle.rtt_live.specs.Spans.{span_of}
use Rattle.rtt_live.specs.Taps.{ended_with}
use Rattle.rtt_live.proofs.Composing.{are_new, are_unused, call_made, ended_done, not_called}
use Rattle.rtt_live.proofs.Ordering.{none_within}
use Rattle.rtt_live.proofs.calls.call.Goals as goal

pub returns-in_default-clause-called : goal.returns-in_default-clause-called
returns-in_default-clause-called g c =
    let e = c.not_begun.ensures in
    not_called g.W.In.LinkIn g.W.Out.LinkOut (g.T.Tap.stands c.not_begun.result.tap) g.W.Links.tells (meaning_of c.args.conference.now) (span_of g.W.Links c.args.world.now c.args.world.now) (g.W.Links.opened c.args.world.now) c.args.opened.legs.items c.args.opened.ends.items c.not_begun.result c.requires.legs c.requires.ends c.requires.each_leg c.requires.each_end e.turned
    (ap (λ (v : Vec (LinkLeg g.row.W-In.Denot)). v.items) e.legs) (ap (λ (v : Vec g.row.W-Out.Denot). v.items) e.ends)

pub mixer_over-requires-clause-unused : goal.mixer_over-requires-clause-unused
mixer_over-requires-clause-unused g c = are_unused g.W.Out.LinkOut g.W.Links.tells (meaning_of c.args.conference.now) c.args.opened.ends.items c.requires.ends c.requires.each_end

pub returns-in-Err-clause-called : goal.returns-in-Err-clause-called
returns-in-Err-clause-called g c =
    let e = c.not_begun-in-Err.ensures in
    not_called g.W.In.LinkIn g.W.Out.LinkOut (g.T.Tap.stands c.not_begun-in-Err.result.tap) g.W.Links.tells (meaning_of c.args.conference.now) (span_of g.W.Links c.args.world.now c.args.world.now) (g.W.Links.opened c.args.world.now) c.args.opened.legs.items c.args.opened.ends.items c.not_begun-in-Err.result c.requires.legs c.requires.ends c.requires.each_leg c.requires.each_end e.turned
    (ap (λ (v : Vec (LinkLeg g.row.W-In.Denot)). v.items) e.legs) (ap (λ (v : Vec g.row.W-Out.Denot). v.items) (e.ends ∙ c.in-Err.ensures.back))

pub run_job-turned-requires-after_bounds : goal.run_job-turned-requires-after_bounds
run_job-turned-requires-after_bounds g c κs within =
    let seats : length c.args.conference.now.legs ≤ 16 = c.requires.links.stay.seats in
    let conference = c.args.conference.now in
    let len = c.args.opened.legs.ok.0 in
    let counted : c.len.result ≡ vec_len c.args.opened.legs = omega (arith, c.len.ensures, len) in
    let room = c.in-Ok.ensures in
    let o = g.W.Out.LinkOut in
    record {
      few = omega (arith, seats, len, c.requires.each_leg);
      new = are_new g.W.In.LinkIn g.W.Links.tells (g.W.Links.opened c.args.world.now) (meaning_of conference) c.args.opened.legs.items c.requires.legs c.requires.each_leg;
      lanes = subst (λ (n : ℕ). HasRoom n c.in-Ok.room.lanes) counted room.lanes;
      no_port = room.no_port;
      ports = (let ports = room.ports in omega (arith, counted, ports));
      none_joined = room.none_joined;
      joined = (let joined = room.joined in omega (arith, counted, joined));
      terminals = omega (arith, ap (λ (m : TappedMixer (SendingState (FarEnds g.row.W-Out.Denot)) g.row.T.Denot). legs_of m.mixer.mixer) c.new-tapped.ensures, c.in-Ok-mixer_over.ensures.legs, len, c.requires.each_leg);
      none = ap (λ (m : TappedMixer (SendingState (FarEnds g.row.W-Out.Denot)) g.row.T.Denot). m.mixer.mixer.turns) c.new-tapped.ensures ∙ c.in-Ok-mixer_over.ensures.turns;
      turns_fit = (let k = conference.kept.turns in let e = c.from-2.ensures in omega (arith, e, k.high));
      tick_some = (let k = conference.kept.tick in let e = c.from.ensures in omega (arith, e, k.low));
      tick_fits = (let k = conference.kept.tick in let e = c.from.ensures in omega (arith, e, k.high));
      in_time = omega arith;
      given = subst (λ (m : TappedMixer (SendingState (FarEnds g.row.W-Out.Denot)) g.row.T.Denot). AreWithin (g.W.Links.pauses c.args.world.now) (addresses_of o.port o.given m.mixer.outbound.links.items)) (sym c.new-tapped.ensures)
          (subst (λ (v : Vec g.row.W-Out.Denot). AreWithin (g.W.Links.pauses c.args.world.now) (addresses_of o.port o.given v.items)) (sym c.in-Ok-mixer_over.ensures.links)
          (none_within o.port o.given (g.W.Links.pauses c.args.world.now) o.faults c.args.opened.ends.items (are_unused o g.W.Links.tells (meaning_of conference) c.args.opened.ends.items c.requires.ends c.requires.each_end)));
    }

pub returns-clause-same_own : goal.returns-clause-same_own
returns-clause-same_own g c =
    let last = c.world-1.given.1 (sym c.run_job-turned.ensures.same_reference) in
    λ p. ap (λ (w : g.row.W.Denot). g.W.Links.own_faults w p) last ∙ c.run_job-turned.ensures.ran.passed.same_own p

pub returns-clause-same_objects : goal.returns-clause-same_objects
returns-clause-same_objects g c =
    let last = c.world-1.given.1 (sym c.run_job-turned.ensures.same_reference) in
    λ p. ap (λ (w : g.row.W.Denot). g.W.Links.object_faults w p) last ∙ c.run_job-turned.ensures.ran.passed.same_objects p

pub returns-clause-paused : goal.returns-clause-paused
returns-clause-paused g c = λ done.
    let last = c.world-1.given.1 (sym c.run_job-turned.ensures.same_reference) in
    let begun = g.W.Links.pauses c.args.world.now in
    subst (λ (w : g.row.W.Denot). IsPaused c.args.conference.now.turns begun (g.W.Links.pauses w)) (sym last)
    (subst (λ (n : ℕ). IsPaused n begun (g.W.Links.pauses c.run_job-turned.result.clock.now)) c.from-2.ensures
    (c.run_job-turned.ensures.ran.paused (ended_done c.run_job-turned.result.mixer.short c.run_job-turned.result.turned (sym c.finish-turned.ensures.turned ∙ done))))

pub returns-clause-paced : goal.returns-clause-paced
returns-clause-paced g c = λ t done.
    let old = g.W.Links.moment c.args.world.now in
    let last = c.world-1.given.1 (sym c.run_job-turned.ensures.same_reference) in
    let new = g.W.Links.moment c.run_job-turned.result.clock.now in
    subst (λ (w : g.row.W.Denot). IsPaced c.args.conference.now.turns c.args.conference.now.tick old (g.W.Links.moment w)) (sym last)
    (subst (λ (n : ℕ). IsPaced n c.args.conference.now.tick old new) c.from-2.ensures
    (subst (λ (k : ℕ). IsPaced c.from-2.result k old new) c.from.ensures
    (c.run_job-turned.ensures.ran.paced t (ended_done c.run_job-turned.result.mixer.short c.run_job-turned.result.turned (sym c.finish-turned.ensures.turned ∙ done)))))

pub returns-clause-same_leads : goal.returns-clause-same_leads
returns-clause-same_leads g c = λ t.
    let last = c.world-1.given.1 (sym c.run_job-turned.ensures.same_reference) in
    ap (λ (w : g.row.W.Denot). g.W.Links.leads w) last ∙ c.run_job-turned.ensures.ran.passed.same_leads t

pub returns-clause-called : goal.returns-clause-called
returns-clause-called g c =
    let ran = c.run_job-turned.ensures.ran in
    let made = c.in-Ok-mixer_over.ensures in
    let last = c.world-1.given.1 (sym c.run_job-turned.ensures.same_reference) in
    let conference = meaning_of c.args.conference.now in
    let over = c.finish-turned.result in
    let legs = c.run_job-turned.result.legs in
    let far = c.into_outbound-links.result in
    let stands = g.T.Tap.stands in
    let tapped = c.new-tapped.ensures in
    let first : TappedMixer (SendingState (FarEnds g.row.W-Out.Denot)) g.row.T.Denot = record { mixer = c.in-Ok-mixer_over.mixer; tap = c.args.tap; short = false } in
    let far_is : far ≡ c.run_job-turned.result.mixer.mixer.outbound = c.into_outbound-links.ensures ∙ ap (λ (m : SendingState (FarEnds g.row.W-Out.Denot)). m.outbound) c.finish-turned.ensures.mixer in
    let later = g.W.Links.opened c.run_job-turned.result.clock.now in
    let span = span_of g.W.Links c.args.world.now c.run_job-turned.result.clock.now in
    subst (λ (w : g.row.W.Denot). IsCalled g.W.In.LinkIn g.W.Out.LinkOut (stands over.tap) g.W.Links.tells conference (span_of g.W.Links c.args.world.now w) (g.W.Links.opened w) (record { turned = over.turned; legs = legs; ends = far.links; listeners = far.listeners; tap = over.tap })) (sym last)
    (subst (λ (t : LiveTurnsEnd LiveFault). IsCalled g.W.In.LinkIn g.W.Out.LinkOut (stands over.tap) g.W.Links.tells conference span later (record { turned = t; legs = legs; ends = far.links; listeners = far.listeners; tap = over.tap })) (sym c.finish-turned.ensures.turned)
    (subst (λ (f : FarEnds g.row.W-Out.Denot). IsCalled g.W.In.LinkIn g.W.Out.LinkOut (stands over.tap) g.W.Links.tells conference span later (record { turned = ended_with c.run_job-turned.result.mixer.short c.run_job-turned.result.turned; legs = legs; ends = f.links; listeners = f.listeners; tap = over.tap })) (sym far_is)
    (call_made g.W.In.LinkIn g.W.Out.LinkOut _ stands g.W.Links.tells conference _ c.run_job-turned.result over.tap (g.W.Links.opened c.args.world.now) later c.args.opened.ends.items c.requires.links c.requires.legs c.requires.each_leg c.requires.ends c.requires.each_end
    (ap (λ (m : TappedMixer (SendingState (FarEnds g.row.W-Out.Denot)) g.row.T.Denot). m.mixer.outbound.links.items) tapped ∙ ap (λ (v : Vec g.row.W-Out.Denot). v.items) made.links)
    (subst (λ (m : TappedMixer (SendingState (FarEnds g.row.W-Out.Denot)) g.row.T.Denot). HasAll g.W.Out.LinkOut.tells (packets_in g.W.Out.LinkOut.given) g.W.Out.LinkOut.faults conference m.mixer) (sym tapped) made.stands)
    (subst (λ (m : TappedMixer (SendingState (FarEnds g.row.W-Out.Denot)) g.row.T.Denot). stands m.tap []) (sym tapped) c.requires.told)
    c.from-2.ensures c.from.ensures (λ t. t) ran.passed.same_opened ran c.finish-turned.ensures.shows)))

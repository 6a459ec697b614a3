use Rattle.std.proofs.Common.{◌≤◌, ◌∙◌, inl, refl, ℕ, List, length, ap, subst, sym, arith}
use Rattle.file_spec.specs.Conferences.{meaning_of}
use Rattle.mix_loop.specs.Clocks.{IsPaced}
use Rattle.mix_loop.specs.Walks.{IsPaused}
use Rattle.live_leg.specs.LinkLegs.{LinkLeg}
use Rattle.live_leg.specs.declared.tallies.LegTally.{LegTally}
use Rattle.rtt_live.specs.Listeners.{ArePrintedOf}
use Rattle.rtt_live.specs.Reports.{end_of}
use Rattle.rtt_live.specs.Spans.{span_of}
use Rattle.rtt_live.specs.Tallies.{tallies_in}
use Rattle.rtt_live.proofs.Leading.{some_all}
use Rattle.rtt_live.proofs.Returning.{broke_off_by, calm_closed, counted_by, done_turned, gave_nothing, given_up_by, same_span, served_by, was_not_opened}
use Rattle.rtt_live.proofs.live_calls.serve_tapped.Goals as goal
use Rattle.mixer_spec.proofs.Arriving.{length_map as map_long}

pub returns-in-Err-clause-given_up : goal.returns-in-Err-clause-given_up
returns-in-Err-clause-given_up g c = was_not_opened g.W.Links.tells _ (g.W.Links.own_faults c.args.world.now) _ _ _ (meaning_of c.args.conference.now) c.requires.links c.in-Err.fault c.in-Err.ensures.refused

pub tallies_of-tallies-requires : goal.tallies_of-tallies-requires
tallies_of-tallies-requires g c =
    let seats : length c.args.conference.now.legs ≤ 16 = c.requires.links.stay.seats in
    let many = c.call-turned.ensures.called.many_legs in
    let same = ap (λ (legs : List (LinkLeg g.row.W-In.Denot)). length legs) c.as_slice.ensures.value in
    omega (arith, seats, many, same)

pub printed-requires-clause-tallied : goal.printed-requires-clause-tallied
printed-requires-clause-tallied g c =
    ap (λ (tallies : List LegTally). length tallies) (c.as_slice-2.ensures.value ∙ (c.tallies_of-tallies.ensures ∙ ap (λ (legs : List (LinkLeg g.row.W-In.Denot)). tallies_in legs) c.as_slice.ensures.value))
    ∙ (map_long (λ (leg : LinkLeg g.row.W-In.Denot). leg.tally) c.call-turned.result.legs.items ∙ c.call-turned.ensures.called.many_legs)

pub returns-in-Err-answer_of-clause-given_up : goal.returns-in-Err-answer_of-clause-given_up
returns-in-Err-answer_of-clause-given_up g c =
    given_up_by g.W.In.LinkIn g.W.Out.LinkOut (g.T.Tap.stands c.call-turned.result.tap) g.W.Links.tells (meaning_of c.args.conference.now) _ _ c.call-turned.result c.call-turned.ensures.called c.requires.links _ _ (g.W.Links.object_faults c.args.world.now) (g.W.Links.object_faults c.call-turned.new.world) (g.W.Links.object_faults c.close_legs.new.world) (g.W.Links.object_faults c.close_ends.new.world)
    (λ p. c.call-turned.ensures.same_objects p ∙ c.open_links.ensures.same_objects p) c.close_legs.ensures.objects_never_fall c.close_ends.ensures.objects_never_fall c.close_legs.ensures.failed c.close_ends.ensures.failed c.in-Err-answer_of.fault (sym c.in-Err-answer_of.ensures)

pub returns-in-Err-answer_of-clause-objects_never_fall : goal.returns-in-Err-answer_of-clause-objects_never_fall
returns-in-Err-answer_of-clause-objects_never_fall g c = λ p. omega (arith, c.call-turned.ensures.same_objects p, c.open_links.ensures.same_objects p, c.close_legs.ensures.objects_never_fall p, c.close_ends.ensures.objects_never_fall p)

pub returns-in-Ok-printed-clause-tapped : goal.returns-in-Ok-printed-clause-tapped
returns-in-Ok-printed-clause-tapped g c =
    served_by g.W.In.LinkIn g.W.Out.LinkOut (g.T.Tap.stands c.call-turned.result.tap) g.W.Links.tells (meaning_of c.args.conference.now) _ (g.W.Links.opened c.call-turned.new.world) c.call-turned.result c.call-turned.ensures.called c.requires.links (span_of g.W.Links c.args.world.now c.close_ends.new.world)
    (same_span g.W.Links c.args.world.now c.open_links.new.world c.call-turned.new.world c.close_ends.new.world c.in-Ok-open_links.ensures.same_pauses c.in-Ok-open_links.ensures.same_moment (c.close_ends.ensures.same_moment ∙ c.close_legs.ensures.same_moment)) (g.W.Links.opened c.close_legs.new.world) (g.W.Links.taken_at c.close_legs.new.world) (g.W.Links.taken_at c.close_ends.new.world) (g.W.Links.given_at c.close_ends.new.world)
    c.close_legs.ensures.stored c.close_ends.ensures.same_taken c.close_legs.ensures.same_opened c.close_ends.ensures.stored c.in-Ok-answer_of.end c.in-Ok-printed.views c.tallies_of-tallies.result.items (sym c.in-Ok-answer_of.ensures)
    (subst (λ (tallies : List LegTally). ArePrintedOf (meaning_of c.args.conference.now) c.call-turned.result.listeners.items tallies (end_of c.in-Ok-answer_of.end) c.in-Ok-printed.views) c.as_slice-2.ensures.value c.in-Ok-printed.ensures)
    (c.tallies_of-tallies.ensures ∙ ap (λ (legs : List (LinkLeg g.row.W-In.Denot)). tallies_in legs) c.as_slice.ensures.value)

pub returns-in-Ok-printed-clause-counted : goal.returns-in-Ok-printed-clause-counted
returns-in-Ok-printed-clause-counted g c =
    counted_by g.W.In.LinkIn g.W.Out.LinkOut (g.T.Tap.stands c.call-turned.result.tap) g.W.Links.tells (meaning_of c.args.conference.now) _ (g.W.Links.opened c.call-turned.new.world) c.call-turned.result c.call-turned.ensures.called c.requires.links (span_of g.W.Links c.args.world.now c.close_ends.new.world)
    (same_span g.W.Links c.args.world.now c.open_links.new.world c.call-turned.new.world c.close_ends.new.world c.in-Ok-open_links.ensures.same_pauses c.in-Ok-open_links.ensures.same_moment (c.close_ends.ensures.same_moment ∙ c.close_legs.ensures.same_moment)) (g.W.Links.opened c.close_legs.new.world) (g.W.Links.taken_at c.close_legs.new.world) (g.W.Links.taken_at c.close_ends.new.world) (g.W.Links.given_at c.close_ends.new.world)
    c.close_legs.ensures.stored c.close_ends.ensures.same_taken c.close_legs.ensures.same_opened c.close_ends.ensures.stored c.in-Ok-answer_of.end c.in-Ok-printed.views c.tallies_of-tallies.result.items (sym c.in-Ok-answer_of.ensures)
    (subst (λ (tallies : List LegTally). ArePrintedOf (meaning_of c.args.conference.now) c.call-turned.result.listeners.items tallies (end_of c.in-Ok-answer_of.end) c.in-Ok-printed.views) c.as_slice-2.ensures.value c.in-Ok-printed.ensures)
    (c.tallies_of-tallies.ensures ∙ ap (λ (legs : List (LinkLeg g.row.W-In.Denot)). tallies_in legs) c.as_slice.ensures.value)

pub returns-in-Ok-printed-clause-objects_never_fall : goal.returns-in-Ok-printed-clause-objects_never_fall
returns-in-Ok-printed-clause-objects_never_fall g c = λ p. omega (arith, c.call-turned.ensures.same_objects p, c.open_links.ensures.same_objects p, c.close_legs.ensures.objects_never_fall p, c.close_ends.ensures.objects_never_fall p)

pub returns-in-Err-printed-clause-objects_never_fall : goal.returns-in-Err-printed-clause-objects_never_fall
returns-in-Err-printed-clause-objects_never_fall g c = λ p. omega (arith, c.call-turned.ensures.same_objects p, c.open_links.ensures.same_objects p, c.close_legs.ensures.objects_never_fall p, c.close_ends.ensures.objects_never_fall p)

pub returns-in-Ok-printed-clause-paced : goal.returns-in-Ok-printed-clause-paced
returns-in-Ok-printed-clause-paced g c = λ t done.
    let turns = c.args.conference.now.turns in
    let tick = c.args.conference.now.tick in
    subst (λ (m : ℕ). IsPaced turns tick m (g.W.Links.moment c.close_ends.new.world)) c.in-Ok-open_links.ensures.same_moment
    (subst (λ (m : ℕ). IsPaced turns tick (g.W.Links.moment c.open_links.new.world) m) (sym (c.close_ends.ensures.same_moment ∙ c.close_legs.ensures.same_moment))
    (c.call-turned.ensures.paced t (done_turned c.call-turned.result.turned c.in-Ok-answer_of.end (sym c.in-Ok-answer_of.ensures) done)))

pub returns-in_default-clause-broke_off : goal.returns-in_default-clause-broke_off
returns-in_default-clause-broke_off g c =
    gave_nothing g.W.Links.tells (span_of g.W.Links c.args.world.now c.args.world.now) (g.W.Links.given_at c.args.world.now) (g.W.Links.given_at c.args.world.now) (g.W.Links.taken_at c.args.world.now) (meaning_of c.args.conference.now) (λ t p. inl refl)

pub returns-in-Err-clause-broke_off : goal.returns-in-Err-clause-broke_off
returns-in-Err-clause-broke_off g c =
    gave_nothing g.W.Links.tells (span_of g.W.Links c.args.world.now c.open_links.new.world) (g.W.Links.given_at c.args.world.now) (g.W.Links.given_at c.open_links.new.world) (g.W.Links.taken_at c.open_links.new.world) (meaning_of c.args.conference.now) c.in-Err.ensures.gives_nothing

pub returns-in-Err-answer_of-clause-broke_off : goal.returns-in-Err-answer_of-clause-broke_off
returns-in-Err-answer_of-clause-broke_off g c =
    broke_off_by g.W.In.LinkIn g.W.Out.LinkOut (g.T.Tap.stands c.call-turned.result.tap) g.W.Links.tells (meaning_of c.args.conference.now) _ (g.W.Links.opened c.call-turned.new.world) c.call-turned.result c.call-turned.ensures.called c.requires.links (span_of g.W.Links c.args.world.now c.close_ends.new.world)
    (same_span g.W.Links c.args.world.now c.open_links.new.world c.call-turned.new.world c.close_ends.new.world c.in-Ok-open_links.ensures.same_pauses c.in-Ok-open_links.ensures.same_moment (c.close_ends.ensures.same_moment ∙ c.close_legs.ensures.same_moment)) (g.W.Links.opened c.close_legs.new.world) (g.W.Links.taken_at c.close_legs.new.world) (g.W.Links.taken_at c.close_ends.new.world) (g.W.Links.given_at c.close_ends.new.world)
    c.close_legs.ensures.stored c.close_ends.ensures.same_taken c.close_legs.ensures.same_opened c.close_ends.ensures.stored (g.W.Links.given_at c.args.world.now)

pub returns-in-Err-printed-clause-broke_off : goal.returns-in-Err-printed-clause-broke_off
returns-in-Err-printed-clause-broke_off g c =
    broke_off_by g.W.In.LinkIn g.W.Out.LinkOut (g.T.Tap.stands c.call-turned.result.tap) g.W.Links.tells (meaning_of c.args.conference.now) _ (g.W.Links.opened c.call-turned.new.world) c.call-turned.result c.call-turned.ensures.called c.requires.links (span_of g.W.Links c.args.world.now c.close_ends.new.world)
    (same_span g.W.Links c.args.world.now c.open_links.new.world c.call-turned.new.world c.close_ends.new.world c.in-Ok-open_links.ensures.same_pauses c.in-Ok-open_links.ensures.same_moment (c.close_ends.ensures.same_moment ∙ c.close_legs.ensures.same_moment)) (g.W.Links.opened c.close_legs.new.world) (g.W.Links.taken_at c.close_legs.new.world) (g.W.Links.taken_at c.close_ends.new.world) (g.W.Links.given_at c.close_ends.new.world)
    c.close_legs.ensures.stored c.close_ends.ensures.same_taken c.close_legs.ensures.same_opened c.close_ends.ensures.stored (g.W.Links.given_at c.args.world.now)

pub returns-in-Ok-printed-clause-calm : goal.returns-in-Ok-printed-clause-calm
returns-in-Ok-printed-clause-calm g c =
    calm_closed g.W.In.LinkIn g.W.Out.LinkOut (g.T.Tap.stands c.call-turned.result.tap) g.W.Links.tells (meaning_of c.args.conference.now) _ (g.W.Links.opened c.call-turned.new.world) c.call-turned.result c.call-turned.ensures.called
    (λ p. c.call-turned.ensures.same_objects p ∙ c.open_links.ensures.same_objects p) c.close_legs.ensures.calm c.close_ends.ensures.calm c.in-Ok-answer_of.end (sym c.in-Ok-answer_of.ensures)

pub returns-in-Ok-printed-clause-paused : goal.returns-in-Ok-printed-clause-paused
returns-in-Ok-printed-clause-paused g c = λ done.
    let turns = c.args.conference.now.turns in
    subst (λ (n : ℕ). IsPaused turns n (g.W.Links.pauses c.close_ends.new.world)) c.in-Ok-open_links.ensures.same_pauses
    (subst (λ (n : ℕ). IsPaused turns (g.W.Links.pauses c.open_links.new.world) n) (sym (c.close_ends.ensures.same_pauses ∙ c.close_legs.ensures.same_pauses))
    (c.call-turned.ensures.paused (done_turned c.call-turned.result.turned c.in-Ok-answer_of.end (sym c.in-Ok-answer_of.ensures) done)))

pub returns-in-Ok-printed-clause-leads_all : goal.returns-in-Ok-printed-clause-leads_all
returns-in-Ok-printed-clause-leads_all g c = λ t. c.close_ends.ensures.same_leads t ∙ (c.close_legs.ensures.same_leads t ∙ (c.call-turned.ensures.same_leads t ∙ c.in-Ok-open_links.ensures.leads_all t))

pub returns-in-Ok-printed-clause-all_opened : goal.returns-in-Ok-printed-clause-all_opened
returns-in-Ok-printed-clause-all_opened g c = λ p. c.close_ends.ensures.same_own p ∙ (c.close_legs.ensures.same_own p ∙ (c.call-turned.ensures.same_own p ∙ c.in-Ok-open_links.ensures.calm p))

pub returns-in-Ok-printed-clause-own_never_falls : goal.returns-in-Ok-printed-clause-own_never_falls
returns-in-Ok-printed-clause-own_never_falls g c = λ p. omega (arith, c.open_links.ensures.own_never_falls p, c.call-turned.ensures.same_own p, c.close_legs.ensures.same_own p, c.close_ends.ensures.same_own p)

pub returns-in-Err-printed-clause-own_never_falls : goal.returns-in-Err-printed-clause-own_never_falls
returns-in-Err-printed-clause-own_never_falls g c = λ p. omega (arith, c.open_links.ensures.own_never_falls p, c.call-turned.ensures.same_own p, c.close_legs.ensures.same_own p, c.close_ends.ensures.same_own p)

pub returns-in-Err-printed-clause-leads_some : goal.returns-in-Err-printed-clause-leads_some
returns-in-Err-printed-clause-leads_some g c = λ t.
    some_all (meaning_of c.args.conference.now) (g.W.Links.leads c.args.world.now) (g.W.Links.leads c.close_ends.new.world)
    (c.close_ends.ensures.same_leads t ∙ (c.close_legs.ensures.same_leads t ∙ (c.call-turned.ensures.same_leads t ∙ c.in-Ok-open_links.ensures.leads_all t)))

use Rattle.std.proofs.Common.{◌≤◌, ◌+◌, List, length, inl, refl, ap, subst, sym, ◌∙◌, arith}
use Rattle.std.specs.Vec.{vec_capacity}
use Rattle.std.proofs.lemmas.List.{length_push}
use Rattle.live_leg.specs.LinkLegs.{LinkLeg}
use Rattle.file_spec.specs.Conferences.{meaning_of}
use Rattle.rtt_live.specs.Opened.{OpenEnds, OpenLegs}
use Rattle.rtt_live.proofs.Closing.{nothing_then}
use Rattle.rtt_live.proofs.Linking.{ends_calm, ends_empty, ends_more, leads_all, leads_more, leads_none, leads_some, legs_calm, legs_more, no_ends, no_legs, not_opened, open_below}
use Rattle.rtt_live.proofs.open_links.open_links.Goals as goal

pub loop-own-init : goal.loop-own-init
loop-own-init g c =
    let made = c.in-Ok.ensures in
    let conference = meaning_of c.args.conference.now in
    let legs_room : c.len.result ≤ vec_capacity c.in-Ok.opened.legs = made.legs in
    let ends_room : c.len.result ≤ vec_capacity c.in-Ok.opened.ends = made.ends in
    record {
      legs = ap (λ (xs : List (LinkLeg g.row.W-In.Denot)). length xs) made.no_leg;
      ends = ap (λ (xs : List g.row.W-Out.Denot). length xs) made.no_end;
      legs_len = omega (arith, c.in-Ok.opened.legs.ok.0, ap (λ (xs : List (LinkLeg g.row.W-In.Denot)). length xs) made.no_leg);
      ends_len = omega (arith, c.in-Ok.opened.ends.ok.0, ap (λ (xs : List g.row.W-Out.Denot). length xs) made.no_end);
      legs_room = omega (arith, legs_room, c.len.ensures);
      ends_room = omega (arith, ends_room, c.len.ensures);
      open_legs = no_legs g.W.In.LinkIn g.W.Links.tells conference (g.W.Links.opened c.args.world.now) c.in-Ok.opened.legs.items made.no_leg;
      open_ends = no_ends g.W.Out.LinkOut g.W.Links.tells conference c.in-Ok.opened.ends.items made.no_end;
      same_own = λ p. refl;
      leads = λ t. leads_none conference (g.W.Links.leads c.args.world.now);
      pauses = refl;
      moment = refl;
      same_objects = λ p. refl;
      same_given = λ t p. refl;
    }

pub loop-own-preserved : goal.loop-own-preserved
loop-own-preserved g c =
    let i = c.loop-own.invariant in
    let conference = meaning_of c.args.conference.now in
    let made = c.in-Ok-open_link.ensures in
    let legs = c.push_reserved.ensures.items in
    let ends = c.push_reserved-in-Ok-open_link.ensures.items in
    record {
      legs = ap (λ (xs : List (LinkLeg g.row.W-In.Denot)). length xs) legs ∙ (length_push c.loop-own.legs.items c.in-Ok-open_link.leg ∙ ap (λ n. n + 1) i.legs);
      ends = ap (λ (xs : List g.row.W-Out.Denot). length xs) ends ∙ (length_push c.loop-own.ends.items c.in-Ok-open_link.end ∙ ap (λ n. n + 1) i.ends);
      legs_len = omega (arith, c.push_reserved.ensures.len, i.legs_len);
      ends_len = omega (arith, c.push_reserved-in-Ok-open_link.ensures.len, i.ends_len);
      legs_room = omega (arith, c.push_reserved.ensures.capacity, i.legs_room);
      ends_room = omega (arith, c.push_reserved-in-Ok-open_link.ensures.capacity, i.ends_room);
      open_legs = subst (λ (xs : List (LinkLeg g.row.W-In.Denot)). OpenLegs g.W.In.LinkIn g.W.Links.tells (g.W.Links.opened c.open_link.new.world) conference xs) (sym legs)
          (legs_more g.W.In.LinkIn g.W.Links.tells conference (g.W.Links.opened c.loop-own.world) (g.W.Links.opened c.open_link.new.world) c.loop-own.legs.items c.in-Ok-open_link.leg c.loop-own.own c.open_link.ensures.stay_opened i.legs i.open_legs made.leg);
      open_ends = subst (λ (xs : List g.row.W-Out.Denot). OpenEnds g.W.Out.LinkOut g.W.Links.tells conference xs) (sym ends)
          (ends_more g.W.Out.LinkOut g.W.Links.tells conference c.loop-own.ends.items c.in-Ok-open_link.end c.loop-own.own i.ends i.open_ends made.end);
      same_own = λ p. made.calm p ∙ i.same_own p;
      leads = λ t. leads_more conference (g.W.Links.leads c.args.world.now) (g.W.Links.leads c.loop-own.world) (g.W.Links.leads c.open_link.new.world) c.loop-own.own (omega (arith, c.loop-own-test.true)) (i.leads t) (made.leads_there t);
      pauses = made.same_pauses ∙ i.pauses;
      moment = made.same_moment ∙ i.moment;
      same_objects = λ p. c.open_link.ensures.same_objects p ∙ i.same_objects p;
      same_given = λ t p. made.same_given t p ∙ i.same_given t p;
    }

pub returns-in-Err-clause-refused : goal.returns-in-Err-clause-refused
returns-in-Err-clause-refused g c =
    let i = c.loop-own.invariant in
    let conference = meaning_of c.args.conference.now in
    let own = c.loop-own.own in
    not_opened g.W.Links.tells (g.W.Links.opened c.close_ends.new.world) (g.W.Links.own_faults c.args.world.now) (g.W.Links.own_faults c.loop-own.world) (g.W.Links.own_faults c.open_link.new.world) (g.W.Links.own_faults c.close_ends.new.world) conference own c.in-Err.fault
    (omega (arith, c.loop-own-test.true)) i.same_own (λ p. c.close_ends.ensures.same_own p ∙ c.close_legs.ensures.same_own p)
    (λ t j line p low at there.
    (c.close_ends.ensures.same_opened t p ∙ c.close_legs.ensures.same_opened t p)
    ∙ c.open_link.ensures.stay_opened t p (open_below g.W.In.LinkIn g.W.Links.tells conference (g.W.Links.opened c.loop-own.world) c.loop-own.legs.items own i.legs i.open_legs t j line p low at there))
    c.in-Err.ensures.refused

pub returns-in-Err-clause-own_never_falls : goal.returns-in-Err-clause-own_never_falls
returns-in-Err-clause-own_never_falls g c = λ p.
    let before = c.loop-own.invariant.same_own p in
    let made = c.open_link.ensures.own_never_falls p in
    let legs = c.close_legs.ensures.same_own p in
    let ends = c.close_ends.ensures.same_own p in
    omega (arith, before, made, legs, ends)

pub returns-in-Err-clause-same_objects : goal.returns-in-Err-clause-same_objects
returns-in-Err-clause-same_objects g c =
    let i = c.loop-own.invariant in
    let conference = meaning_of c.args.conference.now in
    let few : c.loop-own.own ≤ length conference.legs = omega (arith, c.loop-own-test.true) in
    let legs = c.close_legs.ensures.calm (legs_calm g.W.In.LinkIn g.W.Links.tells conference (g.W.Links.opened c.loop-own.world) c.loop-own.legs.items c.loop-own.own i.legs few i.open_legs) in
    let ends = c.close_ends.ensures.calm (ends_calm g.W.Out.LinkOut g.W.Links.tells conference c.loop-own.ends.items c.loop-own.own i.ends few i.open_ends) in
    λ p. ends p ∙ (legs p ∙ (c.open_link.ensures.same_objects p ∙ i.same_objects p))

pub returns-clause-own_never_falls : goal.returns-clause-own_never_falls
returns-clause-own_never_falls g c = λ p. let same = c.loop-own.invariant.same_own p in omega (arith, same)

pub returns-in_default-clause-leads_some : goal.returns-in_default-clause-leads_some
returns-in_default-clause-leads_some g c = λ t. (0, leads_none (meaning_of c.args.conference.now) (g.W.Links.leads c.args.world.now))

pub returns-in-Err-clause-leads_some : goal.returns-in-Err-clause-leads_some
returns-in-Err-clause-leads_some g c = λ t.
    let i = c.loop-own.invariant in
    let s = leads_some (meaning_of c.args.conference.now) (g.W.Links.leads c.args.world.now) (g.W.Links.leads c.loop-own.world) (g.W.Links.leads c.open_link.new.world) c.loop-own.own (omega (arith, c.loop-own-test.true)) (i.leads t) (c.in-Err.ensures.leads_nowhere_else t) in
    (s.0, c.close_ends.ensures.same_leads t ∙ (c.close_legs.ensures.same_leads t ∙ s.1))

pub returns-clause-leads_all : goal.returns-clause-leads_all
returns-clause-leads_all g c = λ t. leads_all (meaning_of c.args.conference.now) (g.W.Links.leads c.args.world.now) (g.W.Links.leads c.loop-own.world) c.loop-own.own (omega (arith, c.loop-own-test.false, c.loop-own.auto.own-end)) (c.loop-own.invariant.leads t)

pub returns-in_default-clause-gives_nothing : goal.returns-in_default-clause-gives_nothing
returns-in_default-clause-gives_nothing g c = λ t p. inl refl

pub returns-in-Err-clause-gives_nothing : goal.returns-in-Err-clause-gives_nothing
returns-in-Err-clause-gives_nothing g c = λ t.
    let i = c.loop-own.invariant in
    let conference = meaning_of c.args.conference.now in
    let own = c.loop-own.own in
    let given = g.W.Links.given_at in
    let few : own ≤ length conference.legs = omega (arith, c.loop-own-test.true) in
    let empty = ends_empty g.W.Out.LinkOut g.W.Links.tells conference (g.W.Links.opened c.close_legs.new.world) c.loop-own.ends.items own i.ends few i.open_ends
    (λ j line p low at there. c.close_legs.ensures.same_opened t p
    ∙ c.open_link.ensures.stay_opened t p (open_below g.W.In.LinkIn g.W.Links.tells conference (g.W.Links.opened c.loop-own.world) c.loop-own.legs.items own i.legs i.open_legs t j line p low at there)) in
    nothing_then (given c.args.world.now) (given c.close_legs.new.world) (given c.close_ends.new.world)
    (nothing_then (given c.args.world.now) (given c.open_link.new.world) (given c.close_legs.new.world)
    (nothing_then (given c.args.world.now) (given c.loop-own.world) (given c.open_link.new.world) (λ p. inl (i.same_given t p)) (c.in-Err.ensures.gives_nothing t))
    (λ p. inl (c.close_legs.ensures.same_given t p)))
    (c.close_ends.ensures.empty t empty)

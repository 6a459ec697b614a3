-- What a live call answers, when its links were handed back.
use Rattle.std.proofs.Common.{◌≡◌, ◌≤◌, ◌+◌, ℕ, Bool, true, inl, inr, Some, None, Ok, Err, List, [], length, refl, ap, sym, ◌∙◌, subst, arith}
use Rattle.std.specs.Prelude.{IfOk, IsSome, Option, Result, slice_get}
use Rattle.std.specs.Option.{option_map_or}
use Rattle.std.proofs.lemmas.Option.{slice_get_within}
use Rattle.rtt_io.specs.Counts.{Rose}
use Rattle.file_spec.specs.Conference.{Conference, port}
use Rattle.mixer_spec.specs.Table.{Table}
use Rattle.stream_spec.specs.Links.{Takes}
use Rattle.link_io.specs.Given.{given_by, packets}
use Rattle.link_io.specs.declared.ends.LinkIn as ins
use Rattle.link_io.specs.declared.ends.LinkOut as outs
use Rattle.link_io.specs.declared.links.Links as over
use Rattle.live_leg.specs.LinkLegs.{LinkLeg}
use Rattle.live_leg.specs.declared.tallies.LegTally.{LegTally}
use Rattle.mix_loop.specs.declared.live_turns.LiveTurnsEnd.{LiveTurnsEnd}
use Rattle.mix_loop.specs.declared.live_turns.LiveTurnsEnd.TheVariants.{Done, Closed, Faulted, Stopped}
use Rattle.live_spec.specs.Served.{Broken, End, IsCutShort, IsServed, live_printed}
use Rattle.live_spec.specs.Served as served
use Rattle.file_spec.specs.declared.conference_lines.LegLine.{LegLine}
use Rattle.mixer_spec.specs.Setups.{leg_at}
use Rattle.live_spec.proofs.Promised.{head_law, same_run}
use Rattle.rtt_live.specs.declared.calls.CallReturn.{CallReturn}
use Rattle.rtt_live.specs.declared.faults.LiveFault.{LiveFault}
use Rattle.rtt_live.specs.declared.faults.LiveFault.TheVariants.{Link, NoMemory}
use Rattle.rtt_live.specs.declared.reports.LiveEnd.{LiveEnd}
use Rattle.rtt_live.specs.declared.reports.LiveReport.{LiveReport}
use Rattle.rtt_live.specs.declared.reports.LiveEnd.TheVariants as ends
use Rattle.rtt_live.specs.Calls.{AreAtPorts, AtPorts, BrokeOff, EndsAs, FailedAt, HasGivenUp, IsBrokenOff, IsCallOf, IsCalled, IsOfLinks, LinkFailed, WasBroken, WasCounted, WasGivenUp, WasPaced, WasServed, WasTapped, answer_of, at_link, at_ports_of}
use Rattle.rtt_live.specs.Listeners.{ArePrintedOf, Listening}
use Rattle.rtt_live.specs.Opened.{AreCalm, AreStored, FaultsRose, GivesNothing, HaveOwnPorts, IsNotOpened, link_in, link_of, port_of}
use Rattle.rtt_live.specs.Ends.{packets_in}
use Rattle.rtt_live.specs.Reports.{end_of}
use Rattle.rtt_live.specs.Spans.{Span, span_of}
use Rattle.rtt_live.specs.Tallies.{AreTallies, tallies_in}
use Rattle.rtt_live.specs.Taps.{Notice}
use Rattle.rtt_live.proofs.Closing.{rose_on}
use Rattle.mixer_spec.proofs.Arriving.{length_map as map_long}
use Rattle.command_spec.proofs.SentBack.{below_legs as leg_within}
use Rattle.mixer_spec.proofs.Plain.{leg_there as some_leg}
use Rattle.stream_spec.proofs.Plain.{get_at as some_there}

-- ---- ports
some_port : (number : Option ℕ) → IsSome number → (p : ℕ) × (number ≡ Some p)
some_port (Some p) s = (p, refl)
some_port None s = absurd (cc s)

module _ {X : Type 0} (c : Conference) (links : IsOfLinks c) (port_of : X → ℕ) (xs : List X) (many : length xs ≡ length c.legs) (are : AreAtPorts port_of c xs) where
  own_ports : HaveOwnPorts port_of xs
  own_ports j k x y at_x at_y same =
      let a = some_leg c.legs j (let low = slice_get_within xs j x at_x in omega (arith, low, many)) in
      let b = some_leg c.legs k (let low = slice_get_within xs k y at_y in omega (arith, low, many)) in
      links.apart j k a.0 b.0 (port_of x) a.1 b.1 (are j x a.0 at_x a.1) (are k y b.0 at_y b.1 ∙ ap Some (sym same))

  -- what each has is stored under the port of its leg
  at_ports : {K : Type 0} (has : X → K) (opened : ℕ → Bool) (stored : ℕ → K) (of : ℕ → K) → AtPorts c opened (λ j. true) → AreStored has port_of opened stored xs
      → ((j : ℕ) (x : X) → slice_get xs j ≡ Some x → has x ≡ of j) → AtPorts c stored of
  at_ports has opened stored of is_open keeps is j line p at e =
      let x = some_there xs j (let low = leg_within c.legs j line at in omega (arith, low, many)) in
      let here : p ≡ port_of x.0 = cc (sym e ∙ are j x.0 line x.1 at) in
      ap stored here ∙ (keeps own_ports j x.0 x.1 (sym (ap opened here) ∙ is_open j line p at e) ∙ is j x.0 x.1)

  -- what it has is stored there
  stored_at : {K : Type 0} (has : X → K) (opened : ℕ → Bool) (stored : ℕ → K) → AtPorts c opened (λ j. true) → AreStored has port_of opened stored xs
      → (j : ℕ) (line : LegLine) (p : ℕ) → leg_at c.legs j ≡ Some line → port line.input ≡ Some p → (x : X) × (slice_get xs j ≡ Some x) × (stored p ≡ has x)
  stored_at has opened stored is_open keeps j line p at e =
      let x = some_there xs j (let low = leg_within c.legs j line at in omega (arith, low, many)) in
      let here : p ≡ port_of x.0 = cc (sym e ∙ are j x.0 line x.1 at) in
      (x.0, x.1, ap stored here ∙ keeps own_ports j x.0 x.1 (sym (ap opened here) ∙ is_open j line p at e))

  -- where the link of a leg failed, a count of its port rose
  link_failed : (faults : X → ℕ) (own own' ends ends' : ℕ → ℕ) (j : ℕ) → FailedAt faults xs j → FaultsRose faults port_of ends ends' xs → LinkFailed own own' ends ends' c j
  link_failed faults own own' ends ends' j f rose =
      let line = some_leg c.legs j (let low = slice_get_within xs j f.0 f.1 in omega (arith, low, many)) in
      record { line = line.0; at = line.1; number = port_of f.0; is = are j f.0 line.0 f.1 line.1; rose = inr (rose j f.0 f.1 f.2) }

-- ---- in turn
-- what was given to the links lies at the ports
paced_at : (c : Conference) → IsOfLinks c → (table : Table) (span : Span) (given under : ℕ → List (ℕ × List ℕ)) → AtPorts c under given → WasPaced c table span given → WasPaced c table span (at_ports_of c under)
paced_at c links table span given under lies w = record {
  calls = w.calls;
  made = w.made;
  began = w.began;
  behind = w.behind;
  before = w.before;
  at = w.at;
  told = w.told;
  in_turn = λ k j line made early at.
      let p = some_port (port line.input) (links.ports j line at) in
      let number : port_of c j ≡ p.0 = ap (λ (x : Option LegLine). option_map_or (λ (leg : LegLine). (link_of leg).0) x 0) at ∙ ap (λ (x : Option ℕ). option_map_or (λ (q : ℕ). q) x 0) p.1 in
      ap (λ (xs : List (ℕ × List ℕ)). packets (given_by (span.pauses + k) xs)) (ap under number ∙ lies j line p.0 at p.1) ∙ w.in_turn k j line made early at;
}

-- ---- counts
-- one that rose since a moment rose since an earlier one
rose_since : (first before last : ℕ) → first ≤ before → Rose before last → Rose first last
rose_since first before last l (inl r) = inl (omega (arith, l, r))
rose_since first before last l (inr r) = inr r

-- ---- what is answered
ended_call : {I O K : Type 0} (i : ins.Ghosts I) (o : outs.Ghosts O K) (stands : List Notice → Type 0) (tells : Type 0) (c : Conference) (span : Span) (legs : List (LinkLeg I)) (links : List O) (listeners : List Listening) (t : LiveTurnsEnd LiveFault) (end : LiveEnd)
    → EndsAs i o stands tells c span legs links listeners t → answer_of t ≡ Ok end → IsCallOf i o stands tells c span legs links listeners (end_of end)
ended_call i o stands tells c span legs links listeners Done end w e =
    let same : ends.Done ≡ end = cc e in
    subst (λ (x : LiveEnd). IsCallOf i o stands tells c span legs links listeners (end_of x)) same w
ended_call i o stands tells c span legs links listeners Closed end w e =
    let same : ends.Closed ≡ end = cc e in
    subst (λ (x : LiveEnd). IsCallOf i o stands tells c span legs links listeners (end_of x)) same w
ended_call i o stands tells c span legs links listeners (Faulted j) end w e = absurd (cc e)
ended_call i o stands tells c span legs links listeners (Stopped why) end w e = absurd (cc e)

pub done_turned : (t : LiveTurnsEnd LiveFault) (end : LiveEnd) → answer_of t ≡ Ok end → end ≡ ends.Done → t ≡ Done
done_turned Done end e d = refl
done_turned Closed end e d = absurd (cc (e, d))
done_turned (Faulted j) end e d = absurd (cc e)
done_turned (Stopped why) end e d = absurd (cc e)

-- what was printed of it
prints_so : (c : Conference) (takes : ℕ → Takes) (given : ℕ → List (List ℕ)) (end : End) (printed : List ℕ) → IsServed c takes given end (live_printed c takes given end) → printed ≡ live_printed c takes given end → IsServed c takes given end printed
prints_so c takes given end printed w is = record { table = w.table; turns = w.turns; live = w.live; few = w.few; gives = w.gives; prints = is; done = w.done; goes_on = w.goes_on; drained = w.drained; idle = w.idle }

-- ---- a call that broke off
broken : (c : Conference) (takes : ℕ → Takes) (given : ℕ → List (List ℕ)) (end : End) (printed : List ℕ) → IsServed c takes given end printed → IsServed c takes given Broken (live_printed c takes given Broken)
broken c takes given end printed w = record { table = w.table; turns = w.turns; live = w.live; few = w.few; gives = w.gives; prints = refl; done = λ e. absurd (cc e); goes_on = λ e. absurd (cc e); drained = λ e. absurd (cc e); idle = λ e. absurd (cc e) }

-- so did any that was served
call_breaks : {I O K : Type 0} (i : ins.Ghosts I) (o : outs.Ghosts O K) (stands : List Notice → Type 0) (tells : Type 0) (c : Conference) (span : Span) (legs : List (LinkLeg I)) (links : List O) (listeners : List Listening) (end : End)
    → IsCallOf i o stands tells c span legs links listeners end → IsBrokenOff i o tells c span legs links
unfolding broken
call_breaks i o stands tells c span legs links listeners end w = record {
  takes = w.takes;
  given = w.given;
  served = broken c w.takes w.given end (live_printed c w.takes w.given end) w.served;
  now = 0;
  taken = w.taken;
  gave = λ t j link line e at. inl (w.gave t j link e ∙ w.served.gives j line at);
  paced = w.paced;
}

any_breaks : {I O K : Type 0} (i : ins.Ghosts I) (o : outs.Ghosts O K) (stands : List Notice → Type 0) (tells : Type 0) (c : Conference) (span : Span) (legs : List (LinkLeg I)) (links : List O) (listeners : List Listening) (t : LiveTurnsEnd LiveFault)
    → EndsAs i o stands tells c span legs links listeners t → HasGivenUp i o tells c span legs links
any_breaks i o stands tells c span legs links listeners Done w = inl (call_breaks i o stands tells c span legs links listeners served.Done w)
any_breaks i o stands tells c span legs links listeners Closed w = inl (call_breaks i o stands tells c span legs links listeners served.Closed w)
any_breaks i o stands tells c span legs links listeners (Faulted j) w = inl w.1
any_breaks i o stands tells c span legs links listeners (Stopped (Link j)) w = inl w.1
any_breaks i o stands tells c span legs links listeners (Stopped NoMemory) w = w

-- when its links were handed back
pub was_broken : (tells : Type 0) (span : Span) (taken_at : ℕ → Takes) (given_at : ℕ → List (ℕ × List ℕ)) (c : Conference) (end : End) (printed : List ℕ) → WasServed tells span taken_at given_at c end printed → WasBroken tells span taken_at given_at c
unfolding broken
was_broken tells span taken_at given_at c end printed w =
    let b = broken c w.takes w.given end printed w.served in
    record {
      takes = w.takes;
      given = w.given;
      served = b;
      keeps = λ octets read. head_law octets c w.takes w.given Broken (live_printed c w.takes w.given Broken) read b;
      now = 0;
      taken = w.taken;
      gave = λ t j line p at e. inl (w.gave t j line p at e ∙ w.served.gives j line at);
      paced = w.paced;
    }

-- what is reported of a call
record IsReported (stands : List Notice → Type 0) (tells : Type 0) (span : Span) (taken_at : ℕ → Takes) (given_at : ℕ → List (ℕ × List ℕ)) (c : Conference) (end : End) (printed : List ℕ) (tallies : List LegTally) : Type 0 where
  tapped : WasTapped stands tells span taken_at given_at c end printed
  many : length tallies ≡ length c.legs
  counted : AreTallies c tapped.was.takes tallies

module _ {I O T K : Type 0} (i : ins.Ghosts I) (o : outs.Ghosts O K) (stands : List Notice → Type 0) (tells : Type 0) (c : Conference) (span : Span) (opened : ℕ → Bool) (called : CallReturn I O T) (w : IsCalled i o stands tells c span opened called) where
  pub each_heard : (end : LiveEnd) → answer_of called.turned ≡ Ok end → length called.listeners.items ≡ length c.legs
  each_heard end e = (ended_call i o stands tells c span called.legs.items called.ends.items called.listeners.items called.turned end w.ended e).many

  -- no end had failed where all links were closed
  pub calm_closed : {first at_call between last : ℕ → ℕ} → ((p : ℕ) → at_call p ≡ first p) → (AreCalm (λ (leg : LinkLeg I). i.faults (link_in leg)) called.legs.items → (p : ℕ) → between p ≡ at_call p)
      → (AreCalm o.faults called.ends.items → (p : ℕ) → last p ≡ between p) → (end : LiveEnd) → answer_of called.turned ≡ Ok end → end ≡ ends.Closed → (p : ℕ) → last p ≡ first p
  calm_closed same legs links end e closed p =
      let v = ended_call i o stands tells c span called.legs.items called.ends.items called.listeners.items called.turned end w.ended e in
      links v.calm_ends p ∙ (legs (v.calm_legs (ap end_of closed)) p ∙ same p)

  -- all ends were handed back
  module _ (links : IsOfLinks c) (taken_at : ℕ → Takes) (given_at : ℕ → List (ℕ × List ℕ))
      (stored_legs : tells → AreStored (λ (leg : LinkLeg I). i.taken (link_in leg)) (λ (leg : LinkLeg I). i.port (link_in leg)) opened taken_at called.legs.items)
      (stored_ends : tells → AreStored o.given o.port opened given_at called.ends.items) where
    lies_there : tells → AtPorts c given_at (at_link o.given called.ends.items)
    lies_there t = at_ports c links o.port called.ends.items w.many_ends w.ends_at o.given opened given_at (at_link o.given called.ends.items) (w.are_open t) (stored_ends t) (λ j link e. sym (ap (λ (x : Option O). option_map_or o.given x []) e))

    was_served : (end : LiveEnd) (printed : List ℕ) (tallies : List LegTally) → answer_of called.turned ≡ Ok end → ArePrintedOf c called.listeners.items tallies (end_of end) printed → tallies ≡ tallies_in called.legs.items → IsReported stands tells span taken_at given_at c (end_of end) printed tallies
    unfolding prints_so ended_call
    was_served end printed tallies e shown counts =
        let v = ended_call i o stands tells c span called.legs.items called.ends.items called.listeners.items called.turned end w.ended e in
        let are : AreTallies c v.takes tallies = subst (λ (xs : List LegTally). AreTallies c v.takes xs) (sym counts) v.tallied in
        let is : printed ≡ live_printed c v.takes v.given (end_of end) = shown v.takes v.given are v.heard in
        let served : IsServed c v.takes v.given (end_of end) printed = prints_so c v.takes v.given (end_of end) printed v.served is in
        let tapped : WasTapped stands tells span taken_at given_at c (end_of end) printed = record {
          was = record {
            takes = v.takes;
            given = v.given;
            served = served;
            keeps = λ octets read. head_law octets c v.takes v.given (end_of end) printed read served;
            same = λ octets read. same_run octets c v.takes v.given (end_of end) printed read served;
            taken = λ t. at_ports c links (λ (leg : LinkLeg I). i.port (link_in leg)) called.legs.items w.many_legs w.legs_at (λ (leg : LinkLeg I). i.taken (link_in leg)) opened taken_at v.takes (w.are_open t) (stored_legs t) (v.taken t);
            gave = λ t. at_ports c links o.port called.ends.items w.many_ends w.ends_at (packets_in o.given) opened (packets_in given_at) v.given (w.are_open t) (λ own j x at is. ap packets (stored_ends t own j x at is)) (v.gave t);
            paced = λ t. paced_at c links v.served.table span (at_link o.given called.ends.items) given_at (lies_there t) (v.paced t);
          };
          told = v.told;
        } in
        record {
          tapped = tapped;
          many = ap (λ (xs : List LegTally). length xs) counts ∙ (map_long (λ (leg : LinkLeg I). leg.tally) called.legs.items ∙ w.many_legs);
          counted = are;
        }

    pub broke_off : (before : ℕ → List (ℕ × List ℕ)) → BrokeOff tells span before taken_at given_at c
    broke_off before =
        let legs = called.legs.items in
        let ends = called.ends.items in
        let in_port : LinkLeg I → ℕ = λ leg. i.port (link_in leg) in
        elim (any_breaks i o stands tells c span legs ends called.listeners.items called.turned w.ended) [
          | inl b ↦ inl (record {
            takes = b.takes;
            given = b.given;
            served = b.served;
            keeps = λ octets read. head_law octets c b.takes b.given Broken (live_printed c b.takes b.given Broken) read b.served;
            now = b.now;
            taken = λ t. at_ports c links in_port legs w.many_legs w.legs_at (λ (leg : LinkLeg I). i.taken (link_in leg)) opened taken_at b.takes (w.are_open t) (stored_legs t) (b.taken t);
            gave = λ t j line p at e.
                let x = stored_at c links o.port ends w.many_ends w.ends_at o.given opened given_at (w.are_open t) (stored_ends t) j line p at e in
                subst (λ (given : List (ℕ × List ℕ)). IsCutShort c b.served.table b.now j line (packets given)) (sym x.2) (b.gave t j x.0 line x.1 at);
            paced = λ t. paced_at c links b.served.table span (at_link o.given ends) given_at (lies_there t) (b.paced t);
          })
          | inr unused ↦ inr (λ t j line p at e. inr (at_ports c links o.port ends w.many_ends w.ends_at o.given opened given_at (λ j. []) (w.are_open t) (stored_ends t) (λ j link there. (unused j link there).0) j line p at e))
        ]

  -- where it was given up, the counts are the cause
  module _ (links : IsOfLinks c) (own own' ends_before ends_between ends_after : ℕ → ℕ) (never : (p : ℕ) → ends_before p ≤ ends_between p) (never_then : (p : ℕ) → ends_between p ≤ ends_after p)
      (rose_legs : FaultsRose (λ (leg : LinkLeg I). i.faults (link_in leg)) (λ (leg : LinkLeg I). i.port (link_in leg)) ends_before ends_between called.legs.items)
      (rose_ends : FaultsRose o.faults o.port ends_between ends_after called.ends.items) where
    given_up_so : (t : LiveTurnsEnd LiveFault) (fault : LiveFault) → EndsAs i o stands tells c span called.legs.items called.ends.items called.listeners.items t → answer_of t ≡ Err fault → WasGivenUp own own' ends_before ends_after c fault
    given_up_so Done fault e q = absurd (cc q)
    given_up_so Closed fault e q = absurd (cc q)
    given_up_so (Faulted j) fault e q =
        let same : Link j ≡ fault = cc q in
        let rose : FaultsRose (λ (leg : LinkLeg I). i.faults (link_in leg)) (λ (leg : LinkLeg I). i.port (link_in leg)) ends_before ends_after called.legs.items =
        λ k leg at r. let p = i.port (link_in leg) in rose_on (ends_before p) (ends_between p) (ends_after p) (never p) (never_then p) (rose_legs k leg at r) in
        subst (λ (x : LiveFault). WasGivenUp own own' ends_before ends_after c x) same
        (link_failed c links (λ (leg : LinkLeg I). i.port (link_in leg)) called.legs.items w.many_legs w.legs_at (λ (leg : LinkLeg I). i.faults (link_in leg)) own own' ends_before ends_after j e.0 rose)
    given_up_so (Stopped (Link j)) fault e q =
        let same : Link j ≡ fault = cc q in
        let rose : FaultsRose o.faults o.port ends_before ends_after called.ends.items =
        λ k link at r. let p = o.port link in rose_since (ends_before p) (ends_between p) (ends_after p) (never p) (rose_ends k link at r) in
        subst (λ (x : LiveFault). WasGivenUp own own' ends_before ends_after c x) same (link_failed c links o.port called.ends.items w.many_ends w.ends_at o.faults own own' ends_before ends_after j e.0 rose)
    given_up_so (Stopped NoMemory) fault e q =
        let same : NoMemory ≡ fault = cc q in
        subst (λ (x : LiveFault). WasGivenUp own own' ends_before ends_after c x) same tt

    pub was_given_up : (fault : LiveFault) → answer_of called.turned ≡ Err fault → WasGivenUp own own' ends_before ends_after c fault
    was_given_up fault q = given_up_so called.turned fault w.ended q

-- ---- where not all links were opened
pub was_not_opened : (tells : Type 0) (opened : ℕ → Bool) (own own' ends_before ends_after : ℕ → ℕ) (c : Conference) (links : IsOfLinks c) (fault : LiveFault) → IsNotOpened tells opened own own' c fault → WasGivenUp own own' ends_before ends_after c fault
was_not_opened tells opened own own' ends_before ends_after c links (Link k) n =
    let number = some_port (port n.0.input) (links.ports k n.0 n.1) in
    record { line = n.0; at = n.1; number = number.0; is = number.1; rose = inl (n.2 number.0 number.1) }
was_not_opened tells opened own own' ends_before ends_after c links NoMemory n = tt

-- then nothing was given
pub gave_nothing : (tells : Type 0) (span : Span) (before given_at : ℕ → List (ℕ × List ℕ)) (taken_at : ℕ → Takes) (c : Conference) → (tells → GivesNothing before given_at) → BrokeOff tells span before taken_at given_at c
gave_nothing tells span before given_at taken_at c nothing = inr (λ t j line p at e. nothing t p)

-- ---- by the calls that opened the links, made the call, and closed them
-- the clock stood while links were opened and closed
abbrev span_from : ℕ → ℕ → ℕ → Span
span_from pauses first last = record { pauses = pauses; first = first; last = last }

pub same_span : {W I O C : Type 0} (g : over.Ghosts W I O C) (first opened called last : W) → g.pauses opened ≡ g.pauses first → g.moment opened ≡ g.moment first → g.moment last ≡ g.moment called → span_of g opened called ≡ span_of g first last
same_span g first opened called last pauses began ended =
    ap (λ (n : ℕ). span_from n (g.moment opened) (g.moment called)) pauses
    ∙ (ap (λ (n : ℕ). span_from (g.pauses first) n (g.moment called)) began
    ∙ ap (λ (n : ℕ). span_from (g.pauses first) (g.moment first) n) (sym ended))

module _ {I O T K : Type 0} (i : ins.Ghosts I) (o : outs.Ghosts O K) (stands : List Notice → Type 0) (tells : Type 0) (c : Conference) (span : Span) (opened : ℕ → Bool) (called : CallReturn I O T) (w : IsCalled i o stands tells c span opened called) (links : IsOfLinks c) where
  reported_by : (first : Span) → span ≡ first → (open_then : ℕ → Bool) (taken_then taken_at : ℕ → Takes) (given_at : ℕ → List (ℕ × List ℕ))
      → (tells → AreStored (λ (leg : LinkLeg I). i.taken (link_in leg)) (λ (leg : LinkLeg I). i.port (link_in leg)) opened taken_then called.legs.items)
      → (tells → (p : ℕ) → taken_at p ≡ taken_then p) → (tells → (p : ℕ) → open_then p ≡ opened p) → (tells → AreStored o.given o.port open_then given_at called.ends.items)
      → (end : LiveEnd) (printed : List ℕ) (tallies : List LegTally) → answer_of called.turned ≡ Ok end → ArePrintedOf c called.listeners.items tallies (end_of end) printed → tallies ≡ tallies_in called.legs.items → IsReported stands tells first taken_at given_at c (end_of end) printed tallies
  reported_by first same open_then taken_then taken_at given_at legs same_taken same_open ends end printed tallies e shown counts =
      subst (λ (n : Span). IsReported stands tells n taken_at given_at c (end_of end) printed tallies) same
      (was_served i o stands tells c span opened called w links taken_at given_at (λ t own j leg at is. same_taken t (i.port (link_in leg)) ∙ legs t own j leg at is)
      (λ t own j link at is. ends t own j link at (same_open t (o.port link) ∙ is)) end printed tallies e shown counts)

  pub served_by : (first : Span) → span ≡ first → (open_then : ℕ → Bool) (taken_then taken_at : ℕ → Takes) (given_at : ℕ → List (ℕ × List ℕ))
      → (tells → AreStored (λ (leg : LinkLeg I). i.taken (link_in leg)) (λ (leg : LinkLeg I). i.port (link_in leg)) opened taken_then called.legs.items)
      → (tells → (p : ℕ) → taken_at p ≡ taken_then p) → (tells → (p : ℕ) → open_then p ≡ opened p) → (tells → AreStored o.given o.port open_then given_at called.ends.items)
      → (end : LiveEnd) (printed : List ℕ) (tallies : List LegTally) → answer_of called.turned ≡ Ok end → ArePrintedOf c called.listeners.items tallies (end_of end) printed → tallies ≡ tallies_in called.legs.items → WasTapped stands tells first taken_at given_at c (end_of end) printed
  served_by first same open_then taken_then taken_at given_at legs same_taken same_open ends end printed tallies e shown counts =
      (reported_by first same open_then taken_then taken_at given_at legs same_taken same_open ends end printed tallies e shown counts).tapped

  pub counted_by : (first : Span) → span ≡ first → (open_then : ℕ → Bool) (taken_then taken_at : ℕ → Takes) (given_at : ℕ → List (ℕ × List ℕ))
      → (tells → AreStored (λ (leg : LinkLeg I). i.taken (link_in leg)) (λ (leg : LinkLeg I). i.port (link_in leg)) opened taken_then called.legs.items)
      → (tells → (p : ℕ) → taken_at p ≡ taken_then p) → (tells → (p : ℕ) → open_then p ≡ opened p) → (tells → AreStored o.given o.port open_then given_at called.ends.items)
      → (end : LiveEnd) (printed : List ℕ) (tallies : List LegTally) → answer_of called.turned ≡ Ok end → ArePrintedOf c called.listeners.items tallies (end_of end) printed → tallies ≡ tallies_in called.legs.items → WasCounted tells first taken_at given_at c (end_of end) printed tallies
  counted_by first same open_then taken_then taken_at given_at legs same_taken same_open ends end printed tallies e shown counts =
      let r = reported_by first same open_then taken_then taken_at given_at legs same_taken same_open ends end printed tallies e shown counts in
      record { was = r.tapped.was; many = r.many; counted = r.counted }

  pub broke_off_by : (first : Span) → span ≡ first → (open_then : ℕ → Bool) (taken_then taken_at : ℕ → Takes) (given_at : ℕ → List (ℕ × List ℕ))
      → (tells → AreStored (λ (leg : LinkLeg I). i.taken (link_in leg)) (λ (leg : LinkLeg I). i.port (link_in leg)) opened taken_then called.legs.items)
      → (tells → (p : ℕ) → taken_at p ≡ taken_then p) → (tells → (p : ℕ) → open_then p ≡ opened p) → (tells → AreStored o.given o.port open_then given_at called.ends.items)
      → (before : ℕ → List (ℕ × List ℕ)) → BrokeOff tells first before taken_at given_at c
  broke_off_by first same open_then taken_then taken_at given_at legs same_taken same_open ends before =
      subst (λ (n : Span). BrokeOff tells n before taken_at given_at c) same
      (broke_off i o stands tells c span opened called w links taken_at given_at (λ t own j leg at is. same_taken t (i.port (link_in leg)) ∙ legs t own j leg at is)
      (λ t own j link at is. ends t own j link at (same_open t (o.port link) ∙ is)) before)

  pub given_up_by : (own own' first at_call between last : ℕ → ℕ) → ((p : ℕ) → at_call p ≡ first p) → ((p : ℕ) → at_call p ≤ between p) → ((p : ℕ) → between p ≤ last p)
      → FaultsRose (λ (leg : LinkLeg I). i.faults (link_in leg)) (λ (leg : LinkLeg I). i.port (link_in leg)) at_call between called.legs.items → FaultsRose o.faults o.port between last called.ends.items
      → (fault : LiveFault) → answer_of called.turned ≡ Err fault → WasGivenUp own own' first last c fault
  given_up_by own own' first at_call between last same never never_then legs ends fault q =
      was_given_up i o stands tells c span opened called w links own own' first between last (λ p. let s = same p in let n = never p in omega (arith, s, n)) never_then
      (λ j leg at r. subst (λ (n : ℕ). Rose n (between (i.port (link_in leg)))) (same (i.port (link_in leg))) (legs j leg at r)) ends fault q

-- ---- of a tap that shows nothing
pub as_served : (stands : List Notice → Type 0) (tells : Type 0) (span : Span) (taken_at : ℕ → Takes) (given_at : ℕ → List (ℕ × List ℕ)) (c : Conference) (result : Result LiveReport LiveFault)
    → IfOk result (λ report. WasTapped stands tells span taken_at given_at c (end_of report.end) report.views) → IfOk result (λ report. WasServed tells span taken_at given_at c (end_of report.end) report.views)
as_served stands tells span taken_at given_at c (Ok report) w = w.was
as_served stands tells span taken_at given_at c (Err fault) w = w

-- From turns that were made to a live call of the conference.
use Rattle.std.proofs.Common.{◌≡◌, ◌<◌, ◌≤◌, ◌+◌, ◌⊎◌, ℕ, suc, Bool, true, false, inl, inr, Option, None, Some, List, [], ◌∷◌, ◌++◌, append_assoc, length, map, refl, ap, sym, ◌∙◌, subst, arith}
use Rattle.std.specs.Prelude.{slice_get}
use Rattle.std.proofs.lemmas.List.{append-nil}
use Rattle.std.proofs.lemmas.Option.{slice_get_within}
use Rattle.rtt_base.specs.declared.text_packets.PayloadTypes.{PayloadTypes}
use Rattle.rtt_io.specs.Counts.{Rose}
use Rattle.file_spec.specs.declared.conference_lines.LegLine.{LegLine}
use Rattle.file_spec.specs.Conference.{Conference}
use Rattle.file_spec.specs.Primaries.{primary_limit}
use Rattle.mixer_spec.specs.Setups.{Setup, is_long, leg_at, setup, ssrc_of}
use Rattle.mixer_spec.specs.Rooms.{piece_within}
use Rattle.receiver.specs.Cuts.{cut_within, most_of}
use Rattle.mixer_spec.specs.Table.{Call, Turn, after_calls}
use Rattle.mixer.specs.declared.batches.Post.{Post}
use Rattle.mixer.specs.Turns.{posts_at}
use Rattle.mixer_posts.specs.Streams.{settings_at, payload_types_at}
use Rattle.mixer_posts.specs.States.{SendingState}
use Rattle.mixer_posts.specs.Posts.{sent_by, sents_to, with_posts}
use Rattle.mixer_posts.proofs.Entering.{entered_law, some_sent}
use Rattle.mixer_posts.proofs.Posting.{with_one}
use Rattle.live_leg.specs.declared.settings.LegSettings.{LegSettings}
use Rattle.stream_spec.specs.Links.{Takes, is_closed}
use Rattle.link_io.specs.declared.ends.LinkIn as ins
use Rattle.link_io.specs.declared.ends.LinkOut as outs
use Rattle.live_spec.specs.Told.{Hearing}
use Rattle.view_spec.specs.declared.tallies.Tally.{Tally}
use Rattle.live_spec.specs.Tally.{tally_by}
use Rattle.workers.specs.declared.lanes.Worker.{Worker}
use Rattle.workers.specs.Lanes.{AreNew}
use Rattle.live_leg.specs.LinkLegs.{LegGave, LinkItem, LinkLeg, has_fault}
use Rattle.live_leg.specs.declared.tallies.LegTally.{LegTally}
use Rattle.live_leg.specs.Tallies.{IsTally}
use Rattle.live_leg.specs.Items.{fault_in}
use Rattle.live_leg.specs.Stories.{hearing_of}
use Rattle.live_leg.proofs.Pacing.{went_port, went_taken}
use Rattle.mix_loop.specs.declared.clocks.TurnClock as clocks
use Rattle.mix_loop.specs.declared.live_ports.LivePort.{LivePort}
use Rattle.mix_loop.specs.declared.live_turns.LiveTurnsEnd.{LiveTurnsEnd}
use Rattle.mix_loop.specs.declared.live_turns.LiveTurnsEnd.TheVariants.{Done, Closed, Faulted, Stopped}
use Rattle.mix_loop.specs.Clocks.{ArePaced, AtTicks, RiseTo, StandsPaced, moments_of}
use Rattle.mix_loop.specs.Order.{AreInTurn, up_to_turn}
use Rattle.mix_loop.specs.Walks.{BrokenTo, HaltsThen, RanTo, WasFaulted, WasStopped}
use Rattle.mix_loop.proofs.Lists.{lt_or_ge}
use Rattle.live_spec.specs.Served.{End, IsCutShort, IsServed, given_to, hearing_at, is_followed, live_printed, payload_types_of}
use Rattle.live_spec.specs.Served as served
use Rattle.mix_loop.specs.Covers.{Covers, as_leg}
use Rattle.mix_loop.specs.Served.{IsOfConference}
use Rattle.mix_loop.proofs.AsLeg.{tally_as}
use Rattle.mix_loop.proofs.Covering.{covers}
use Rattle.mix_loop.proofs.Served.{broken_law, closed_law, done_law}
use Rattle.rtt_live.specs.declared.far_ends.FarEnds.{FarEnds}
use Rattle.rtt_live.specs.declared.faults.LiveFault.{LiveFault}
use Rattle.rtt_live.specs.declared.faults.LiveFault.TheVariants.{Link, NoMemory}
use Rattle.rtt_live.specs.declared.calls.CallReturn.{CallReturn}
use Rattle.rtt_live.specs.declared.mixer_taps.TappedMixer.{TappedMixer}
use Rattle.rtt_live.specs.Calls.{AreAtPorts, AtPorts, EndsAs, FailedAt, GaveInTurn, IsBrokenOff, IsCallOf, IsCalled, IsOfLinks, at_link}
use Rattle.rtt_live.specs.Ends.{IsUnsent, addresses_of, packets_in, packets_of}
use Rattle.rtt_live.specs.declared.threads.CallJob.{CallJob}
use Rattle.rtt_live.specs.declared.threads.JobReturn.{JobReturn}
use Rattle.rtt_live.specs.Jobs.{GaveFirst, RanAs, popped_in}
use Rattle.rtt_live.specs.Mixers.{GivesFor, HaltsGiving, HasAll, all_admitted}
use Rattle.rtt_live.specs.Listeners.{HasHeard}
use Rattle.rtt_live.specs.Opened.{AreUnused, OpenEnds, OpenLegs, leg_settings_at, link_in}
use Rattle.rtt_live.specs.Spans.{Span}
use Rattle.rtt_live.specs.Taps.{HaltsTold, IsUnsentIn, Learns, Notice, Shows, TellsFor, ended_with, notices_by}
use Rattle.rtt_live.proofs.Failing.{closed_calm, fault_rose}
use Rattle.mix_loop.specs.Addresses.{Address}
use Rattle.rtt_live.proofs.Ordering.{ports_are, was_given}
use Rattle.rtt_live.proofs.Sent.{given_by, given_law, sent_law}
use Rattle.rtt_live.proofs.Taking.{none_offered}
use Rattle.mixer_spec.proofs.Arriving.{length_map as map_long}
use Rattle.command_spec.proofs.SentBack.{below_legs as leg_within}
use Rattle.wire_spec.proofs.Plain.{get_map as map_there, map_from as mapped}
use Rattle.mixer_spec.proofs.Plain.{leg_there as some_leg}
use Rattle.stream_spec.proofs.Plain.{get_at as some_there}

-- ---- lists
-- one for each number below n, and else none
module _ {T : Type 0} (none : T) (holds : ℕ → T → Type 0) (n : ℕ) (each : (j : ℕ) → j < n → (t : T) × holds j t) where
  abbrev picked : (j : ℕ) → (j < n) ⊎ (n ≤ j) → T
  picked j (inl low) = (each j low).0
  picked j (inr high) = none

  abbrev pick : ℕ → T
  pick j = picked j (lt_or_ge j n)

  picked_holds : (j : ℕ) (d : (j < n) ⊎ (n ≤ j)) → j < n → holds j (picked j d)
  picked_holds j (inl low) l = (each j low).1
  picked_holds j (inr high) l = absurd (omega (arith, l, high))

  pick_holds : (j : ℕ) → j < n → holds j (pick j)
  pick_holds j l = picked_holds j (lt_or_ge j n) l

  picked_none : (j : ℕ) (d : (j < n) ⊎ (n ≤ j)) → n ≤ j → picked j d ≡ none
  picked_none j (inl low) h = absurd (omega (arith, low, h))
  picked_none j (inr high) h = refl

  pick_none : (j : ℕ) → n ≤ j → pick j ≡ none
  pick_none j h = picked_none j (lt_or_ge j n) h

piece_is : (mtu : Option ℕ) → piece_within mtu ≡ most_of (cut_within mtu)
piece_is None = refl
piece_is (Some n) = refl

hearing_line : (c : Conference) (j : ℕ) (line : LegLine) → leg_at c.legs j ≡ Some line → hearing_at c j ≡ as_leg j (hearing_of (leg_settings_at c line))
hearing_line c j line at =
    let hears : Option LegLine → ℕ → Hearing = λ l n. record { leg = j; ssrc = ssrc_of l; payload_types = payload_types_of l; most = primary_limit (is_long l); wait = c.wait; follow = is_followed l; piece = n } in
    λ i. hears (at i) (piece_is c.mtu i)

-- ---- legs that were opened as the first, gave what was popped at these ports, and came back
module _ {I G : Type 0} (i : ins.Ghosts I) (tells : Type 0) (opened : ℕ → Bool) (c : Conference) (firsts backs : List (LinkLeg I)) (ports : List (LivePort (Worker LinkItem (LinkLeg I) G))) (are : OpenLegs i tells opened c firsts)
    (many : length firsts ≡ length c.legs) (many_ports : length ports ≡ length firsts) (many_backs : length backs ≡ length firsts)
    (gave : (j : ℕ) (p : LivePort (Worker LinkItem (LinkLeg I) G)) (first back : LinkLeg I) → slice_get ports j ≡ Some p → slice_get firsts j ≡ Some first → slice_get backs j ≡ Some back → GaveFirst i first back (popped_in p.inlet)) where
  -- the link of the leg j gave this, by which what was popped is the first of what the leg gives
  record TookAt (j : ℕ) (takes : Takes) : Type 0 where
    pub covering : (p : LivePort (Worker LinkItem (LinkLeg I) G)) → slice_get ports j ≡ Some p → Covers (hearing_at c j) takes (popped_in p.inlet)
    pub taken : tells → (back : LinkLeg I) → slice_get backs j ≡ Some back → i.taken back.arrivals.link ≡ takes
    pub calm : is_closed takes ≡ true → (back : LinkLeg I) → slice_get backs j ≡ Some back → i.faults back.arrivals.link ≡ 0
    pub tallied : (back : LinkLeg I) → slice_get backs j ≡ Some back → IsTally back.tally (tally_by (hearing_at c j) takes)

  took_at : (j : ℕ) → j < length c.legs → (takes : Takes) × TookAt j takes
  took_at j low =
      let line = some_leg c.legs j low in
      let first = some_there firsts j (omega (arith, low, many)) in
      let p = some_there ports j (omega (arith, low, many, many_ports)) in
      let back = some_there backs j (omega (arith, low, many, many_backs)) in
      let w = gave j p.0 first.0 back.0 p.1 first.1 back.1 in
      let o = are j first.0 first.1 line.0 line.1 in
      let takes = w.1.so.takes in
      let hears : as_leg j (hearing_of first.0.settings) ≡ hearing_at c j = ap (λ (k : LegSettings). as_leg j (hearing_of k)) o.settings ∙ sym (hearing_line c j line.0 line.1) in
      let here : Covers (hearing_at c j) takes (popped_in p.0.inlet) = subst (λ (h : Hearing). Covers h takes (popped_in p.0.inlet)) hears (covers i j first.0 back.0 (popped_in p.0.inlet ++ w.0) (popped_in p.0.inlet) w.0 w.1 refl) in (
        takes,
        record {
          covering = λ q e. let same : p.0 ≡ q = cc (sym p.1 ∙ e) in subst (λ (x : LivePort (Worker LinkItem (LinkLeg I) G)). Covers (hearing_at c j) takes (popped_in x.inlet)) same here;
          taken = λ t x e.
              let same : back.0 ≡ x = cc (sym back.1 ∙ e) in
              subst (λ (b : LinkLeg I). i.taken b.arrivals.link ≡ takes) same (went_taken i (fault_in (popped_in p.0.inlet ++ w.0)) first.0.arrivals back.0.arrivals takes w.1.so.went (o.told t).0 ∙ (ap (λ (ts : Takes). takes ++ ts) (o.told t).1 ∙ append-nil takes));
          calm = λ closed x e.
              let same : back.0 ≡ x = cc (sym back.1 ∙ e) in
              subst (λ (b : LinkLeg I). i.faults b.arrivals.link ≡ 0) same (closed_calm i first.0 back.0 (popped_in p.0.inlet ++ w.0) w.1 closed ∙ o.fresh);
          tallied = λ x e.
              let same : back.0 ≡ x = cc (sym back.1 ∙ e) in
              subst (λ (b : LinkLeg I). IsTally b.tally (tally_by (hearing_at c j) takes)) same
              (subst (λ (y : Tally). IsTally back.0.tally y) (sym (tally_as j (hearing_of first.0.settings) takes) ∙ ap (λ (h : Hearing). tally_by h takes) hears) w.1.so.tally);
        },
      )

  abbrev took : ℕ → Takes → Type 0
  took j takes = TookAt j takes

  -- each has its port still
  pub backs_at : AreAtPorts (λ (leg : LinkLeg I). i.port (link_in leg)) c backs
  backs_at j back line there at =
      let low = slice_get_within backs j back there in
      let first = some_there firsts j (omega (arith, low, many_backs)) in
      let p = some_there ports j (omega (arith, low, many_ports, many_backs)) in
      let w = gave j p.0 first.0 back p.1 first.1 there in
      let o = are j first.0 first.1 line at in
      o.at ∙ ap Some (sym (went_port i (fault_in (popped_in p.0.inlet ++ w.0)) first.0.arrivals back.arrivals w.1.so.takes w.1.so.went))

  -- and links are open there
  pub ports_open : tells → AtPorts c opened (λ j. true)
  ports_open t j line p at e =
      let first = some_there firsts j (let low = leg_within c.legs j line at in omega (arith, low, many)) in
      let o = are j first.0 first.1 line at in
      let same : i.port first.0.arrivals.link ≡ p = cc (sym o.at ∙ e) in
      subst (λ (q : ℕ). opened q ≡ true) same (o.told t).2

  -- where a fault was popped of one, its link failed
  pub fault_at : (j : ℕ) (p : LivePort (Worker LinkItem (LinkLeg I) G)) → slice_get ports j ≡ Some p → has_fault (popped_in p.inlet) ≡ true → FailedAt (λ (leg : LinkLeg I). i.faults (link_in leg)) backs j
  fault_at j p there fault =
      let low = slice_get_within ports j p there in
      let line = some_leg c.legs j (omega (arith, low, many, many_ports)) in
      let first = some_there firsts j (omega (arith, low, many_ports)) in
      let back = some_there backs j (omega (arith, low, many_ports, many_backs)) in
      let o = are j first.0 first.1 line.0 line.1 in
      (back.0, back.1, subst (λ (n : ℕ). Rose n (i.faults back.0.arrivals.link)) o.fresh (fault_rose i first.0 back.0 (popped_in p.inlet) (gave j p first.0 back.0 there first.1 back.1) fault))

  -- ---- the whole, by the calls of the mixer, and of the tap that was told of it and then showed all
  module _ {O T K : Type 0} (o : outs.Ghosts O K) (tells_out : tells → (j : ℕ) → j < length c.legs → o.tells) (stands : T → List Notice → Type 0) (m : TappedMixer (SendingState (FarEnds O)) T) (tap : T) (shows : Learns stands m.tap tap Shows) where
    abbrev gives : TappedMixer (SendingState (FarEnds O)) T → Setup → (ℕ → PayloadTypes) → List Call → Type 0
    gives = TellsFor (GivesFor o.tells (packets_in o.given) o.faults) stands

    abbrev halts : TappedMixer (SendingState (FarEnds O)) T → Setup → (ℕ → PayloadTypes) → List Call → ℕ → Type 0
    halts = HaltsTold (GivesFor o.tells (packets_in o.given) o.faults) (HaltsGiving o.tells (packets_in o.given))

    abbrev far : FarEnds O
    far = m.mixer.outbound

    abbrev addresses : TappedMixer (SendingState (FarEnds O)) T → List Address
    addresses x = addresses_of o.port o.given x.mixer.outbound.links.items

    -- the turns of these calls are at ticks, and what they send was given before the pause behind each
    abbrev PacedBy : (span : Span) → List Call → Type 0
    PacedBy span calls = (began : ℕ) × (span.first ≤ began) × (began ≤ span.last) × AtTicks c.tick began (moments_of calls) × RiseTo span.last (moments_of calls) × GaveInTurn c span.pauses (at_link o.given far.links.items) calls

    is_call : (span : Span) (end : End) (calls : List Call) → gives m (setup c) (payload_types_at c) calls → (tells → PacedBy span calls) → m.short ≡ false
        → (serves : (takes : ℕ → Takes) (given : ℕ → List (List ℕ)) → IsOfConference popped_in c calls ports takes given → IsServed c takes given end (live_printed c takes given end))
        → ((takes : ℕ → Takes) (given : ℕ → List (List ℕ)) (w : IsOfConference popped_in c calls ports takes given) → (serves takes given w).table ≡ after_calls (setup c) calls)
        → IsCallOf i o (stands tap) tells c span backs far.links.items far.listeners.items end
    is_call span end calls gave_all paced long serves leads =
        let made = gave_all.made in
        let takes : ℕ → Takes = pick [] took (length c.legs) took_at in
        let table = after_calls (setup c) calls in
        let given : ℕ → List (List ℕ) = λ j. given_by c table j in
        let sent = made.sent in
        let same : (j : ℕ) (low : j < length c.legs) → packets_of (settings_at (setup c) (payload_types_at c j) j) (sents_to (sent.each j low).sources j (sent_by (setup c) calls)) ≡ given j =
        λ j low. ap (packets_of (settings_at (setup c) (payload_types_at c j) j)) (entered_law (setup c) calls j (sent.each j low).sources low (sent.each j low).are) in
        let all : length far.links.items ≡ length c.legs = sent.many in
        let w : IsOfConference popped_in c calls ports takes given = record {
          legs = omega (arith, many, many_ports);
          none = pick_none [] took (length c.legs) took_at;
          covers = λ j p e. (pick_holds [] took (length c.legs) took_at j (let low = slice_get_within ports j p e in omega (arith, low, many, many_ports))).covering p e;
          gave = λ j leg at. given_law c table j leg at;
        } in
        record {
          takes = takes;
          given = given;
          served = serves takes given w;
          many = far.both ∙ all;
          tallied = λ j kept e.
              let leg = mapped (λ (leg : LinkLeg I). leg.tally) backs j kept e in
              let low = slice_get_within backs j leg.0 leg.1 in
              subst (λ (y : LegTally). IsTally y (tally_by (hearing_at c j) (takes j))) leg.2 ((pick_holds [] took (length c.legs) took_at j (omega (arith, low, many, many_backs))).tallied leg.0 leg.1);
          heard = λ j l e.
              let low = slice_get_within far.listeners.items j l e in
              let both = far.both in
              let here : j < length c.legs = omega (arith, low, both, all) in
              subst (λ (ps : List (List ℕ)). HasHeard l ps) (same j here) ((sent.each j here).heard l e);
          taken = λ t j leg e. (pick_holds [] took (length c.legs) took_at j (let low = slice_get_within backs j leg e in omega (arith, low, many, many_backs))).taken t leg e;
          gave = λ t j link e.
              let low = slice_get_within far.links.items j link e in
              let here : j < length c.legs = omega (arith, low, all) in
              ((sent.each j here).gave link e).1 (tells_out t j here) ∙ same j here;
          calm_ends = λ j link e.
              let low = slice_get_within far.links.items j link e in
              let here : j < length c.legs = omega (arith, low, all) in
              ((sent.each j here).gave link e).0;
          calm_legs = λ closed j leg e.
              let low = slice_get_within backs j leg e in
              let here : j < length c.legs = omega (arith, low, many, many_backs) in
              (pick_holds [] took (length c.legs) took_at j here).calm ((serves takes given w).drained closed j here).closed leg e;
          told = record { calls = calls; made = sym (leads takes given w); told = shows (notices_by (setup c) calls) (gave_all.told long) };
          paced = λ t. let p = paced t in record { calls = calls; made = sym (leads takes given w); began = p.0; behind = p.1; before = p.2; at = p.3; told = p.4; in_turn = p.5 };
        }

    -- what a turn sends was given by the time of the pause behind it
    gave_in_turn : (paused : ℕ) (calls : List Call) → AreInTurn gives addresses paused m (setup c) (payload_types_at c) calls → tells → GaveInTurn c paused (at_link o.given far.links.items) calls
    gave_in_turn paused calls order t k j line made early at =
        let w = order k made early in
        let other = w.other.mixer.outbound in
        let sent = w.stood.made.sent in
        let low = leg_within c.legs j line at in
        let many = sent.many in
        let here = sent.each j low in
        let link = some_there other.links.items j (omega (arith, low, many)) in
        was_given (paused + k) o.port o.given far.links.items other.links.items j link.0 w.gave link.1 ∙ ((here.gave link.0 link.1).1 (tells_out t j low) ∙ sent_law c (up_to_turn (suc k) calls) j line here.sources at here.are)

    -- turns at the ticks of a clock are those of the conference's tick
    at_ticks : (known : Type 0) (tick : ℕ) (span : Span) (calls : List Call) → tick ≡ c.tick → (tells → known) → (known → ArePaced tick span.first span.last calls) → AreInTurn gives addresses span.pauses m (setup c) (payload_types_at c) calls → tells → PacedBy span calls
    at_ticks known tick span calls same tell paced order t =
        let p = paced (tell t) in
        (p.began, p.behind, p.before, subst (λ (n : ℕ). AtTicks n p.began (moments_of calls)) same p.at, p.told, gave_in_turn span.pauses calls order t)

    -- ---- one that broke off
    -- what was given by calls, to the links and by definition
    given_whole : (calls : List Call) → GivesFor o.tells (packets_in o.given) o.faults m.mixer (setup c) (payload_types_at c) calls → (j : ℕ) (link : O) (line : LegLine) → slice_get far.links.items j ≡ Some link → leg_at c.legs j ≡ Some line → o.tells
        → packets_in o.given link ≡ given_to c (after_calls (setup c) calls) j line
    given_whole calls made j link line e at tell =
        let w = made.sent.each j (leg_within c.legs j line at) in
        (w.gave link e).1 tell ∙ sent_law c calls j line w.sources at w.are

    -- what was given by calls and a turn that was not sent to its end
    given_cut : (calls : List Call) (now : ℕ) → HaltsGiving o.tells (packets_in o.given) m.mixer (setup c) (payload_types_at c) calls now → (j : ℕ) (link : O) (line : LegLine) → slice_get far.links.items j ≡ Some link → leg_at c.legs j ≡ Some line → o.tells
        → IsCutShort c (after_calls (setup c) calls) now j line (packets_in o.given link)
    given_cut calls now h j link line e at tell =
        let s = setup c in
        let low = leg_within c.legs j line at in
        let w = h.halts.each j low in
        let settings = settings_at s (payload_types_at c j) j in
        let sent = sent_by s calls in
        let table = after_calls s calls in
        let cut_by : (first left : List Post) → posts_at s now table ≡ first ++ left → packets_in o.given link ≡ packets_of settings (sents_to w.sources j (with_posts now first sent)) → IsCutShort c table now j line (packets_in o.given link) =
        λ first left are is. elim (some_sent s now j w.sources table sent first left low are) [
          | inl none ↦ inl (is ∙ (ap (packets_of settings) none ∙ sent_law c calls j line w.sources at w.are))
          | inr all ↦ inr (is ∙ (ap (packets_of settings) all ∙ sent_law c (Turn now ∷ calls) j line w.sources at w.are))
        ] in
        elim (w.gave link e tell) [
          | inl q ↦ cut_by h.first (h.next ∷ h.left) h.are q
          | inr q ↦ cut_by (h.first ++ h.next ∷ []) h.left (h.are ∙ sym (append_assoc h.first (h.next ∷ []) h.left)) (q ∙ ap (λ (xs : List (ℕ × Post)). packets_of settings (sents_to w.sources j xs)) (sym (with_one now h.first h.next sent)))
        ]

    -- of a turn that the tap was told of, or not
    given_then : (calls : List Call) (now : ℕ) → HaltsTold (GivesFor o.tells (packets_in o.given) o.faults) (HaltsGiving o.tells (packets_in o.given)) m (setup c) (payload_types_at c) calls now → (j : ℕ) (link : O) (line : LegLine) → slice_get far.links.items j ≡ Some link → leg_at c.legs j ≡ Some line → o.tells
        → IsCutShort c (after_calls (setup c) calls) now j line (packets_in o.given link)
    given_then calls now (inl h) j link line e at tell = given_cut calls now h j link line e at tell
    given_then calls now (inr made) j link line e at tell = inr (given_whole (Turn now ∷ calls) made j link line e at tell)

    is_broken : (span : Span) (then : TappedMixer (SendingState (FarEnds O)) T → Setup → (ℕ → PayloadTypes) → List Call → Type 0) (w : BrokenTo popped_in then (setup c) (payload_types_at c) c.turns ports m) (now : ℕ)
        → ((j : ℕ) (link : O) (line : LegLine) → slice_get far.links.items j ≡ Some link → leg_at c.legs j ≡ Some line → o.tells → IsCutShort c (after_calls (setup c) w.serving.calls) now j line (packets_in o.given link))
        → (tells → PacedBy span w.serving.calls) → IsBrokenOff i o tells c span backs far.links.items
    unfolding broken_law
    is_broken span then w now cut paced =
        let calls = w.serving.calls in
        let takes : ℕ → Takes = pick [] took (length c.legs) took_at in
        let table = after_calls (setup c) calls in
        let given : ℕ → List (List ℕ) = λ j. given_by c table j in
        let is_of : IsOfConference popped_in c calls ports takes given = record {
          legs = omega (arith, many, many_ports);
          none = pick_none [] took (length c.legs) took_at;
          covers = λ j p e. (pick_holds [] took (length c.legs) took_at j (let low = slice_get_within ports j p e in omega (arith, low, many, many_ports))).covering p e;
          gave = λ j leg at. given_law c table j leg at;
        } in
        record {
          takes = takes;
          given = given;
          served = broken_law popped_in then c (payload_types_at c) ports m takes given w is_of;
          now = now;
          taken = λ t j leg e. (pick_holds [] took (length c.legs) took_at j (let low = slice_get_within backs j leg e in omega (arith, low, many, many_backs))).taken t leg e;
          gave = λ t j link line e at. cut j link line e at (tells_out t j (leg_within c.legs j line at));
          paced = λ t. let p = paced t in record { calls = calls; made = refl; began = p.0; behind = p.1; before = p.2; at = p.3; told = p.4; in_turn = p.5 };
        }

    -- however its turns ended
    breaks : (known : Type 0) (tick : ℕ) (span : Span) (same_tick : tick ≡ c.tick) (tell : tells → known) (t : LiveTurnsEnd LiveFault)
        → RanTo popped_in t (StandsPaced known tick span.first span.last (AreInTurn gives addresses span.pauses) gives) (StandsPaced known tick span.first span.last (AreInTurn gives addresses span.pauses) (HaltsThen halts)) (setup c) (payload_types_at c) c.turns ports m → IsBrokenOff i o tells c span backs far.links.items
    breaks known tick span same_tick tell Done v = is_broken span (StandsPaced known tick span.first span.last (AreInTurn gives addresses span.pauses) gives) (record { turns = c.turns; few = omega arith; serving = v.serving }) 0
        (λ j link line e at told. inl (given_whole v.serving.calls v.serving.made.0.made j link line e at told)) (at_ticks known tick span v.serving.calls same_tick tell v.serving.made.1 v.serving.made.2)
    breaks known tick span same_tick tell Closed v = is_broken span (StandsPaced known tick span.first span.last (AreInTurn gives addresses span.pauses) gives) (record { turns = v.turns; few = v.few; serving = v.serving }) 0
        (λ j link line e at told. inl (given_whole v.serving.calls v.serving.made.0.made j link line e at told)) (at_ticks known tick span v.serving.calls same_tick tell v.serving.made.1 v.serving.made.2)
    breaks known tick span same_tick tell (Faulted k) v = is_broken span (StandsPaced known tick span.first span.last (AreInTurn gives addresses span.pauses) gives) v 0
        (λ j link line e at told. inl (given_whole v.serving.calls v.serving.made.0.made j link line e at told)) (at_ticks known tick span v.serving.calls same_tick tell v.serving.made.1 v.serving.made.2)
    breaks known tick span same_tick tell (Stopped why) v = is_broken span (StandsPaced known tick span.first span.last (AreInTurn gives addresses span.pauses) (HaltsThen halts)) v v.serving.made.0.0
        (given_then v.serving.calls v.serving.made.0.0 v.serving.made.0.1) (at_ticks known tick span v.serving.calls same_tick tell v.serving.made.1 v.serving.made.2)

    ends_as : (known : Type 0) (tick : ℕ) (span : Span) (same_tick : tick ≡ c.tick) (tell : tells → known) (failed : (j : ℕ) (p : LivePort (Worker LinkItem (LinkLeg I) G)) → slice_get ports j ≡ Some p → p.failed ≡ true → has_fault (popped_in p.inlet) ≡ true) (t : LiveTurnsEnd LiveFault)
        → RanTo popped_in t (StandsPaced known tick span.first span.last (AreInTurn gives addresses span.pauses) gives) (StandsPaced known tick span.first span.last (AreInTurn gives addresses span.pauses) (HaltsThen halts)) (setup c) (payload_types_at c) c.turns ports m → WasFaulted t ports → WasStopped (IsUnsentIn (λ (x : SendingState (FarEnds O)) (why : LiveFault). IsUnsent o.faults x.outbound why)) t m → m.short ≡ false
        → EndsAs i o (stands tap) tells c span backs far.links.items far.listeners.items t
    unfolding done_law closed_law
    ends_as known tick span same_tick tell failed Done v f s long = is_call span served.Done v.serving.calls v.serving.made.0 (at_ticks known tick span v.serving.calls same_tick tell v.serving.made.1 v.serving.made.2) long (λ takes given w. done_law popped_in (StandsPaced known tick span.first span.last (AreInTurn gives addresses span.pauses) gives) c (payload_types_at c) ports m takes given v w) (λ takes given w. refl)
    ends_as known tick span same_tick tell failed Closed v f s long = is_call span served.Closed v.serving.calls v.serving.made.0 (at_ticks known tick span v.serving.calls same_tick tell v.serving.made.1 v.serving.made.2) long (λ takes given w. closed_law popped_in (StandsPaced known tick span.first span.last (AreInTurn gives addresses span.pauses) gives) c (payload_types_at c) ports m takes given v w) (λ takes given w. refl)
    ends_as known tick span same_tick tell failed (Faulted j) v f s long = (fault_at j f.0 f.1 (failed j f.0 f.1 f.2), breaks known tick span same_tick tell (Faulted j) v)
    ends_as known tick span same_tick tell failed (Stopped (Link j)) v f s long = (s, let t : LiveTurnsEnd LiveFault = Stopped (Link j) in breaks known tick span same_tick tell t v)
    ends_as known tick span same_tick tell failed (Stopped NoMemory) v f s long = inl (let t : LiveTurnsEnd LiveFault = Stopped NoMemory in breaks known tick span same_tick tell t v)

    -- or for want of memory, where the tap had none
    pub ends_told : (known : Type 0) (tick : ℕ) (span : Span) (same_tick : tick ≡ c.tick) (tell : tells → known) (failed : (j : ℕ) (p : LivePort (Worker LinkItem (LinkLeg I) G)) → slice_get ports j ≡ Some p → p.failed ≡ true → has_fault (popped_in p.inlet) ≡ true) (t : LiveTurnsEnd LiveFault) (short : Bool)
        → m.short ≡ short
        → RanTo popped_in t (StandsPaced known tick span.first span.last (AreInTurn gives addresses span.pauses) gives) (StandsPaced known tick span.first span.last (AreInTurn gives addresses span.pauses) (HaltsThen halts)) (setup c) (payload_types_at c) c.turns ports m → WasFaulted t ports → WasStopped (IsUnsentIn (λ (x : SendingState (FarEnds O)) (why : LiveFault). IsUnsent o.faults x.outbound why)) t m
        → EndsAs i o (stands tap) tells c span backs far.links.items far.listeners.items (ended_with short t)
    ends_told known tick span same_tick tell failed t true is v f s = inl (breaks known tick span same_tick tell t v)
    ends_told known tick span same_tick tell failed t false is v f s = ends_as known tick span same_tick tell failed t v f s is

-- ---- before the first turn
pub are_unused : {O K : Type 0} (o : outs.Ghosts O K) (tells : Type 0) (c : Conference) (ends : List O) → OpenEnds o tells c ends → length ends ≡ length c.legs → AreUnused o.given o.faults ends
are_unused o tells c ends are many j end e =
    let line = some_leg c.legs j (let low = slice_get_within ends j end e in omega (arith, low, many)) in
    let w = are j end e line.0 line.1 in
    (w.none, w.fresh)

pub are_new : {I : Type 0} (i : ins.Ghosts I) (tells : Type 0) (opened : ℕ → Bool) (c : Conference) (legs : List (LinkLeg I)) → OpenLegs i tells opened c legs → length legs ≡ length c.legs → AreNew (LegGave i) legs
are_new i tells opened c legs are many j leg e =
    let line = some_leg c.legs j (let low = slice_get_within legs j leg e in omega (arith, low, many)) in
    (are j leg e line.0 line.1).new

-- ---- outbound ends that have the ports of the first
module _ {O K : Type 0} (o : outs.Ghosts O K) (tells : Type 0) (c : Conference) (firsts backs : List O) (are : OpenEnds o tells c firsts) (same : map o.port backs ≡ map o.port firsts) where
  pub far_ends_many : length backs ≡ length firsts
  far_ends_many = sym (map_long o.port backs) ∙ (ap (λ (xs : List ℕ). length xs) same ∙ map_long o.port firsts)

  pub far_ends_at : AreAtPorts o.port c backs
  far_ends_at j back line there at =
      let first = some_there firsts j (let low = slice_get_within backs j back there in let many = far_ends_many in omega (arith, low, many)) in
      let one : o.port back ≡ o.port first.0 = cc (sym (map_there o.port backs j back there) ∙ (ap (λ (ps : List ℕ). slice_get ps j) same ∙ map_there o.port firsts j first.0 first.1)) in
      (are j first.0 first.1 line at).at ∙ ap Some (sym one)

-- ---- a call that did not begin
pub not_called : {I O T K : Type 0} (i : ins.Ghosts I) (o : outs.Ghosts O K) (stands : List Notice → Type 0) (tells : Type 0) (c : Conference) (span : Span) (opened : ℕ → Bool) (legs : List (LinkLeg I)) (links : List O) (called : CallReturn I O T) → OpenLegs i tells opened c legs → OpenEnds o tells c links
    → length legs ≡ length c.legs → length links ≡ length c.legs → called.turned ≡ Stopped NoMemory → called.legs.items ≡ legs → called.ends.items ≡ links → IsCalled i o stands tells c span opened called
not_called {I} {O} i o stands tells c span opened legs links called are_legs are_ends many many_ends turned is is_ends = record {
  many_legs = ap (λ (xs : List (LinkLeg _)). length xs) is ∙ many;
  many_ends = ap (λ (xs : List _). length xs) is_ends ∙ many_ends;
  legs_at = λ j leg line there at. (are_legs j leg (ap (λ (xs : List (LinkLeg _)). slice_get xs j) (sym is) ∙ there) line at).at;
  ends_at = λ j link line there at. (are_ends j link (ap (λ (xs : List _). slice_get xs j) (sym is_ends) ∙ there) line at).at;
  are_open = λ t j line p at e.
      let first = some_there legs j (let low = leg_within c.legs j line at in omega (arith, low, many)) in
      let w = are_legs j first.0 first.1 line at in
      let same : i.port first.0.arrivals.link ≡ p = cc (sym w.at ∙ e) in
      subst (λ (q : ℕ). opened q ≡ true) same (w.told t).2;
  ended = subst (λ (t : LiveTurnsEnd LiveFault). EndsAs i o stands tells c span called.legs.items called.ends.items called.listeners.items t) (sym turned)
      (inr (subst (λ (xs : List O). AreUnused o.given o.faults xs) (sym is_ends) (are_unused o tells c links are_ends many_ends)));
}

-- ---- a call that was made
-- the tap that took nothing, before the first turn
pub tells_first : {M T : Type 0} (mixes : M → Setup → (ℕ → PayloadTypes) → List Call → Type 0) (stands : T → List Notice → Type 0) (m : TappedMixer M T) (s : Setup) (payload_types : ℕ → PayloadTypes) (n : ℕ) → mixes m.mixer s payload_types (all_admitted n) → stands m.tap [] → TellsFor mixes stands m s payload_types (all_admitted n)
tells_first mixes stands m s payload_types n made none = record { made = made; told = λ long. subst (λ (past : List Notice). stands m.tap past) (sym (none_offered s n)) none }

pub call_made : {I O W G T K H : Type 0} (i : ins.Ghosts I) (o : outs.Ghosts O K) (k : clocks.Ghosts W H) (stands : T → List Notice → Type 0) (tells : Type 0) (c : Conference) (job : CallJob I (TappedMixer (SendingState (FarEnds O)) T) W G) (ended : JobReturn I (TappedMixer (SendingState (FarEnds O)) T) W) (tap : T) (opened later : ℕ → Bool) (firsts : List O)
    → IsOfLinks c → OpenLegs i tells opened c job.legs.items → length job.legs.items ≡ length c.legs → OpenEnds o tells c firsts → length firsts ≡ length c.legs
    → job.mixer.mixer.outbound.links.items ≡ firsts → HasAll o.tells (packets_in o.given) o.faults c job.mixer.mixer → stands job.mixer.tap [] → job.turns ≡ c.turns → job.tick ≡ c.tick → (tells → k.tells) → (tells → (p : ℕ) → later p ≡ opened p)
    → RanAs i k (TellsFor (GivesFor o.tells (packets_in o.given) o.faults) stands) (HaltsTold (GivesFor o.tells (packets_in o.given) o.faults) (HaltsGiving o.tells (packets_in o.given))) (λ (m : TappedMixer (SendingState (FarEnds O)) T). addresses_of o.port o.given m.mixer.outbound.links.items) (IsUnsentIn (λ (m : SendingState (FarEnds O)) (why : LiveFault). IsUnsent o.faults m.outbound why)) job ended
    → Learns stands ended.mixer.tap tap Shows
    → IsCalled i o (stands tap) tells c (record { pauses = k.pauses job.clock.now; first = k.moment job.clock.now; last = k.moment ended.clock.now }) later (record { turned = ended_with ended.mixer.short ended.turned; legs = ended.legs; ends = ended.mixer.mixer.outbound.links; listeners = ended.mixer.mixer.outbound.listeners; tap = tap })
call_made {I} {O} {W} {G} {T} i o k stands tells c job ended tap opened later firsts links are many are_ends many_ends is all none turns ticks tell still ran shows =
    let m = ended.mixer in
    let legs = job.legs.items in
    let backs = ended.legs.items in
    let span : Span = record { pauses = k.pauses job.clock.now; first = k.moment job.clock.now; last = k.moment ended.clock.now } in
    let gives : TappedMixer (SendingState (FarEnds O)) T → Setup → (ℕ → PayloadTypes) → List Call → Type 0 = TellsFor (GivesFor o.tells (packets_in o.given) o.faults) stands in
    let first : gives job.mixer (setup c) (payload_types_at c) (all_admitted (length c.legs)) = tells_first (GivesFor o.tells (packets_in o.given) o.faults) stands job.mixer (setup c) (payload_types_at c) (length c.legs) all none in
    let order : TappedMixer (SendingState (FarEnds O)) T → Setup → (ℕ → PayloadTypes) → List Call → Type 0 = AreInTurn gives (λ (x : TappedMixer (SendingState (FarEnds O)) T). addresses_of o.port o.given x.mixer.outbound.links.items) span.pauses in
    let gives_paced : TappedMixer (SendingState (FarEnds O)) T → Setup → (ℕ → PayloadTypes) → List Call → Type 0 = StandsPaced k.tells job.tick span.first span.last order gives in
    let halts_paced : TappedMixer (SendingState (FarEnds O)) T → Setup → (ℕ → PayloadTypes) → List Call → Type 0 = StandsPaced k.tells job.tick span.first span.last order (HaltsThen (HaltsTold (GivesFor o.tells (packets_in o.given) o.faults) (HaltsGiving o.tells (packets_in o.given)))) in
    let made : RanTo popped_in ended.turned gives_paced halts_paced (setup c) (payload_types_at c) c.turns ran.ports m = subst (λ (n : ℕ). RanTo popped_in ended.turned gives_paced halts_paced (setup c) (payload_types_at c) n ran.ports m) turns (ran.ran (setup c) (payload_types_at c) (sym many) links.stay first) in
    let same : map o.port m.mixer.outbound.links.items ≡ map o.port firsts =
    sym (ports_are o.port o.given m.mixer.outbound.links.items) ∙ (ran.addresses_are ∙ (ports_are o.port o.given job.mixer.mixer.outbound.links.items ∙ ap (λ (xs : List O). map o.port xs) is)) in
    let tells_out : tells → (j : ℕ) → j < length c.legs → o.tells = λ t j low.
    let line = some_leg c.legs j low in
    let end = some_there firsts j (omega (arith, low, many_ends)) in
    (are_ends j end.0 end.1 line.0 line.1).told t in
    record {
      many_legs = ran.many ∙ many;
      many_ends = far_ends_many o tells c firsts m.mixer.outbound.links.items are_ends same ∙ many_ends;
      legs_at = backs_at i tells opened c legs backs ran.ports are many ran.each ran.many ran.legs;
      ends_at = far_ends_at o tells c firsts m.mixer.outbound.links.items are_ends same;
      are_open = λ t j line p at e. still t p ∙ ports_open i tells opened c legs backs ran.ports are many ran.each ran.many ran.legs t j line p at e;
      ended = ends_told i tells opened c legs backs ran.ports are many ran.each ran.many ran.legs o tells_out stands m tap shows k.tells job.tick span ticks tell ran.failed ended.turned m.short refl made ran.faulted ran.stopped;
    }

-- all turns were made where the call ended so
pub ended_done : (short : Bool) (t : LiveTurnsEnd LiveFault) → ended_with short t ≡ Done → t ≡ Done
ended_done true t e = absurd (cc e)
ended_done false t e = e

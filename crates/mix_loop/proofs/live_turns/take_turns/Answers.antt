use Rattle.std.proofs.Common.{◌≡◌, ◌≤◌, ◌<◌, ◌+◌, ◌*◌, ◌^◌, ℕ, true, true≢false, List, length, inl, refl, ap, sym, subst, ◌∙◌, arith}
use Rattle.mixer_spec.specs.Table.{Call, after_calls, is_idle}
use Rattle.mix_loop.specs.Addresses.{Address, AreWithin, ports_of}
use Rattle.mix_loop.proofs.Addresses.{same_ports, within_later, within_then}
use Rattle.mix_loop.specs.Clocks.{AtTicks, RiseTo, StandsPaced}
use Rattle.mix_loop.specs.Order.{AreInTurn}
use Rattle.mix_loop.specs.Walks.{DoneTo, HaltsThen, IsPaused, is_spent}
use Rattle.mix_loop.proofs.Ordering.{order_kept, order_none, order_same, order_turn, paused_at_most}
use Rattle.mix_loop.proofs.Pausing.{all_at, count_same, due_more, first_due, is_told, passed_on, paused_more}
use Rattle.mix_loop.proofs.LiveWalking.{all_then_grew, all_true, at_more, at_none, becomes, none_grew, rise_on, turn_made}
use Rattle.mix_loop.proofs.live_turns.take_turns.Goals as goal

pub loop-k-init : goal.loop-k-init
loop-k-init g c =
    let paused = g.C.TurnClock.pauses c.args.clock.now in (
      c.requires.at,
      c.requires.legs,
      c.requires.none,
      (let same = c.clock_now-began.ensures.same_pauses in inl (omega (arith, same))),
      λ s payload_types legs v. (v, λ t. at_none c.args.tick c.clock_now-began.result (g.C.TurnClock.moment c.clock_now-began.new.self) v.calls v.turned, order_none g.M.MixerCalls.stands g.M.MixerCalls.addresses paused s payload_types c.args.mixer.now v.calls v.turned),
      none_grew g.I.Consumer.popped g.I.Consumer.began c.args.ports.now,
      (let is = c.clock_now-began.ensures.is in omega (arith, is)),
      (let is = c.clock_now-began.ensures.is in let rises = c.clock_now-began.ensures.rises in omega (arith, is, rises)),
      λ t early. (let is = c.clock_now-began.ensures.is in omega (arith, is)),
      (let e = c.clock_now-began.ensures in record { same_own = e.same_own; same_objects = e.same_objects; rises = e.rises; same_opened = e.same_opened; same_leads = e.same_leads }),
      refl,
      is_told _ c.first_tick-due.result c.first_tick-due.ensures,
      λ early. (let first = first_due c.clock_now-began.result _ c.first_tick-due.result (omega (arith, early)) c.first_tick-due.ensures in omega (arith, first)),
      (let same = c.clock_now-began.ensures.same_pauses in omega (arith, same)),
      within_later paused (paused + 0) (g.M.MixerCalls.addresses c.args.mixer.now) (omega arith) c.requires.given,
    )

pub returns-then-is_over-clause-ran : goal.returns-then-is_over-clause-ran
returns-then-is_over-clause-ran g c = λ s payload_types legs v.
    let b = c.loop-k.invariant.4 s payload_types legs v in
    let here : s.legs ≡ length c.loop-k.ports = omega (arith, legs, c.loop-k.auto.ports) in
    let w = c.gather_all.ensures.gathered s payload_types c.loop-k.k here b.0 in
    let v = w.0.serving in
    let paused = g.C.TurnClock.pauses c.args.clock.now in
    let order = order_same g.M.MixerCalls.stands g.M.MixerCalls.addresses paused s payload_types c.loop-k.mixer c.gather_all.new.mixer b.0.calls v.calls c.gather_all.ensures.keeps.addresses w.1 (v.turned ∙ sym b.0.turned) b.2 in
    let x = becomes g.I.Consumer.popped g.I.Consumer.began g.M.MixerCalls.stands (StandsPaced g.C.TurnClock.tells c.args.tick (g.C.TurnClock.moment c.args.clock.now) (g.C.TurnClock.moment c.loop-k.clock) (AreInTurn g.M.MixerCalls.stands g.M.MixerCalls.addresses paused) g.M.MixerCalls.stands) s payload_types c.loop-k.k c.gather_all.new.ports c.gather_all.new.mixer c.gather_all.new.mixer v (
      v.made,
      λ t. let at = subst (λ (ms : List ℕ). AtTicks c.args.tick c.clock_now-began.result ms × RiseTo (g.C.TurnClock.moment c.loop-k.clock) ms) (sym w.1.moments) (b.1 t) in
          record { began = c.clock_now-began.result; behind = c.loop-k.invariant.7; before = c.loop-k.invariant.6; at = at.0; told = at.1 },
      order,
    ) in
    record {
      turns = c.loop-k.k;
      few = omega (arith, c.loop-k-test.true);
      serving = x.0;
      closed = record {
        ends = all_at is_spent c.gather_all.new.ports (c.is_over.ensures.spent c.if-is_over.true);
        idle = subst (λ (calls : List Call). is_idle s (after_calls s calls) ≡ true) (sym x.1) (sym (c.is_over.ensures.idle c.if-is_over.true s payload_types v.calls v.made));
      };
    }

pub loop-k-preserved : goal.loop-k-preserved
loop-k-preserved g c =
    let keeps = c.gather_all.ensures.keeps in
    let same : length c.gather_all.new.ports ≡ length c.loop-k.ports = c.gather_all.auto.ports in
    let addresses = g.M.MixerCalls.addresses in
    let paused = g.C.TurnClock.pauses c.args.clock.now in
    let beat = c.clock_beat.result.pauses in
    let is_beat : beat ≡ g.C.TurnClock.pauses c.loop-k.clock = c.clock_beat.ensures ∙ c.clock_now-now.ensures.same_pauses in
    let counted : IsPaused c.loop-k.k paused beat = subst (λ (n : ℕ). IsPaused c.loop-k.k paused n) (sym is_beat) c.loop-k.invariant.3 in
    let upper : beat ≤ paused + c.loop-k.k = (let most = c.loop-k.invariant.13 in omega (arith, is_beat, most)) in
    let within : AreWithin (paused + c.loop-k.k) (addresses c.gather_all.new.mixer) = subst (λ (xs : List Address). AreWithin (paused + c.loop-k.k) xs) (sym keeps.addresses) c.loop-k.invariant.14 in
    let gives = c.turn.ensures.addresses in (
      c.gather_all.ensures.at,
      c.turn.ensures.legs ∙ (keeps.legs ∙ (c.loop-k.invariant.1 ∙ sym same)),
      (let turns = keeps.turns in omega (arith, c.turn.ensures.turns, turns, c.loop-k.invariant.2)),
      paused_more c.loop-k.k (g.C.TurnClock.pauses c.args.clock.now) (g.C.TurnClock.pauses c.loop-k.clock) (g.C.TurnClock.pauses c.sleep_until.new.self) c.loop-k.invariant.3
          (c.sleep_until.ensures.counted ∙ count_same (g.C.TurnClock.pauses c.clock_now-now.new.self) (g.C.TurnClock.pauses c.loop-k.clock) c.clock_now-now.ensures.same_pauses),
      λ s payload_types legs v.
          let b = c.loop-k.invariant.4 s payload_types legs v in
          let here : s.legs ≡ length c.loop-k.ports = omega (arith, legs, c.loop-k.auto.ports) in
          let w = c.gather_all.ensures.gathered s payload_types c.loop-k.k here b.0 in
          let x = turn_made g.I.Consumer.popped g.I.Consumer.began g.M.MixerCalls.stands s payload_types c.loop-k.k c.clock_now-now.result c.gather_all.new.ports c.gather_all.new.mixer c.turn.new.self (here ∙ sym same) c.in-None.ensures c.in-Ok.ensures.turned (c.is_over.ensures.goes_on c.if-is_over.false) w.0 in
          let gathered = w.0.serving in
          let order = order_same g.M.MixerCalls.stands addresses paused s payload_types c.loop-k.mixer c.gather_all.new.mixer b.0.calls gathered.calls keeps.addresses w.1 (gathered.turned ∙ sym b.0.turned) b.2 in
          let turned = order_turn g.M.MixerCalls.stands addresses paused s payload_types c.loop-k.k beat c.gather_all.new.mixer c.turn.new.self gathered.calls gathered.turned counted gives c.clock_now-now.result upper within (c.in-Ok.ensures.turned s payload_types gathered.calls gathered.made) order in (
            x.0,
            λ t. at_more c.args.tick c.clock_now-began.result c.loop-k.k (g.C.TurnClock.moment c.loop-k.clock) c.clock_now-now.result (g.C.TurnClock.moment c.sleep_until.new.self) w.0.serving.calls x.0.calls x.1 w.0.serving.turned
                (λ early. let s = c.loop-k.invariant.8 t early in let is = c.clock_now-now.ensures.is in let rises = c.clock_now-now.ensures.rises in omega (arith, s, is, rises))
                (let is = c.clock_now-now.ensures.is in let rises = c.clock_now-now.ensures.rises in omega (arith, is, rises))
                (let is = c.clock_now-now.ensures.is in let rises = c.sleep_until.ensures.rises in omega (arith, is, rises))
                (subst (λ (ms : List ℕ). AtTicks c.args.tick c.clock_now-began.result ms × RiseTo (g.C.TurnClock.moment c.loop-k.clock) ms) (sym w.1.moments) (b.1 t)),
            subst (λ (calls : List Call). AreInTurn g.M.MixerCalls.stands addresses paused c.turn.new.self s payload_types calls) (sym x.1) turned,
          ),
      all_then_grew g.I.Consumer.popped g.I.Consumer.began c.args.ports.now c.loop-k.ports c.gather_all.new.ports c.loop-k.invariant.5 c.gather_all.ensures.grew,
      (let before = c.loop-k.invariant.6 in let asked = c.clock_now-now.ensures.rises in let paused = c.sleep_until.ensures.rises in omega (arith, before, asked, paused)),
      c.loop-k.invariant.7,
      λ t early.
          let due = due_more c.loop-k.k c.args.tick c.clock_now-began.result c.clock_now-now.result c.loop-k.due c.next_tick-due.result c.requires.tick c.loop-k.invariant.12 c.next_tick-due.ensures early in
          let reached = c.sleep_until.ensures.reached t (is_told _ c.next_tick-due.result c.next_tick-due.ensures) in
          omega (arith, due, reached),
      passed_on g.C.TurnClock c.args.clock.now c.clock_now-now.new.self c.sleep_until.new.self
          (passed_on g.C.TurnClock c.args.clock.now c.loop-k.clock c.clock_now-now.new.self c.loop-k.invariant.9
          (let e = c.clock_now-now.ensures in record { same_own = e.same_own; same_objects = e.same_objects; rises = e.rises; same_opened = e.same_opened; same_leads = e.same_leads }))
          (let e = c.sleep_until.ensures in record { same_own = e.same_own; same_objects = e.same_objects; rises = e.rises; same_opened = e.same_opened; same_leads = e.same_leads }),
      same_ports beat (addresses c.gather_all.new.mixer) (addresses c.turn.new.self) gives ∙ (ap ports_of keeps.addresses ∙ c.loop-k.invariant.10),
      is_told _ c.next_tick-due.result c.next_tick-due.ensures,
      due_more c.loop-k.k c.args.tick c.clock_now-began.result c.clock_now-now.result c.loop-k.due c.next_tick-due.result c.requires.tick c.loop-k.invariant.12 c.next_tick-due.ensures,
      (let most = paused_at_most (paused + c.loop-k.k) (g.C.TurnClock.pauses c.clock_now-now.new.self) (g.C.TurnClock.pauses c.sleep_until.new.self)
          (let upper = c.loop-k.invariant.13 in let still = c.clock_now-now.ensures.same_pauses in omega (arith, upper, still)) c.sleep_until.ensures.counted in omega (arith, most)),
      within_later (paused + c.loop-k.k) (paused + (c.loop-k.k + 1)) (addresses c.turn.new.self) (omega arith)
          (within_then (paused + c.loop-k.k) beat (addresses c.gather_all.new.mixer) (addresses c.turn.new.self) upper within gives),
    )

pub returns-then-is_over-2-clause-ran : goal.returns-then-is_over-2-clause-ran
returns-then-is_over-2-clause-ran g c = λ s payload_types legs v.
    let b = c.loop-k.invariant.4 s payload_types legs v in
    let x = becomes g.I.Consumer.popped g.I.Consumer.began g.M.MixerCalls.stands (StandsPaced g.C.TurnClock.tells c.args.tick (g.C.TurnClock.moment c.args.clock.now) (g.C.TurnClock.moment c.loop-k.clock) (AreInTurn g.M.MixerCalls.stands g.M.MixerCalls.addresses (g.C.TurnClock.pauses c.args.clock.now)) g.M.MixerCalls.stands) s payload_types c.loop-k.k c.loop-k.ports c.loop-k.mixer c.loop-k.mixer b.0
    (b.0.made, λ t. record { began = c.clock_now-began.result; behind = c.loop-k.invariant.7; before = c.loop-k.invariant.6; at = (b.1 t).0; told = (b.1 t).1 }, b.2) in
    record {
      turns = c.loop-k.k;
      few = omega (arith, c.loop-k-test.false, c.loop-k.auto.k-end);
      serving = x.0;
      closed = record {
        ends = all_at is_spent c.loop-k.ports (c.is_over-2.ensures.spent c.if-is_over-2.true);
        idle = subst (λ (calls : List Call). is_idle s (after_calls s calls) ≡ true) (sym x.1) (sym (c.is_over-2.ensures.idle c.if-is_over-2.true s payload_types b.0.calls b.0.made));
      };
    }

pub returns-clause-ran : goal.returns-clause-ran
returns-clause-ran g c = λ s payload_types legs v.
    let last : c.loop-k.k ≡ c.args.turns = omega (arith, c.loop-k-test.false, c.loop-k.auto.k-end) in
    let b = c.loop-k.invariant.4 s payload_types legs v in
    let meets = StandsPaced g.C.TurnClock.tells c.args.tick (g.C.TurnClock.moment c.args.clock.now) (g.C.TurnClock.moment c.loop-k.clock) (AreInTurn g.M.MixerCalls.stands g.M.MixerCalls.addresses (g.C.TurnClock.pauses c.args.clock.now)) g.M.MixerCalls.stands in
    let x = becomes g.I.Consumer.popped g.I.Consumer.began g.M.MixerCalls.stands meets s payload_types c.loop-k.k c.loop-k.ports c.loop-k.mixer c.loop-k.mixer b.0
    (b.0.made, λ t. record { began = c.clock_now-began.result; behind = c.loop-k.invariant.7; before = c.loop-k.invariant.6; at = (b.1 t).0; told = (b.1 t).1 }, b.2) in
    subst (λ (k : ℕ). DoneTo g.I.Consumer.popped meets s payload_types k c.loop-k.ports c.loop-k.mixer) last (record {
      serving = x.0;
      goes_on = λ closed. true≢false (
          sym (subst (λ (calls : List Call). is_idle s (after_calls s calls) ≡ true) x.1 closed.idle)
          ∙ sym (c.is_over-2.ensures.goes_on c.if-is_over-2.false (all_true is_spent c.loop-k.ports closed.ends) s payload_types b.0.calls b.0.made)
          );
    })

-- a link failed before a turn
pub returns-in-Some-clause-ran : goal.returns-in-Some-clause-ran
returns-in-Some-clause-ran g c = λ s payload_types legs v.
    let b = c.loop-k.invariant.4 s payload_types legs v in
    let here : s.legs ≡ length c.loop-k.ports = omega (arith, legs, c.loop-k.auto.ports) in
    let w = c.gather_all.ensures.gathered s payload_types c.loop-k.k here b.0 in
    let v = w.0.serving in
    let paused = g.C.TurnClock.pauses c.args.clock.now in
    let order = order_same g.M.MixerCalls.stands g.M.MixerCalls.addresses paused s payload_types c.loop-k.mixer c.gather_all.new.mixer b.0.calls v.calls c.gather_all.ensures.keeps.addresses w.1 (v.turned ∙ sym b.0.turned) b.2 in
    let x = becomes g.I.Consumer.popped g.I.Consumer.began g.M.MixerCalls.stands (StandsPaced g.C.TurnClock.tells c.args.tick (g.C.TurnClock.moment c.args.clock.now) (g.C.TurnClock.moment c.loop-k.clock) (AreInTurn g.M.MixerCalls.stands g.M.MixerCalls.addresses paused) g.M.MixerCalls.stands) s payload_types c.loop-k.k c.gather_all.new.ports c.gather_all.new.mixer c.gather_all.new.mixer v (
      v.made,
      λ t. let at = subst (λ (ms : List ℕ). AtTicks c.args.tick c.clock_now-began.result ms × RiseTo (g.C.TurnClock.moment c.loop-k.clock) ms) (sym w.1.moments) (b.1 t) in
          record { began = c.clock_now-began.result; behind = c.loop-k.invariant.7; before = c.loop-k.invariant.6; at = at.0; told = at.1 },
      order,
    ) in
    record { turns = c.loop-k.k; few = omega (arith, c.loop-k-test.true); serving = x.0 }

-- a turn was not sent to its end
pub returns-in-Err-clause-ran : goal.returns-in-Err-clause-ran
returns-in-Err-clause-ran g c = λ s payload_types legs v.
    let b = c.loop-k.invariant.4 s payload_types legs v in
    let here : s.legs ≡ length c.loop-k.ports = omega (arith, legs, c.loop-k.auto.ports) in
    let w = c.gather_all.ensures.gathered s payload_types c.loop-k.k here b.0 in
    let v = w.0.serving in
    let paused = g.C.TurnClock.pauses c.args.clock.now in
    let beat = c.clock_beat.result.pauses in
    let is_beat : beat ≡ g.C.TurnClock.pauses c.loop-k.clock = c.clock_beat.ensures ∙ c.clock_now-now.ensures.same_pauses in
    let counted : IsPaused c.loop-k.k paused beat = subst (λ (n : ℕ). IsPaused c.loop-k.k paused n) (sym is_beat) c.loop-k.invariant.3 in
    let order = order_same g.M.MixerCalls.stands g.M.MixerCalls.addresses paused s payload_types c.loop-k.mixer c.gather_all.new.mixer b.0.calls v.calls c.gather_all.ensures.keeps.addresses w.1 (v.turned ∙ sym b.0.turned) b.2 in
    let x = becomes g.I.Consumer.popped g.I.Consumer.began g.M.MixerCalls.stands (StandsPaced g.C.TurnClock.tells c.args.tick (g.C.TurnClock.moment c.args.clock.now) (g.C.TurnClock.moment c.clock_now-now.new.self) (AreInTurn g.M.MixerCalls.stands g.M.MixerCalls.addresses paused) (HaltsThen g.M.MixerCalls.halted)) s payload_types c.loop-k.k c.gather_all.new.ports c.gather_all.new.mixer c.turn.new.self v (
      (c.clock_now-now.result, c.in-Err.ensures.halted s payload_types v.calls v.made),
      λ t. let at = subst (λ (ms : List ℕ). AtTicks c.args.tick c.clock_now-began.result ms × RiseTo (g.C.TurnClock.moment c.loop-k.clock) ms) (sym w.1.moments) (b.1 t) in
          record { began = c.clock_now-began.result; behind = c.loop-k.invariant.7; before = (let before = c.loop-k.invariant.6 in let rises = c.clock_now-now.ensures.rises in omega (arith, before, rises)); at = at.0; told = rise_on (g.C.TurnClock.moment c.loop-k.clock) (g.C.TurnClock.moment c.clock_now-now.new.self) _ c.clock_now-now.ensures.rises at.1 },
      order_kept g.M.MixerCalls.stands g.M.MixerCalls.addresses paused s payload_types c.loop-k.k beat c.gather_all.new.mixer c.turn.new.self v.calls v.turned counted c.turn.ensures.addresses order,
    ) in
    record { turns = c.loop-k.k; few = omega (arith, c.loop-k-test.true); serving = x.0 }

pub returns-in-Some-clause-grew : goal.returns-in-Some-clause-grew
returns-in-Some-clause-grew g c = all_then_grew g.I.Consumer.popped g.I.Consumer.began c.args.ports.now c.loop-k.ports c.gather_all.new.ports c.loop-k.invariant.5 c.gather_all.ensures.grew

pub returns-then-is_over-clause-grew : goal.returns-then-is_over-clause-grew
returns-then-is_over-clause-grew g c = all_then_grew g.I.Consumer.popped g.I.Consumer.began c.args.ports.now c.loop-k.ports c.gather_all.new.ports c.loop-k.invariant.5 c.gather_all.ensures.grew

pub returns-in-Err-clause-grew : goal.returns-in-Err-clause-grew
returns-in-Err-clause-grew g c = all_then_grew g.I.Consumer.popped g.I.Consumer.began c.args.ports.now c.loop-k.ports c.gather_all.new.ports c.loop-k.invariant.5 c.gather_all.ensures.grew

pub returns-in-Err-clause-passed : goal.returns-in-Err-clause-passed
returns-in-Err-clause-passed g c = passed_on g.C.TurnClock c.args.clock.now c.loop-k.clock c.clock_now-now.new.self c.loop-k.invariant.9
    (let e = c.clock_now-now.ensures in record { same_own = e.same_own; same_objects = e.same_objects; rises = e.rises; same_opened = e.same_opened; same_leads = e.same_leads })

pub returns-in-Some-clause-addresses : goal.returns-in-Some-clause-addresses
returns-in-Some-clause-addresses g c = let keeps = c.gather_all.ensures.keeps in ap ports_of keeps.addresses ∙ c.loop-k.invariant.10

pub returns-then-is_over-clause-addresses : goal.returns-then-is_over-clause-addresses
returns-then-is_over-clause-addresses g c = let keeps = c.gather_all.ensures.keeps in ap ports_of keeps.addresses ∙ c.loop-k.invariant.10

pub returns-in-Err-clause-addresses : goal.returns-in-Err-clause-addresses
returns-in-Err-clause-addresses g c =
    let keeps = c.gather_all.ensures.keeps in
    same_ports c.clock_beat.result.pauses (g.M.MixerCalls.addresses c.gather_all.new.mixer) (g.M.MixerCalls.addresses c.turn.new.self) c.turn.ensures.addresses ∙ (ap ports_of keeps.addresses ∙ c.loop-k.invariant.10)

pub returns-clause-paced : goal.returns-clause-paced
returns-clause-paced g c = λ t done.
    let last : c.loop-k.k ≡ c.args.turns = omega (arith, c.loop-k-test.false, c.loop-k.auto.k-end) in
    record {
      began = c.clock_now-began.result;
      behind = c.loop-k.invariant.7;
      before = c.loop-k.invariant.6;
      passed = subst (λ (k : ℕ). c.clock_now-began.result + k * c.args.tick < 2 ^ 47 → c.clock_now-began.result + k * c.args.tick ≤ g.C.TurnClock.moment c.loop-k.clock) last (c.loop-k.invariant.8 t);
    }

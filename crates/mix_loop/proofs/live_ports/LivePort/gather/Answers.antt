use Rattle.std.proofs.Common.{arith}
use Rattle.mix_loop.proofs.Advancing.{all_blocked, all_silent, begins, gathered_blocked, gathered_ended, gathered_failed, gathered_most, goes_seen, goes_still, silent_goes, then_grew}
use Rattle.mix_loop.proofs.live_ports.LivePort.gather.Goals as goal

pub returns-then-not-retry-clause-gathered : goal.returns-then-not-retry-clause-gathered
returns-then-not-retry-clause-gathered g c = gathered_blocked g.I.Consumer.popped g.M.MixerCalls.stands c.args.self.now c.retry.new.self c.args.mixer.now c.retry.new.mixer c.if-not-retry.ensures.retries

pub loop-init : goal.loop-init
loop-init g c =
    begins g.I.Consumer.popped g.I.Consumer.began g.M.MixerCalls.stands g.M.MixerCalls.legs g.M.MixerCalls.turns g.M.MixerCalls.addresses c.args.self.now c.retry.new.self c.args.mixer.now c.retry.new.mixer c.retry.ensures.leg c.retry.ensures.grew c.retry.ensures.keeps c.if-not-retry.ensures.retries

pub returns-then-self-clause-gathered : goal.returns-then-self-clause-gathered
returns-then-self-clause-gathered g c = gathered_ended g.I.Consumer.popped g.M.MixerCalls.stands c.loop.takes c.args.self.now c.loop.self c.args.mixer.now c.loop.mixer c.if-self.true c.loop.invariant.goes

pub returns-then-self-2-clause-gathered : goal.returns-then-self-2-clause-gathered
returns-then-self-2-clause-gathered g c = gathered_failed g.I.Consumer.popped g.M.MixerCalls.stands c.loop.takes c.args.self.now c.loop.self c.args.mixer.now c.loop.mixer c.if-self-2.true c.loop.invariant.goes

pub returns-then-takes-ge-MOST_TAKES-clause-gathered : goal.returns-then-takes-ge-MOST_TAKES-clause-gathered
returns-then-takes-ge-MOST_TAKES-clause-gathered g c = gathered_most g.I.Consumer.popped g.M.MixerCalls.stands c.loop.takes c.args.self.now c.loop.self c.args.mixer.now c.loop.mixer (omega (arith, c.if-takes-ge-MOST_TAKES.true)) c.loop.invariant.goes

pub loop-preserved-in-Going : goal.loop-preserved-in-Going
loop-preserved-in-Going g c =
    goes_still g.I.Consumer.popped g.I.Consumer.began g.M.MixerCalls.stands g.M.MixerCalls.legs g.M.MixerCalls.turns g.M.MixerCalls.addresses c.loop.takes c.args.self.now c.loop.self c.advance.new.self c.args.mixer.now c.loop.mixer c.advance.new.mixer c.loop.invariant
    c.advance.ensures.leg c.advance.ensures.grew c.advance.ensures.keeps c.in-Going.ensures.advances

pub loop-preserved-in-Seen : goal.loop-preserved-in-Seen
loop-preserved-in-Seen g c =
    goes_seen g.I.Consumer.popped g.I.Consumer.began g.M.MixerCalls.stands g.M.MixerCalls.legs g.M.MixerCalls.turns g.M.MixerCalls.addresses c.loop.takes c.args.self.now c.loop.self c.advance.new.self c.args.mixer.now c.loop.mixer c.advance.new.mixer c.loop.invariant
    c.advance.ensures.leg c.advance.ensures.grew c.advance.ensures.keeps c.in-Seen.ensures.advances

pub loop-preserved-in-Nothing : goal.loop-preserved-in-Nothing
loop-preserved-in-Nothing g c =
    goes_still g.I.Consumer.popped g.I.Consumer.began g.M.MixerCalls.stands g.M.MixerCalls.legs g.M.MixerCalls.turns g.M.MixerCalls.addresses c.loop.takes c.args.self.now c.loop.self c.advance.new.self c.args.mixer.now c.loop.mixer c.advance.new.mixer c.loop.invariant
    c.advance.ensures.leg c.advance.ensures.grew c.advance.ensures.keeps c.in-Nothing.ensures.advances

-- it had nothing before the turn
pub loop-preserved : goal.loop-preserved
loop-preserved g c =
    goes_seen g.I.Consumer.popped g.I.Consumer.began g.M.MixerCalls.stands g.M.MixerCalls.legs g.M.MixerCalls.turns g.M.MixerCalls.addresses c.loop.takes c.args.self.now c.loop.self c.advance.new.self c.args.mixer.now c.loop.mixer c.advance.new.mixer c.loop.invariant
    c.advance.ensures.leg c.advance.ensures.grew c.advance.ensures.keeps (silent_goes g.I.Consumer.popped g.M.MixerCalls.stands c.loop.self c.advance.new.self c.loop.mixer c.advance.new.mixer c.in-Silent.ensures.advances)

pub returns-then-self-turn-clause-gathered : goal.returns-then-self-turn-clause-gathered
returns-then-self-turn-clause-gathered g c =
    all_silent g.I.Consumer.popped g.I.Consumer.began g.M.MixerCalls.stands g.M.MixerCalls.legs g.M.MixerCalls.turns g.M.MixerCalls.addresses c.loop.takes c.args.self.now c.loop.self c.advance.new.self c.args.mixer.now c.loop.mixer c.advance.new.mixer c.loop.invariant
    c.in-Silent.ensures.advances.1

pub returns-in-Blocked-clause-gathered : goal.returns-in-Blocked-clause-gathered
returns-in-Blocked-clause-gathered g c =
    all_blocked g.I.Consumer.popped g.I.Consumer.began g.M.MixerCalls.stands g.M.MixerCalls.legs g.M.MixerCalls.turns g.M.MixerCalls.addresses c.loop.takes c.args.self.now c.loop.self c.advance.new.self c.args.mixer.now c.loop.mixer c.advance.new.mixer c.loop.invariant
    c.in-Blocked.ensures.advances

pub returns-then-self-turn-clause-grew : goal.returns-then-self-turn-clause-grew
returns-then-self-turn-clause-grew g c = then_grew g.I.Consumer.popped g.I.Consumer.began c.args.self.now c.loop.self c.advance.new.self c.loop.invariant.grew c.advance.ensures.grew

pub returns-in-Blocked-clause-grew : goal.returns-in-Blocked-clause-grew
returns-in-Blocked-clause-grew g c = then_grew g.I.Consumer.popped g.I.Consumer.began c.args.self.now c.loop.self c.advance.new.self c.loop.invariant.grew c.advance.ensures.grew

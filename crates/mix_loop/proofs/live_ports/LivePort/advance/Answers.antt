use Rattle.std.proofs.Common.{refl, sym, subst, arith}
use Rattle.live_leg.specs.Items.{Seen, End, Fault}
use Rattle.live_leg.specs.declared.paced_links.LinkStop.TheVariants.{Failed, Told}
use Rattle.mix_loop.specs.declared.live_offers.StepAnswer.{StepAnswer}
use Rattle.mix_loop.specs.LivePorts.{Advances}
use Rattle.mix_loop.proofs.Advancing.{goes_signal, goes_nothing, goes_silent, text_goes, text_grew}
use Rattle.mix_loop.proofs.Enough.{or_none}
use Rattle.mix_loop.proofs.live_ports.LivePort.advance.Goals as goal
use Rattle.std.specs.Prelude.{suc}
use Rattle.std.proofs.Math.Bool.{or-true as or_some}

pub returns-in-Text-clause-advances : goal.returns-in-Text-clause-advances
returns-in-Text-clause-advances g c =
    let P : StepAnswer → Type 0 = λ a. Advances g.I.Consumer.popped g.M.MixerCalls.stands c.args.self.now c.offer-taken.new.self c.args.mixer.now c.offer-taken.new.mixer a in
    subst P (sym c.after_offer.ensures)
    (text_goes g.I.Consumer.popped g.M.MixerCalls.stands c.args.self.now c.pull.new.self c.offer-taken.new.self c.args.mixer.now c.offer-taken.new.mixer c.offer-taken.result c.requires.empty c.in-Text.ensures.pulls
    c.offer-taken.ensures.only c.offer-taken.ensures.full c.offer-taken.ensures.offered)

pub returns-in-Text-clause-grew : goal.returns-in-Text-clause-grew
returns-in-Text-clause-grew g c = text_grew g.I.Consumer.popped g.I.Consumer.began c.args.self.now c.pull.new.self c.offer-taken.new.self c.pull.ensures.grew c.offer-taken.ensures.only

pub returns-in-Seen-clause-advances : goal.returns-in-Seen-clause-advances
returns-in-Seen-clause-advances g c =
    goes_signal g.I.Consumer.popped g.M.MixerCalls.stands c.args.self.now c.pull.new.self c.args.mixer.now suc Seen _ _ (λ k. refl) (λ n. omega arith) (sym (or_none c.args.self.now.ended)) c.requires.empty c.in-Seen.ensures.pulls

pub returns-in-Silent-clause-advances : goal.returns-in-Silent-clause-advances
returns-in-Silent-clause-advances g c = goes_silent g.I.Consumer.popped g.M.MixerCalls.stands c.args.self.now c.pull.new.self c.args.mixer.now c.requires.empty c.in-Silent.ensures.pulls

pub returns-in-Nothing-clause-advances : goal.returns-in-Nothing-clause-advances
returns-in-Nothing-clause-advances g c = goes_nothing g.I.Consumer.popped g.M.MixerCalls.stands c.args.self.now c.pull.new.self c.args.mixer.now c.requires.empty c.in-Nothing.ensures.pulls

pub returns-in-End-clause-advances : goal.returns-in-End-clause-advances
returns-in-End-clause-advances g c =
    goes_signal g.I.Consumer.popped g.M.MixerCalls.stands c.args.self.now c.pull.new.self c.args.mixer.now (λ n. n) End _ _ (λ k. refl) (λ n. omega arith) (sym (or_some c.args.self.now.ended)) c.requires.empty c.in-End.ensures.pulls

pub returns-in-Fault-clause-advances : goal.returns-in-Fault-clause-advances
returns-in-Fault-clause-advances g c =
    goes_signal g.I.Consumer.popped g.M.MixerCalls.stands c.args.self.now c.pull.new.self c.args.mixer.now (λ n. n) (Fault Failed) _ _ (λ k. refl) (λ n. omega arith) (sym (or_none c.args.self.now.ended)) c.requires.empty c.in-Fault.ensures.pulls

pub returns-in-Quit-clause-advances : goal.returns-in-Quit-clause-advances
returns-in-Quit-clause-advances g c =
    goes_signal g.I.Consumer.popped g.M.MixerCalls.stands c.args.self.now c.pull.new.self c.args.mixer.now (λ n. n) (Fault Told) _ _ (λ k. refl) (λ n. omega arith) (sym (or_none c.args.self.now.ended)) c.requires.empty c.in-Quit.ensures.pulls

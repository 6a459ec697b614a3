use Rattle.std.proofs.Common.{refl, sym, ◌∙◌, arith}
use Rattle.mix_loop.specs.Mixers.{Of}
use Rattle.mix_loop.proofs.Offering.{to_none, to_pull, to_end, to_kept, to_take, keeps_none, keeps_more, seats_none, seats_more, hand_sound, hand_seat}
use Rattle.mix_loop.proofs.ports.Port.gather.Goals as goal

pub loop-init : goal.loop-init
loop-init g c = (
  c.requires.sound,
  seats_none c.args.self.now,
  keeps_none g.M.MixerCalls.legs g.M.MixerCalls.turns g.M.MixerCalls.addresses c.args.mixer.now,
  λ s payload_types table first gave h a. to_none g.I.Inlet.stands (Of g.M.MixerCalls.stands payload_types) s c.args.leg c.args.now first gave _ table c.args.self.now c.args.mixer.now h a refl,
)

pub loop-preserved-then-not-self : goal.loop-preserved-then-not-self
loop-preserved-then-not-self g c = (
  c.pull.ensures.sound,
  seats_more c.args.self.now c.loop.self c.pull.new.self c.loop.invariant.1 c.pull.ensures.same,
  c.loop.invariant.2,
  λ s payload_types table first gave h a. to_pull g.I.Inlet.stands (Of g.M.MixerCalls.stands payload_types) s c.args.leg c.args.now first gave _ table c.loop.self c.pull.new.self c.loop.mixer (c.loop.invariant.3 s payload_types table first gave h a) (c.pull.ensures.pulled first),
)

pub offer-requires-clause-source : goal.offer-requires-clause-source
offer-requires-clause-source g c =
    let e = (c.loop.invariant.0.hand c.if-not-self.false).source in
    let f = c.loop.invariant.2.legs in
    omega (arith, e, f, c.requires.leg)

pub offer-requires-clause-text : goal.offer-requires-clause-text
offer-requires-clause-text g c = let h = c.loop.invariant.0.hand c.if-not-self.false in record { source = refl; text = h.text; utf8 = h.utf8 }

pub loop-preserved : goal.loop-preserved
loop-preserved g c = (
  hand_sound g.I.Inlet.good c.args.leg c.loop.self c.offer.new.self c.if-not-self.false c.loop.invariant.0 c.offer.ensures.only,
  seats_more c.args.self.now c.loop.self c.offer.new.self c.loop.invariant.1 (hand_seat c.loop.self c.offer.new.self c.offer.ensures.only),
  keeps_more g.M.MixerCalls.legs g.M.MixerCalls.turns g.M.MixerCalls.addresses c.args.mixer.now c.loop.mixer c.offer.new.mixer c.loop.invariant.2 c.offer.ensures.keeps,
  λ s payload_types table first gave h a. to_take g.I.Inlet.stands (Of g.M.MixerCalls.stands payload_types) s c.args.leg c.args.now first gave _ table c.loop.self c.loop.mixer c.offer.new.mixer (c.loop.invariant.3 s payload_types table first gave h a) c.if-not-self.false
      (c.loop.invariant.0.hand c.if-not-self.false).source c.offer.result (λ s table. c.offer.ensures.taken s payload_types table) c.if-not-offer.false c.offer.new.self c.offer.ensures.only c.offer.ensures.full,
)

pub returns-then-not-is_open-clause-gathered : goal.returns-then-not-is_open-clause-gathered
returns-then-not-is_open-clause-gathered g c = λ s payload_types table first gave h a.
    to_end g.I.Inlet.stands (Of g.M.MixerCalls.stands payload_types) s c.args.leg c.args.now first gave _ table c.loop.self c.loop.mixer (c.loop.invariant.3 s payload_types table first gave h a) c.if-not-self.true (sym c.is_open.ensures ∙ c.if-not-is_open.true)

pub returns-then-not-offer-clause-gathered : goal.returns-then-not-offer-clause-gathered
returns-then-not-offer-clause-gathered g c = λ s payload_types table first gave h a.
    to_kept g.I.Inlet.stands (Of g.M.MixerCalls.stands payload_types) s c.args.leg c.args.now first gave _ table c.loop.self c.loop.mixer c.offer.new.mixer (c.loop.invariant.3 s payload_types table first gave h a) c.if-not-self.false
    (c.loop.invariant.0.hand c.if-not-self.false).source c.offer.result (λ s table. c.offer.ensures.taken s payload_types table) c.if-not-offer.true c.offer.new.self c.offer.ensures.only c.offer.ensures.full

pub returns-then-not-offer-clause-sound : goal.returns-then-not-offer-clause-sound
returns-then-not-offer-clause-sound g c = hand_sound g.I.Inlet.good c.args.leg c.loop.self c.offer.new.self c.if-not-self.false c.loop.invariant.0 c.offer.ensures.only

pub returns-then-not-offer-clause-same : goal.returns-then-not-offer-clause-same
returns-then-not-offer-clause-same g c = seats_more c.args.self.now c.loop.self c.offer.new.self c.loop.invariant.1 (hand_seat c.loop.self c.offer.new.self c.offer.ensures.only)

pub returns-then-not-offer-clause-keeps : goal.returns-then-not-offer-clause-keeps
returns-then-not-offer-clause-keeps g c = keeps_more g.M.MixerCalls.legs g.M.MixerCalls.turns g.M.MixerCalls.addresses c.args.mixer.now c.loop.mixer c.offer.new.mixer c.loop.invariant.2 c.offer.ensures.keeps

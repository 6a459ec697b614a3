use Rattle.std.proofs.Common.{◌≡◌, ◌+◌, ℕ, suc, length, refl, sym, ◌∙◌, subst, arith}
use Rattle.mix_loop.specs.Mixers.{Of}
use Rattle.mix_loop.specs.Turns.{BeforeTo}
use Rattle.mix_loop.proofs.Turning.{fault_ends, over_ends, long_ends, stop_ends, turn_made}
use Rattle.mix_loop.proofs.turns.take_turns.Goals as goal

pub loop-k-init : goal.loop-k-init
loop-k-init g c = (
  c.requires.sound,
  c.requires.legs,
  c.requires.none,
  λ t l. absurd (omega (arith, l)),
  λ s payload_types firsts kn table n before. record { kn = kn; table = table; now = n; before = before },
)

pub settle_from-requires-clause-calm : goal.settle_from-requires-clause-calm
settle_from-requires-clause-calm g c = c.loop-k.invariant.3

pub returns-in-Over-clause-turned : goal.returns-in-Over-clause-turned
returns-in-Over-clause-turned g c = λ s payload_types firsts kn table n bf.
    let b = c.loop-k.invariant.4 s payload_types firsts kn table n bf in
    over_ends g.I.Inlet.stands (Of g.M.MixerCalls.stands payload_types) s firsts c.args.tick c.args.turns c.loop-k.k c.moment_of-now.result c.moment_of-now.ensures c.loop-k.ports c.settle_from.new.ports c.loop-k.mixer c.settle_from.new.mixer b
    (c.in-Over.ensures.settles s payload_types firsts b.kn b.table b.now b.before.settled)

pub returns-in-Faulted-clause-turned : goal.returns-in-Faulted-clause-turned
returns-in-Faulted-clause-turned g c = λ s payload_types firsts kn table n bf.
    let b = c.loop-k.invariant.4 s payload_types firsts kn table n bf in
    fault_ends g.I.Inlet.stands (Of g.M.MixerCalls.stands payload_types) s firsts c.args.tick c.args.turns c.loop-k.k c.moment_of-now.result c.moment_of-now.ensures c.loop-k.ports c.settle_from.new.ports c.loop-k.mixer c.settle_from.new.mixer b
    (c.in-Faulted.ensures.settles s payload_types firsts b.kn b.table b.now b.before.settled)

pub returns-in-Err-clause-turned : goal.returns-in-Err-clause-turned
returns-in-Err-clause-turned g c = λ s payload_types firsts kn table n bf.
    let b = c.loop-k.invariant.4 s payload_types firsts kn table n bf in
    stop_ends g.I.Inlet.stands (Of g.M.MixerCalls.stands payload_types) s firsts c.args.tick c.args.turns c.loop-k.k c.moment_of-now.result c.moment_of-now.ensures c.loop-k.ports c.settle_from.new.ports c.loop-k.mixer c.settle_from.new.mixer b
    (c.in-Going.ensures.settles s payload_types firsts b.kn b.table b.now b.before.settled) c.turn.new.self c.in-Err.fault

pub loop-k-preserved : goal.loop-k-preserved
loop-k-preserved g c =
    let legs = c.settle_from.ensures.keeps.legs in
    let turns = c.settle_from.ensures.keeps.turns in
    let same : length c.settle_from.new.ports ≡ length c.loop-k.ports = c.settle_from.auto.ports in (
      c.settle_from.ensures.sound,
      c.turn.ensures.legs ∙ (legs ∙ (c.loop-k.invariant.1 ∙ sym same)),
      omega (arith, c.turn.ensures.turns, turns, c.loop-k.invariant.2),
      c.settle_from.ensures.calm,
      λ s payload_types firsts kn table n bf.
          let b = c.loop-k.invariant.4 s payload_types firsts kn table n bf in
          let more : suc c.loop-k.k ≡ c.loop-k.k + 1 = omega arith in
          subst (λ (k : ℕ). BeforeTo g.I.Inlet.stands (Of g.M.MixerCalls.stands payload_types) s firsts c.args.tick c.args.turns k c.settle_from.new.ports c.turn.new.self) more
          (turn_made g.I.Inlet.stands (Of g.M.MixerCalls.stands payload_types) s firsts c.args.tick c.args.turns c.loop-k.k c.moment_of-now.result c.moment_of-now.ensures c.loop-k.ports c.settle_from.new.ports c.loop-k.mixer c.settle_from.new.mixer b
          (c.in-Going.ensures.settles s payload_types firsts b.kn b.table b.now b.before.settled) c.turn.new.self (λ s calls. c.in-Ok.ensures.turned s payload_types calls) (omega (arith, c.loop-k-test.true))),
    )

pub returns-in-Over-settle-clause-turned : goal.returns-in-Over-settle-clause-turned
returns-in-Over-settle-clause-turned g c = λ s payload_types firsts kn table n bf.
    let last : c.loop-k.k ≡ c.args.turns = omega (arith, c.loop-k-test.false, c.loop-k.auto.k-end) in
    let b = subst (λ (k : ℕ). BeforeTo g.I.Inlet.stands (Of g.M.MixerCalls.stands payload_types) s firsts c.args.tick c.args.turns k c.loop-k.ports c.loop-k.mixer) last (c.loop-k.invariant.4 s payload_types firsts kn table n bf) in
    over_ends g.I.Inlet.stands (Of g.M.MixerCalls.stands payload_types) s firsts c.args.tick c.args.turns c.args.turns c.moment_of.result c.moment_of.ensures c.loop-k.ports c.settle.new.ports c.loop-k.mixer c.settle.new.mixer b
    (c.in-Over-settle.ensures.settles s payload_types firsts b.kn b.table b.now b.before.settled)

pub returns-in-Faulted-settle-clause-turned : goal.returns-in-Faulted-settle-clause-turned
returns-in-Faulted-settle-clause-turned g c = λ s payload_types firsts kn table n bf.
    let last : c.loop-k.k ≡ c.args.turns = omega (arith, c.loop-k-test.false, c.loop-k.auto.k-end) in
    let b = subst (λ (k : ℕ). BeforeTo g.I.Inlet.stands (Of g.M.MixerCalls.stands payload_types) s firsts c.args.tick c.args.turns k c.loop-k.ports c.loop-k.mixer) last (c.loop-k.invariant.4 s payload_types firsts kn table n bf) in
    fault_ends g.I.Inlet.stands (Of g.M.MixerCalls.stands payload_types) s firsts c.args.tick c.args.turns c.args.turns c.moment_of.result c.moment_of.ensures c.loop-k.ports c.settle.new.ports c.loop-k.mixer c.settle.new.mixer b
    (c.in-Faulted-settle.ensures.settles s payload_types firsts b.kn b.table b.now b.before.settled)

pub returns-in-Going-settle-clause-turned : goal.returns-in-Going-settle-clause-turned
returns-in-Going-settle-clause-turned g c = λ s payload_types firsts kn table n bf.
    let last : c.loop-k.k ≡ c.args.turns = omega (arith, c.loop-k-test.false, c.loop-k.auto.k-end) in
    let b = subst (λ (k : ℕ). BeforeTo g.I.Inlet.stands (Of g.M.MixerCalls.stands payload_types) s firsts c.args.tick c.args.turns k c.loop-k.ports c.loop-k.mixer) last (c.loop-k.invariant.4 s payload_types firsts kn table n bf) in
    long_ends g.I.Inlet.stands (Of g.M.MixerCalls.stands payload_types) s firsts c.args.tick c.args.turns c.args.turns c.moment_of.result c.moment_of.ensures c.loop-k.ports c.settle.new.ports c.loop-k.mixer c.settle.new.mixer b refl
    (c.in-Going-settle.ensures.settles s payload_types firsts b.kn b.table b.now b.before.settled)

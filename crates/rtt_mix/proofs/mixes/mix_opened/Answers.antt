use Rattle.std.proofs.Common.{◌≡◌, ◌≤◌, Result, Ok, Err, List, length, sym, ap, subst, ◌∙◌, arith, rules, ◌^◌}
use Rattle.std.specs.Prelude.{All, IfOk}
use Rattle.std.proofs.lemmas.Nat.{mul-le}
use Rattle.mixer_spec.specs.Setups.{setup}
use Rattle.file_spec.specs.declared.conference_lines.LegLine.{LegLine}
use Rattle.rtpdump_io.specs.declared.items.DumpFault.{DumpFault}
use Rattle.rtt_base.specs.declared.errors.NoMemory as memory
use Rattle.file_spec.specs.Conferences.{meaning_of}
use Rattle.mix_loop.specs.declared.turns.MixEnd.{MixEnd}
use Rattle.mix_loop.specs.declared.turns.MixEnd.TheVariants as mixing
use Rattle.mix_loop.specs.Mixing.{StayAs}
use Rattle.mix_loop.specs.Turns.{UnlessUnsent}
use Rattle.leg.specs.Answers.{IsReadWell}
use Rattle.leg.proofs.OfConferences.{stays_law}
use Rattle.rtt_mix.specs.Mixings.{CanMix}
use Rattle.mixer.specs.States.{legs_of}
use Rattle.mixer_posts.specs.States.{SendingState}
use Rattle.mixer_posts.specs.Streams.{payload_types_at}
use Rattle.sent_log.specs.States.{State}
use Rattle.playback.specs.Written.{IsPlayable}
use Rattle.sent_log.specs.Files.{recordings_of}
use Rattle.rtt_mix.specs.declared.results.MixFault.TheVariants.{Dump, TooLong, NoMemory}
use Rattle.rtt_mix.specs.Viewed.{AreSent}
use Rattle.rtt_mix.proofs.Recorded.{HasMixed, all_playable, all_sent, logged, many}
use Rattle.rtt_mix.proofs.Answering.{all_kept, broken_refuses, is_answer, no_dump, of_legs, over_mixes, too_long_refuses}
use Rattle.rtt_mix.proofs.mixes.mix_opened.Goals as goal

if_ok : {A E : Type 0} (r : Result A E) (P Q : A → Type 0) → ((a : A) → P a → Q a) → IfOk r P → IfOk r Q
if_ok (Ok a) P Q f p = f a p
if_ok (Err e) P Q f p = p

if_both : {A E : Type 0} (r : Result A E) (P Q : A → Type 0) → IfOk r P → IfOk r Q → IfOk r (λ a. P a × Q a)
if_both (Ok a) P Q p q = (p, q)
if_both (Err e) P Q p q = p

pub mix_legs-mixing-requires : goal.mix_legs-mixing-requires
mix_legs-mixing-requires g c =
    let conference = c.args.conference.now in
    let lines = ap (λ (l : List LegLine). length l) c.as_slice-lines.ensures in
    let few = conference.kept.legs.most in
    let tick : c.from-tick.result ≤ 400 = (let k = conference.kept.tick in let e = c.from-tick.ensures in omega (arith, e, k.high)) in
    let turns : c.from-turns.result ≤ 5000000 = (let k = conference.kept.turns in let e = c.from-turns.ensures in omega (arith, e, k.high)) in
    let can : CanMix {M = SendingState State} (λ m. legs_of m.mixer) (λ m. m.mixer.turns) (2 ^ 32) c.args.legs c.as_slice-lines.result.now c.in-Ok.mixer c.from-tick.result c.from-turns.result =
    record {
      few = omega (arith, c.requires.legs, few, c.args.legs.ok.0);
      new = c.requires.new;
      lines_fit = omega (arith, lines, c.requires.legs, c.args.legs.ok.0);
      terminals = c.in-Ok.ensures.legs ∙ omega (arith, c.requires.legs, c.args.legs.ok.0);
      none = c.in-Ok.ensures.turns;
      turns_fit = turns;
      tick_fits = tick;
      in_time = λ k low. let most = mul-le k c.from-tick.result 5000000 400 (omega (arith, low, turns)) tick in omega (arith, most);
    } in
    search rules

pub made-requires-clause-sent : goal.made-requires-clause-sent
made-requires-clause-sent g c =
    let conference = meaning_of c.args.conference.now in
    let x = c.mix_legs-mixing.ensures.mixed (setup conference) (payload_types_at conference) c.in-Ok.ensures.stands (sym c.requires.legs) (subst (λ lines. StayAs (setup conference) lines) (sym c.as_slice-lines.ensures) (stays_law conference)) in
    let playable : All IsPlayable c.into_outbound-log.result = subst (λ (l : State). All IsPlayable l) (sym c.into_outbound-log.ensures) (all_playable conference c.mix_legs-mixing.result.mixer x.table
    (subst (λ (a : MixEnd DumpFault memory.NoMemory). UnlessUnsent a (HasMixed conference c.mix_legs-mixing.result.mixer x.table)) c.in-Over.is x.mixed)) in
    search rules

pub made-requires-clause-legs : goal.made-requires-clause-legs
made-requires-clause-legs g c =
    let conference = meaning_of c.args.conference.now in
    let x = c.mix_legs-mixing.ensures.mixed (setup conference) (payload_types_at conference) c.in-Ok.ensures.stands (sym c.requires.legs) (subst (λ lines. StayAs (setup conference) lines) (sym c.as_slice-lines.ensures) (stays_law conference)) in
    let mixed : HasMixed conference c.mix_legs-mixing.result.mixer x.table = subst (λ (a : MixEnd DumpFault memory.NoMemory). UnlessUnsent a (HasMixed conference c.mix_legs-mixing.result.mixer x.table)) c.in-Over.is x.mixed in
    let all : length c.into_outbound-log.result ≡ length c.args.conference.now.legs = ap (λ (l : State). length l) c.into_outbound-log.ensures ∙ many conference c.mix_legs-mixing.result.mixer x.table mixed in
    search rules

pub returns-in-Over-clause-mixes : goal.returns-in-Over-clause-mixes
returns-in-Over-clause-mixes g c = λ tells inputs count asks.
    let conference = meaning_of c.args.conference.now in
    let x = c.mix_legs-mixing.ensures.mixed (setup conference) (payload_types_at conference) c.in-Ok.ensures.stands (sym c.requires.legs) (subst (λ lines. StayAs (setup conference) lines) (sym c.as_slice-lines.ensures) (stays_law conference)) in
    let m = c.mix_legs-mixing.result.mixer in
    let mixed : HasMixed conference m x.table = subst (λ (a : MixEnd DumpFault memory.NoMemory). UnlessUnsent a (HasMixed conference m x.table)) c.in-Over.is x.mixed in
    let log = c.into_outbound-log.ensures in
    let sent = all_sent conference m x.table mixed in
    over_mixes conference inputs count c.made.result x.table m.outbound (many conference m x.table mixed)
    (is_answer _ g.S.Source.tells g.S.Source.left g.S.Source.faults g.S.Source.name conference c.from-tick.result c.from-turns.result c.mix_legs-mixing.result.mixing c.args.legs.items c.mix_legs-mixing.result.legs.items c.mix_legs-mixing.result.mixer
    x c.from-tick.ensures c.from-turns.ensures mixing.Over c.in-Over.is tells inputs asks)
    (logged conference m x.table mixed) (if_ok c.made.result _ _ (λ made f. f x.table (subst (λ (l : State). AreSent conference x.table (recordings_of l)) (sym log) sent)) c.made.ensures.views) (if_ok c.made.result _ _ (λ made f. f x.table (subst (λ (l : State). AreSent conference x.table (recordings_of l)) (sym log) sent)) c.made.ensures.sums)
    (if_ok c.made.result _ _ (λ made e. e ∙ log) c.made.ensures.outs) c.made.ensures.fault

pub returns-in-Over-clause-outs : goal.returns-in-Over-clause-outs
returns-in-Over-clause-outs g c =
    let conference = meaning_of c.args.conference.now in
    let x = c.mix_legs-mixing.ensures.mixed (setup conference) (payload_types_at conference) c.in-Ok.ensures.stands (sym c.requires.legs) (subst (λ lines. StayAs (setup conference) lines) (sym c.as_slice-lines.ensures) (stays_law conference)) in
    let m = c.mix_legs-mixing.result.mixer in
    let mixed : HasMixed conference m x.table = subst (λ (a : MixEnd DumpFault memory.NoMemory). UnlessUnsent a (HasMixed conference m x.table)) c.in-Over.is x.mixed in
    let log = c.into_outbound-log.ensures in
    if_both c.made.result _ _ (if_ok c.made.result _ _ (λ made e. ap (λ (l : State). length l) (e ∙ log) ∙ many conference m x.table mixed) c.made.ensures.outs) c.made.ensures.lawful

pub returns-in-Over-clause-sources : goal.returns-in-Over-clause-sources
returns-in-Over-clause-sources g c =
    let conference = meaning_of c.args.conference.now in
    let x = c.mix_legs-mixing.ensures.mixed (setup conference) (payload_types_at conference) c.in-Ok.ensures.stands (sym c.requires.legs) (subst (λ lines. StayAs (setup conference) lines) (sym c.as_slice-lines.ensures) (stays_law conference)) in
    all_kept _ g.S.Source.tells g.S.Source.left g.S.Source.faults g.S.Source.name conference c.from-tick.result c.from-turns.result c.mix_legs-mixing.result.mixing c.args.legs.items c.mix_legs-mixing.result.legs.items c.mix_legs-mixing.result.mixer
    x c.from-tick.ensures c.from-turns.ensures c.made.result (λ j fault e. absurd (no_dump c.made.result j fault c.made.ensures.fault e)) (λ j w. subst (λ (a : MixEnd DumpFault memory.NoMemory). IsReadWell a j) (sym c.in-Over.is) tt)

pub returns-in-Over-clause-leg : goal.returns-in-Over-clause-leg
returns-in-Over-clause-leg g c = of_legs c.made.result (length c.args.conference.now.legs) c.made.ensures.fault

pub returns-in-TooLong-clause-mixes : goal.returns-in-TooLong-clause-mixes
returns-in-TooLong-clause-mixes g c = λ tells inputs count asks.
    let conference = meaning_of c.args.conference.now in
    let x = c.mix_legs-mixing.ensures.mixed (setup conference) (payload_types_at conference) c.in-Ok.ensures.stands (sym c.requires.legs) (subst (λ lines. StayAs (setup conference) lines) (sym c.as_slice-lines.ensures) (stays_law conference)) in
    too_long_refuses conference inputs count x.table
    (is_answer _ g.S.Source.tells g.S.Source.left g.S.Source.faults g.S.Source.name conference c.from-tick.result c.from-turns.result c.mix_legs-mixing.result.mixing c.args.legs.items c.mix_legs-mixing.result.legs.items c.mix_legs-mixing.result.mixer
    x c.from-tick.ensures c.from-turns.ensures mixing.TooLong c.in-TooLong.is tells inputs asks)

pub returns-in-TooLong-clause-sources : goal.returns-in-TooLong-clause-sources
returns-in-TooLong-clause-sources g c =
    let conference = meaning_of c.args.conference.now in
    let x = c.mix_legs-mixing.ensures.mixed (setup conference) (payload_types_at conference) c.in-Ok.ensures.stands (sym c.requires.legs) (subst (λ lines. StayAs (setup conference) lines) (sym c.as_slice-lines.ensures) (stays_law conference)) in
    all_kept _ g.S.Source.tells g.S.Source.left g.S.Source.faults g.S.Source.name conference c.from-tick.result c.from-turns.result c.mix_legs-mixing.result.mixing c.args.legs.items c.mix_legs-mixing.result.legs.items c.mix_legs-mixing.result.mixer
    x c.from-tick.ensures c.from-turns.ensures (Err TooLong) (λ j fault e. absurd (cc e)) (λ j w. subst (λ (a : MixEnd DumpFault memory.NoMemory). IsReadWell a j) (sym c.in-TooLong.is) tt)

pub returns-in-Faulted-clause-mixes : goal.returns-in-Faulted-clause-mixes
returns-in-Faulted-clause-mixes g c = λ tells inputs count asks.
    let conference = meaning_of c.args.conference.now in
    let x = c.mix_legs-mixing.ensures.mixed (setup conference) (payload_types_at conference) c.in-Ok.ensures.stands (sym c.requires.legs) (subst (λ lines. StayAs (setup conference) lines) (sym c.as_slice-lines.ensures) (stays_law conference)) in
    let answer = is_answer _ g.S.Source.tells g.S.Source.left g.S.Source.faults g.S.Source.name conference c.from-tick.result c.from-turns.result c.mix_legs-mixing.result.mixing c.args.legs.items c.mix_legs-mixing.result.legs.items c.mix_legs-mixing.result.mixer
    x c.from-tick.ensures c.from-turns.ensures (mixing.Faulted c.in-Faulted.leg c.in-Faulted.fault) c.in-Faulted.is tells inputs asks in
    (answer.2, broken_refuses conference inputs count x.table c.in-Faulted.leg c.in-Faulted.fault answer)

pub returns-in-Faulted-clause-sources : goal.returns-in-Faulted-clause-sources
returns-in-Faulted-clause-sources g c =
    let conference = meaning_of c.args.conference.now in
    let x = c.mix_legs-mixing.ensures.mixed (setup conference) (payload_types_at conference) c.in-Ok.ensures.stands (sym c.requires.legs) (subst (λ lines. StayAs (setup conference) lines) (sym c.as_slice-lines.ensures) (stays_law conference)) in
    all_kept _ g.S.Source.tells g.S.Source.left g.S.Source.faults g.S.Source.name conference c.from-tick.result c.from-turns.result c.mix_legs-mixing.result.mixing c.args.legs.items c.mix_legs-mixing.result.legs.items c.mix_legs-mixing.result.mixer
    x c.from-tick.ensures c.from-turns.ensures (Err (Dump c.in-Faulted.leg c.in-Faulted.fault)) (λ j fault e. (let is = c.in-Faulted.is in cc (e, is))) (λ j w. subst (λ (a : MixEnd DumpFault memory.NoMemory). IsReadWell a j) (sym c.in-Faulted.is) w)

pub returns-in-Faulted-clause-leg : goal.returns-in-Faulted-clause-leg
returns-in-Faulted-clause-leg g c =
    let conference = meaning_of c.args.conference.now in
    let x = c.mix_legs-mixing.ensures.mixed (setup conference) (payload_types_at conference) c.in-Ok.ensures.stands (sym c.requires.legs) (subst (λ lines. StayAs (setup conference) lines) (sym c.as_slice-lines.ensures) (stays_law conference)) in
    x.within c.in-Faulted.leg c.in-Faulted.fault c.in-Faulted.is

pub returns-in-Stopped-clause-sources : goal.returns-in-Stopped-clause-sources
returns-in-Stopped-clause-sources g c =
    let conference = meaning_of c.args.conference.now in
    let x = c.mix_legs-mixing.ensures.mixed (setup conference) (payload_types_at conference) c.in-Ok.ensures.stands (sym c.requires.legs) (subst (λ lines. StayAs (setup conference) lines) (sym c.as_slice-lines.ensures) (stays_law conference)) in
    all_kept _ g.S.Source.tells g.S.Source.left g.S.Source.faults g.S.Source.name conference c.from-tick.result c.from-turns.result c.mix_legs-mixing.result.mixing c.args.legs.items c.mix_legs-mixing.result.legs.items c.mix_legs-mixing.result.mixer
    x c.from-tick.ensures c.from-turns.ensures (Err NoMemory) (λ j fault e. absurd (cc e)) (λ j w. absurd w)

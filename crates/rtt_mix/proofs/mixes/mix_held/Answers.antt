use Rattle.std.proofs.Common.{List, [], length, refl, ap, ◌∙◌}
use Rattle.rtt_io.specs.declared.mem_sources.SteadySource.{SteadySource}
use Rattle.rtt_io.specs.contracts.mem_sources.SteadySourceSource.TheImpl.{left-value}
use Rattle.file_spec.specs.declared.conference_lines.LegLine.{LegLine}
use Rattle.file_spec.specs.Conferences.{meaning_of}
use Rattle.rtt_mix.proofs.Handing.{asked_over, never_read, new_over, over_of}
use Rattle.rtt_mix.proofs.mixes.mix_held.Goals as goal

pub mix_opened-mixed-requires-clause-new : goal.mix_opened-mixed-requires-clause-new
mix_opened-mixed-requires-clause-new g c = λ κs lives.
    new_over (Unit {0}) left-value.it (meaning_of c.args.conference.now) c.args.inputs.items c.in-Ok.legs.items
    (over_of (Unit {0}) left-value.it (meaning_of c.args.conference.now) c.as_slice.result.now c.of-hearing.result c.input_limit-limit.result c.args.inputs.items c.in-Ok.legs.items c.as_slice.ensures c.of-hearing.ensures.value c.input_limit-limit.ensures c.in-Ok.ensures.over)

pub returns-clause-mixes : goal.returns-clause-mixes
returns-clause-mixes g c =
    c.mix_opened-mixed.ensures.mixes tt c.args.inputs.items c.requires (asked_over (Unit {0}) left-value.it (meaning_of c.args.conference.now) c.args.inputs.items c.in-Ok.legs.items
    (over_of (Unit {0}) left-value.it (meaning_of c.args.conference.now) c.as_slice.result.now c.of-hearing.result c.input_limit-limit.result c.args.inputs.items c.in-Ok.legs.items c.as_slice.ensures c.of-hearing.ensures.value c.input_limit-limit.ensures c.in-Ok.ensures.over) tt)

pub returns-clause-read : goal.returns-clause-read
returns-clause-read g c =
    never_read (λ (s : SteadySource). 0) (λ (s : SteadySource). []) (length c.args.conference.now.legs) c.mix_opened-mixed.result.mixed c.in-Ok.legs.items c.mix_opened-mixed.result.legs.items (λ s. refl) (c.in-Ok.ensures.legs ∙ ap (λ (ls : List LegLine). length ls) c.as_slice.ensures) c.mix_opened-mixed.ensures.legs
    c.mix_opened-mixed.ensures.sources c.mix_opened-mixed.ensures.leg

use Rattle.std.proofs.Common.{◌≡◌, ◌<◌, Result, Ok, Err, true, length, ap, sym, subst, ◌∙◌, arith, rules}
use Rattle.std.specs.Prelude.{OnOk, is_err}
use Rattle.file_spec.specs.declared.conference_lines.LegLine.{LegLine}
use Rattle.sent_log.specs.States.{AreLawful, State}
use Rattle.sent_log.specs.Files.{recording_at, recordings_of}
use Rattle.command_spec.specs.Outcomes.{AllStored}
use Rattle.rtt_mix.specs.Mixes.{outputs_of}
use Rattle.rtt_top.proofs.Saving.{recording_file, take_whole, unwritten, stored_next}
use Rattle.rtt_top.proofs.Taking.{parts_left}
use Rattle.rtt_top.proofs.mix.save_outputs.Goals as goal

none_ok : {A E : Type 0} (P : Type 0) (r : Result A E) → is_err r ≡ true → OnOk r P
none_ok P (Ok x) e = absurd (search (rules, e))
none_ok P (Err x) e = search rules

pub parts_of-parts-requires-clause-lawful : goal.parts_of-parts-requires-clause-lawful
parts_of-parts-requires-clause-lawful g c = λ κs within. subst (λ (s : State). AreLawful s) (sym c.log.ensures) c.requires.lawful

pub returns-then-is_err-clause-saved : goal.returns-then-is_err-clause-saved
returns-then-is_err-clause-saved g c = λ told. none_ok _ c.save_leg-saved.result (sym c.is_err.ensures.value ∙ c.if-is_err.true)

pub save_leg-saved-requires-clause-output : goal.save_leg-saved-requires-clause-output
save_leg-saved-requires-clause-output g c = λ κs within.
    let below = c.loop-number-test.true in
    let many = c.requires.as_many in
    subst (λ (s : State). c.loop-number.number < length s) (sym c.loop-number.invariant.same) (omega (arith, below, many))

pub returns-then-is_err-clause-unwritten : goal.returns-then-is_err-clause-unwritten
returns-then-is_err-clause-unwritten g c =
    let at = recording_file c.args.legs.now c.args.files.now c.loop-number.files c.loop-number.number c.index-legs-number.result c.as_str-name.result.now c.loop-number-test.true c.requires.as_many
    c.index-legs-number.is (c.as_str-name.ensures ∙ ap (λ (leg : LegLine). leg.output) (sym c.index-legs-number.is)) c.loop-number.invariant.same in
    unwritten g.W.World.tells (g.W.World.own_faults c.args.world.now) (g.W.World.object_faults c.args.world.now)
    (g.W.World.own_faults c.loop-number.world) (g.W.World.object_faults c.loop-number.world)
    (g.W.World.own_faults c.save_leg-saved.new.world) (g.W.World.object_faults c.save_leg-saved.new.world)
    (outputs_of c.args.legs.now (recordings_of c.args.files.now)) c.loop-number.number
    (record { name = c.as_str-name.result.now; octets = recording_at c.loop-number.files c.loop-number.number })
    (g.W.World.contents c.args.world.now) (g.W.World.contents c.loop-number.world) (g.W.World.contents c.save_leg-saved.new.world) c.save_leg-saved.result at
    c.loop-number.invariant.calls c.loop-number.invariant.objects c.loop-number.invariant.stored
    c.save_leg-saved.ensures.fault c.save_leg-saved.ensures.cause c.save_leg-saved.ensures.partly

pub loop-number-preserved : goal.loop-number-preserved
loop-number-preserved g c =
    let at = recording_file c.args.legs.now c.args.files.now c.loop-number.files c.loop-number.number c.index-legs-number.result c.as_str-name.result.now c.loop-number-test.true c.requires.as_many
    c.index-legs-number.is (c.as_str-name.ensures ∙ ap (λ (leg : LegLine). leg.output) (sym c.index-legs-number.is)) c.loop-number.invariant.same in
    record {
      same = c.save_leg-saved.ensures.same ∙ c.loop-number.invariant.same;
      stored = λ told. stored_next (outputs_of c.args.legs.now (recordings_of c.args.files.now)) c.loop-number.number
          (record { name = c.as_str-name.result.now; octets = recording_at c.loop-number.files c.loop-number.number })
          (g.W.World.contents c.args.world.now) (g.W.World.contents c.loop-number.world) (g.W.World.contents c.save_leg-saved.new.world) c.save_leg-saved.result at
          (sym c.is_err.ensures.value ∙ c.if-is_err.false) (c.loop-number.invariant.stored told) (c.save_leg-saved.ensures.saved told);
      calls = λ n. (let a = c.loop-number.invariant.calls n in let b = c.save_leg-saved.ensures.calls_never_fall n in omega arith);
      parts = λ told. parts_left g.W.Part.Sink.took c.args.files.now c.loop-number.parts.items c.take_part-part.new.parts.items c.loop-number.number c.take_part-part.result (c.loop-number.invariant.parts told) c.take_part-part.ensures;
      objects = λ n. (let a = c.loop-number.invariant.objects n in let b = c.save_leg-saved.ensures.objects_never_fall n in omega arith);
    }

pub returns-clause-saved : goal.returns-clause-saved
returns-clause-saved g c = λ told.
    subst (λ files. AllStored files (g.W.World.contents c.args.world.now) (g.W.World.contents c.loop-number.world))
    (take_whole c.args.legs.now (recordings_of c.args.files.now) c.loop-number.number c.loop-number-test.false) (c.loop-number.invariant.stored told)

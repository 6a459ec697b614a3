use Rattle.std.proofs.Common.{ℕ, List, Ok, Err, ap, sym, subst, ◌∙◌}
use Rattle.rtt_io.specs.Counts.{Rose}
use Rattle.file_spec.specs.declared.conference_lines.LegLine.{LegLine}
use Rattle.file_spec.specs.Conferences.{meaning_of}
use Rattle.cascade.specs.Splits.{recordings_of}
use Rattle.cascade.specs.declared.faults.CascadeFault.{CascadeFault}
use Rattle.cascade.specs.Cascades.{IsFirst, NoneFailed, Stops, fault_of}
use Rattle.cascade.proofs.Ending.{caused_since, fed_since, first_since, kept_since, made, none_failed, stops, unsplit_kept, unsplit_stops}
use Rattle.cascade.proofs.cascades.cascade.Goals as goal

pub returns-in-Err-clause-stops : goal.returns-in-Err-clause-stops
returns-in-Err-clause-stops g c =
    let own = g.W.World.own_faults in
    let objects = g.W.World.object_faults in
    unsplit_stops g.W.World.tells (λ n. Rose (own c.args.world.now n) (own c.split_recording.new.world n)) (λ n. Rose (objects c.args.world.now n) (objects c.split_recording.new.world n))
    (g.W.World.contents c.args.world.now) c.args.file.now c.args.ssrc (meaning_of c.args.conference.now) c.in-Err.fault c.in-Err.ensures.unsplit.cause

pub returns-in-Err-clause-none_failed : goal.returns-in-Err-clause-none_failed
returns-in-Err-clause-none_failed g c =
    let own = g.W.World.own_faults in
    let objects = g.W.World.object_faults in
    unsplit_kept g.W.World.tells (g.W.World.contents c.args.world.now) c.args.file.now c.args.ssrc (meaning_of c.args.conference.now) (objects c.args.world.now) (objects c.split_recording.new.world) c.in-Err.fault
    (Rose (own c.args.world.now c.args.file.now) (own c.split_recording.new.world c.args.file.now)) (Rose (objects c.args.world.now c.args.file.now) (objects c.split_recording.new.world c.args.file.now))
    c.in-Err.ensures.unsplit.cause c.in-Err.ensures.kept

pub returns-in-Err-clause-first : goal.returns-in-Err-clause-first
returns-in-Err-clause-first g c = c.in-Err.ensures.unsplit.first

pub returns-in-Ok-mix_fed-clause-made : goal.returns-in-Ok-mix_fed-clause-made
returns-in-Ok-mix_fed-clause-made g c = λ told.
    let held = g.W.World.contents in
    let conference = meaning_of c.args.conference.now in
    let mixed = c.in-Ok-mix_fed.mixed in
    made g.W.World.tells (held c.args.world.now) c.args.file.now c.args.ssrc conference c.in-Ok.splits c.in-Ok.ensures.splits mixed told
    (fed_since (held c.args.world.now) (held c.split_recording.new.world) (recordings_of c.in-Ok.splits) conference (Ok mixed) (c.split_recording.ensures.same_contents told)
    (c.in-Ok-mix_fed.ensures.mixes told (c.in-Ok.ensures.told told)))

pub returns-in-Ok-mix_fed-clause-none_failed : goal.returns-in-Ok-mix_fed-clause-none_failed
returns-in-Ok-mix_fed-clause-none_failed g c =
    let objects = g.W.World.object_faults in
    kept_since g.W.World.tells (objects c.args.world.now) (objects c.split_recording.new.world) (objects c.mix_fed.new.world) c.args.conference.now.legs (Ok c.in-Ok-mix_fed.mixed) c.in-Ok.ensures.kept c.in-Ok-mix_fed.ensures.kept

pub returns-clause-stops : goal.returns-clause-stops
returns-clause-stops g c =
    let held = g.W.World.contents in
    let own = g.W.World.own_faults in
    let objects = g.W.World.object_faults in
    let conference = meaning_of c.args.conference.now in
    let legs = c.args.conference.now.legs in
    let fault = c.in-Err-mix_fed.fault in
    let Call : List ℕ → Type 0 = λ n. Rose (own c.args.world.now n) (own c.mix_fed.new.world n) in
    let Object : List ℕ → Type 0 = λ n. Rose (objects c.args.world.now n) (objects c.mix_fed.new.world n) in
    subst (λ (f : CascadeFault). Stops g.W.World.tells Call Object (held c.args.world.now) c.args.file.now c.args.ssrc conference f)
    (sym (c.fault_of.ensures ∙ ap (λ (ls : List LegLine). fault_of ls fault) c.as_slice.ensures))
    (stops g.W.World.tells (held c.args.world.now) c.args.file.now c.args.ssrc conference c.in-Ok.splits c.in-Ok.ensures.splits Call Object fault
    (λ told. fed_since (held c.args.world.now) (held c.split_recording.new.world) (recordings_of c.in-Ok.splits) conference (Err fault) (c.split_recording.ensures.same_contents told)
    (c.in-Err-mix_fed.ensures.mixes told (c.in-Ok.ensures.told told)))
    (caused_since (own c.args.world.now) (own c.split_recording.new.world) (own c.mix_fed.new.world) (objects c.args.world.now) (objects c.split_recording.new.world) (objects c.mix_fed.new.world) legs (Err fault)
    c.split_recording.ensures.calls_never_fall c.in-Ok.ensures.kept c.in-Err-mix_fed.ensures.caused))

pub returns-clause-none_failed : goal.returns-clause-none_failed
returns-clause-none_failed g c =
    let held = g.W.World.contents in
    let objects = g.W.World.object_faults in
    let conference = meaning_of c.args.conference.now in
    let legs = c.args.conference.now.legs in
    let fault = c.in-Err-mix_fed.fault in
    subst (λ (f : CascadeFault). NoneFailed g.W.World.tells (held c.args.world.now) c.args.file.now c.args.ssrc conference (objects c.args.world.now) (objects c.mix_fed.new.world) (Err f))
    (sym (c.fault_of.ensures ∙ ap (λ (ls : List LegLine). fault_of ls fault) c.as_slice.ensures))
    (none_failed g.W.World.tells (held c.args.world.now) c.args.file.now c.args.ssrc conference c.in-Ok.splits c.in-Ok.ensures.splits (objects c.args.world.now) (objects c.mix_fed.new.world) fault
    (λ told. fed_since (held c.args.world.now) (held c.split_recording.new.world) (recordings_of c.in-Ok.splits) conference (Err fault) (c.split_recording.ensures.same_contents told)
    (c.in-Err-mix_fed.ensures.mixes told (c.in-Ok.ensures.told told)))
    (kept_since g.W.World.tells (objects c.args.world.now) (objects c.split_recording.new.world) (objects c.mix_fed.new.world) legs (Err fault) c.in-Ok.ensures.kept c.in-Err-mix_fed.ensures.kept))

pub returns-in-Ok-mix_fed-clause-opened : goal.returns-in-Ok-mix_fed-clause-opened
returns-in-Ok-mix_fed-clause-opened g c = λ n. c.in-Ok-mix_fed.ensures.opened n ∙ c.in-Ok.ensures.opened n

pub returns-clause-first : goal.returns-clause-first
returns-clause-first g c =
    let held = g.W.World.contents in
    let own = g.W.World.own_faults in
    let objects = g.W.World.object_faults in
    let legs = c.args.conference.now.legs in
    let fault = c.in-Err-mix_fed.fault in
    subst (λ (f : CascadeFault). IsFirst g.W.World.tells (held c.args.world.now) c.args.file.now legs (own c.args.world.now) (own c.mix_fed.new.world) f)
    (sym (c.fault_of.ensures ∙ ap (λ (ls : List LegLine). fault_of ls fault) c.as_slice.ensures))
    (first_since g.W.World.tells (held c.args.world.now) (held c.split_recording.new.world) c.args.file.now legs (own c.args.world.now) (own c.split_recording.new.world) (own c.mix_fed.new.world)
    (λ n. Rose (own c.split_recording.new.world n) (own c.mix_fed.new.world n)) (λ n. Rose (objects c.split_recording.new.world n) (objects c.mix_fed.new.world n)) fault
    c.in-Ok.ensures.opened c.split_recording.ensures.same_contents c.in-Err-mix_fed.ensures.caused c.in-Err-mix_fed.ensures.first)

use Rattle.std.proofs.Common.{◌≡◌, ◌++◌, ℕ, List, [], ◌∷◌, Err, refl, ap, sym, subst, ◌∙◌}
use Rattle.std.proofs.lemmas.List.{append-nil}
use Rattle.std.proofs.lemmas.List.Folds.{concat-append}
use Rattle.std.specs.List.{concat}
use Rattle.file_spec.specs.Conferences.{meaning_of}
use Rattle.command_spec.specs.declared.faults.Fault.{Fault}
use Rattle.sent_log.specs.Files.{recordings_of}
use Rattle.sent_log.specs.States.{AreLawful, State}
use Rattle.rtt_mix.specs.Mixes.{outputs_of}
use Rattle.rtt_top.specs.Conferences.{MakesOutputs, OutputsEnd, ending_name}
use Rattle.rtt_top.specs.Outside.{outside_at}
use Rattle.rtt_top.specs.Runs.{Ends}
use Rattle.rtt_top.proofs.Bridging.{mixing_makes, names_outputs, stopped_mixing}
use Rattle.rtt_top.proofs.Since.{ends_since, makes_since}
use Rattle.rtt_top.proofs.mix.mix_with.Goals as goal

pub returns-in-Err : goal.returns-in-Err
returns-in-Err g c = λ counts file command m.
    let old = outside_at g.W.World g.K.Sink c.args.world.now c.args.out.now in
    let new = outside_at g.W.World g.K.Sink c.mix.new.world c.args.out.now in
    let P : Fault → Type 0 = λ f. Ends command g.W.World.tells g.K.Sink.tells old new (ending_name file c.args.conference.now.legs (Err f)) (Err f) in
    subst P (sym c.fault_of_mixing.ensures)
    (stopped_mixing g.W.World.tells g.K.Sink.tells old new file command (meaning_of c.args.conference.now) c.in-Err.fault m c.in-Err.ensures.stops c.in-Err.ensures.none_failed c.in-Err.ensures.first ((λ shown. refl), c.in-Err.ensures.same_contents))

pub returns : goal.returns
returns g c = λ counts file command m.
    let old = outside_at g.W.World g.K.Sink c.args.world.now c.args.out.now in
    let mid = outside_at g.W.World g.K.Sink c.mix.new.world c.args.out.now in
    let new = outside_at g.W.World g.K.Sink c.make_outputs.new.world c.make_outputs.new.out in
    let legs = c.args.conference.now.legs in
    let mixed = c.in-Ok.mixed in
    let more = c.in-Ok-with_lines.more in
    let lines = c.args.lines in
    let printed = concat mixed.views.items ++ lines in
    let all : concat more.views.items ≡ printed = ap concat c.in-Ok-with_lines.ensures.views ∙ (concat-append mixed.views.items (lines ∷ []) ∙ ap (λ (l : List ℕ). concat mixed.views.items ++ l) (append-nil lines)) in
    let recordings = recordings_of mixed.outs in
    let ends = subst (λ ls. OutputsEnd g.W.World g.K.Sink c.mix.new.world c.args.out.now c.make_outputs.new.world c.make_outputs.new.out ls more c.make_outputs.result) c.as_slice.ensures c.make_outputs.ensures in
    let made = makes_since g.W.World.tells old.contents mid.contents command legs printed (outputs_of legs recordings) c.mix.ensures.same_contents
    (mixing_makes g.W.World.tells old.contents command (meaning_of c.args.conference.now) (concat mixed.views.items) lines recordings m (λ told. let made = c.in-Ok.ensures.made told in (made.lie, made.makes)) counts) in
    let Of : List ℕ → List (List ℕ) → Type 0 = λ p os. MakesOutputs g.W.World.tells mid.contents command legs p (outputs_of legs os) in
    ends_since command g.W.World.tells g.K.Sink.tells old mid new (ending_name file legs c.make_outputs.result) c.make_outputs.result
    (record { same = c.mix.ensures.same_contents; calls_rise = c.mix.ensures.calls_never_fall; objects_rise = c.mix.ensures.objects_never_fall }) refl refl c.in-Ok.ensures.none_failed c.in-Ok.ensures.opened
    (ends command (ending_name file legs) (names_outputs file legs)
    (subst (λ (p : List ℕ). Of p (recordings_of more.outs)) (sym all) (subst (λ os. Of printed os) (sym (ap recordings_of c.in-Ok-with_lines.ensures.outs)) made)))

pub make_outputs-requires-clause-lawful : goal.make_outputs-requires-clause-lawful
make_outputs-requires-clause-lawful g c = λ κs within. subst (λ (s : State). AreLawful s) (sym c.in-Ok-with_lines.ensures.outs) c.in-Ok.ensures.outs.1

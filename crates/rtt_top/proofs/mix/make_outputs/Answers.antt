use Rattle.std.proofs.Common.{◌≡◌, ◌++◌, take, ℕ, refl, sym, subst, ◌∙◌}
use Rattle.std.specs.Prelude.{OnOk, OnErr}
use Rattle.std.specs.List.{concat}
use Rattle.command_spec.specs.Outcomes.{AllStored}
use Rattle.sent_log.specs.Files.{recordings_of}
use Rattle.rtt_mix.specs.Mixes.{outputs_of}
use Rattle.rtt_top.specs.Outside.{outside_at}
use Rattle.rtt_top.proofs.Bridging.{printed_outputs, saved, unwritten_outputs}
use Rattle.rtt_top.proofs.mix.make_outputs.Goals as goal

pub returns-then-is_err : goal.returns-then-is_err
returns-then-is_err g c = λ command name names m.
    let old = outside_at g.W.World g.K.Sink c.args.world.now c.args.out.now in
    let new = outside_at g.W.World g.K.Sink c.save_outputs-saved.new.world c.args.out.now in
    unwritten_outputs g.W.World.tells g.K.Sink.tells old new command name c.args.legs.now (concat c.args.mixed.views.items) (recordings_of c.args.mixed.outs) c.save_outputs-saved.result names m refl
    (sym c.is_err.ensures.value ∙ c.if-is_err.true) c.save_outputs-saved.ensures.unwritten

pub returns : goal.returns
returns g c = λ command name names m.
    let old = outside_at g.W.World g.K.Sink c.args.world.now c.args.out.now in
    let new = outside_at g.W.World g.K.Sink c.save_outputs-saved.new.world c.print_views.new.out in
    let legs = c.args.legs.now in
    let printed = concat c.args.mixed.views.items in
    let recordings = recordings_of c.args.mixed.outs in
    let stored : g.W.World.tells → AllStored (outputs_of legs recordings) old.contents new.contents = λ told.
    saved c.save_outputs-saved.result (AllStored (outputs_of legs recordings) old.contents new.contents)
    (sym c.is_err.ensures.value ∙ c.if-is_err.false) (c.save_outputs-saved.ensures.saved told) in
    printed_outputs g.W.World.tells g.K.Sink.tells old new command name legs printed recordings c.print_views.result m stored
    c.print_views.ensures.fault c.print_views.ensures.cause
    (subst (λ views. g.K.Sink.tells → OnOk c.print_views.result (g.K.Sink.took c.print_views.new.out ≡ g.K.Sink.took c.args.out.now ++ concat views)) c.as_slice.ensures.value c.print_views.ensures.printed)
    (subst (λ views. g.K.Sink.tells → OnErr c.print_views.result ((n : ℕ) × (g.K.Sink.took c.print_views.new.out ≡ g.K.Sink.took c.args.out.now ++ take n (concat views)))) c.as_slice.ensures.value c.print_views.ensures.partly)

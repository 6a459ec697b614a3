use Rattle.std.proofs.Common.{true, ap, ◌∙◌}
use Rattle.stream_spec.specs.Ready.{chunk}
use Rattle.cascade.specs.declared.splitters.SourceRecording.{SourceRecording}
use Rattle.cascade.proofs.Splitting.{adds_joined, adds_apart, adds_first}
use Rattle.cascade.proofs.splitters.SourceRecording.add.Goals as goal
use Rattle.cascade.proofs.splitters.SourceRecording.add.Goals.{then-self+else-join+in_ok-write, else-self}

pub returns-then-join-clause-adds : goal.returns-then-join-clause-adds
returns-then-join-clause-adds c = adds_joined c.args.self.now c.join.new.self (chunk 0 c.args.ready c.args.text.now) c.if-self.true (c.join.ensures.joins c.if-join.true)

pub returns-clause-adds : goal.returns-clause-adds
returns-clause-adds c =
    let one = chunk 0 c.args.ready c.args.text.now in
    elim c.if-self.branch [
      | then-self+else-join+in_ok-write w ↦ adds_apart c.args.self.now w.join.new.self w.write.new.self c.begin.new.self one w.if-self.true (w.join.ensures.parts w.if-join.false) w.in_ok-write.ensures.writes
          (c.begin.ensures ∙ ap (λ (sp : SourceRecording). record sp { holds = true; ready = c.args.ready; text = c.args.text.now }) w.self-is)
      | else-self w ↦ adds_first c.args.self.now c.begin.new.self one w.if-self.false
          (c.begin.ensures ∙ ap (λ (sp : SourceRecording). record sp { holds = true; ready = c.args.ready; text = c.args.text.now }) w.self-is)
    ]

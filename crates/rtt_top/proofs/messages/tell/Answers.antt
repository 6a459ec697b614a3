use Rattle.report_spec.specs.Told.{told_name}
use Rattle.rtt_words.specs.Told.{fault_message}
use Rattle.rtt_top.proofs.Fronts.{front_of}
use Rattle.rtt_top.proofs.messages.tell.Goals as goal

pub returns-clause-front : goal.returns-clause-front
returns-clause-front g c = λ t.
    front_of (g.E.Sink.took c.args.err.now) (g.E.Sink.took c.write_message.new.err) (fault_message (told_name c.args.name.now) c.args.fault)
    c.write_message.result (c.write_message.ensures.written t) (c.write_message.ensures.partly t)

use Rattle.std.proofs.Common.{◌≡◌, ◌++◌, sym, subst}
use Rattle.std.specs.Prelude.{OnOk, OnErr}
use Rattle.command_spec.specs.declared.faults.Fault.{Fault}
use Rattle.report_spec.specs.Told.{told_name}
use Rattle.rtt_words.specs.Told.{fault_message}
use Rattle.rtt_io.specs.Fronts.{TakesFront}
use Rattle.rtt_top.proofs.messages.write_message.Goals as goal

pub returns-in-WrongWords-clause-partly : goal.returns-in-WrongWords-clause-partly
returns-in-WrongWords-clause-partly g c =
    subst (λ (f : Fault). g.E.Sink.tells → OnErr c.write_all.result (TakesFront (g.E.Sink.took c.args.err.now) (g.E.Sink.took c.write_all.new.self) (fault_message (told_name c.args.name.now) f))) (sym c.in-WrongWords.is)
    (subst (λ octets. g.E.Sink.tells → OnErr c.write_all.result (TakesFront (g.E.Sink.took c.args.err.now) (g.E.Sink.took c.write_all.new.self) octets)) c.help_text.ensures c.write_all.ensures.prefix)

pub returns-in-WrongWords-clause-written : goal.returns-in-WrongWords-clause-written
returns-in-WrongWords-clause-written g c =
    subst (λ (f : Fault). g.E.Sink.tells → OnOk c.write_all.result (g.E.Sink.took c.write_all.new.self ≡ g.E.Sink.took c.args.err.now ++ fault_message (told_name c.args.name.now) f)) (sym c.in-WrongWords.is)
    (subst (λ octets. g.E.Sink.tells → OnOk c.write_all.result (g.E.Sink.took c.write_all.new.self ≡ g.E.Sink.took c.args.err.now ++ octets)) c.help_text.ensures c.write_all.ensures.appended)

pub returns-in-CannotRead-clause-written : goal.returns-in-CannotRead-clause-written
returns-in-CannotRead-clause-written g c =
    subst (λ (f : Fault). g.E.Sink.tells → OnOk c.write_trouble-in-CannotRead.result (g.E.Sink.took c.write_trouble-in-CannotRead.new.err ≡ g.E.Sink.took c.args.err.now ++ fault_message (told_name c.args.name.now) f)) (sym c.in-CannotRead.is) c.write_trouble-in-CannotRead.ensures.written

pub returns-in-CannotRead-clause-partly : goal.returns-in-CannotRead-clause-partly
returns-in-CannotRead-clause-partly g c =
    subst (λ (f : Fault). g.E.Sink.tells → OnErr c.write_trouble-in-CannotRead.result (TakesFront (g.E.Sink.took c.args.err.now) (g.E.Sink.took c.write_trouble-in-CannotRead.new.err) (fault_message (told_name c.args.name.now) f))) (sym c.in-CannotRead.is) c.write_trouble-in-CannotRead.ensures.partly

pub returns-in-CannotPrint-clause-partly : goal.returns-in-CannotPrint-clause-partly
returns-in-CannotPrint-clause-partly g c =
    subst (λ (f : Fault). g.E.Sink.tells → OnErr c.write_all-in-CannotPrint.result (TakesFront (g.E.Sink.took c.args.err.now) (g.E.Sink.took c.write_all-in-CannotPrint.new.self) (fault_message (told_name c.args.name.now) f))) (sym c.in-CannotPrint.is) c.write_all-in-CannotPrint.ensures.prefix

pub returns-in-NoMemory-clause-partly : goal.returns-in-NoMemory-clause-partly
returns-in-NoMemory-clause-partly g c =
    subst (λ (f : Fault). g.E.Sink.tells → OnErr c.write_all-in-NoMemory.result (TakesFront (g.E.Sink.took c.args.err.now) (g.E.Sink.took c.write_all-in-NoMemory.new.self) (fault_message (told_name c.args.name.now) f))) (sym c.in-NoMemory.is) c.write_all-in-NoMemory.ensures.prefix

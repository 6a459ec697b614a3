use Rattle.std.proofs.Common.{sym, subst}
use Rattle.std.specs.Prelude.{OnErr}
use Rattle.command_spec.specs.declared.faults.Refusal.{Refusal}
use Rattle.command_spec.specs.Messages.{refusal_message}
use Rattle.report_spec.specs.Told.{told_name}
use Rattle.rtt_io.specs.Fronts.{TakesFront}
use Rattle.rtt_top.proofs.messages.write_refusal.Goals as goal

pub returns-in-AfterTurns-clause-partly : goal.returns-in-AfterTurns-clause-partly
returns-in-AfterTurns-clause-partly g c =
    subst (λ (r : Refusal). g.E.Sink.tells → OnErr c.write_counted.result (TakesFront (g.E.Sink.took c.args.err.now) (g.E.Sink.took c.write_counted.new.err) (refusal_message (told_name c.args.name.now) r))) (sym c.in-AfterTurns.is) c.write_counted.ensures.partly

use Rattle.std.proofs.Common.{Err, Result, refl, ap, sym, subst}
use Rattle.rtt_live.specs.declared.faults.LiveFault.{LiveFault}
use Rattle.rtt_live.specs.declared.reports.LiveReport.{LiveReport}
use Rattle.command_spec.specs.declared.faults.Fault.{Fault}
use Rattle.command_spec.specs.Messages.{Ending}
use Rattle.rtt_top.specs.Lives.{PrintsReport}
use Rattle.rtt_top.specs.Sinks.{Wrote, WrotePartly}
use Rattle.rtt_top.proofs.serve_modes.print_report.Goals as goal

pub returns-in-Ok : goal.returns-in-Ok
returns-in-Ok g c =
    let old = c.args.out.now in
    let new = c.print_all.new.out in
    subst (λ (s : Result LiveReport LiveFault). PrintsReport g.K.Sink s old new c.print_all.result) (sym c.in-Ok.is) (
      c.print_all.ensures.fault,
      c.print_all.ensures.cause,
      subst (λ views. Wrote g.K.Sink old new views c.print_all.result) c.parts.ensures c.print_all.ensures.printed,
      subst (λ views. WrotePartly g.K.Sink old new views c.print_all.result) c.parts.ensures c.print_all.ensures.partly,
    )

pub returns-in-Err : goal.returns-in-Err
returns-in-Err g c =
    subst (λ (s : Result LiveReport LiveFault). PrintsReport g.K.Sink s c.args.out.now c.args.out.now (Err c.fault_of_live.result)) (sym c.in-Err.is)
    (refl, ap (λ (f : Fault). let ending : Ending = Err f in ending) c.fault_of_live.ensures)

-- What is told of what was answered.
use Rattle.std.proofs.Common.{◌≡◌, Option, ap, ◌∙◌}
use Rattle.std.specs.Prelude.{IfOk, Result, Ok, Err}
use Rattle.report_spec.specs.declared.ports.PortFault.{PortFault}
use Rattle.report_spec.specs.Checking as checking
use Rattle.report_spec.specs.Ports.{unless_refused}
use Rattle.rtt_check.specs.declared.reports.Report.{Report}
use Rattle.rtt_check.specs.Reports.{told_of}

pub asked : {E : Type 0} (o found : Option PortFault) (tell : PortFault → checking.Report) (r : Result (Option Report) E) → found ≡ o
    → IfOk r (λ report. (whole : checking.Report) → told_of report whole ≡ unless_refused found tell whole) → IfOk r (λ report. (whole : checking.Report) → told_of report whole ≡ unless_refused o tell whole)
asked o found tell (Ok report) is f = λ whole. f whole ∙ ap (λ x. unless_refused x tell whole) is
asked o found tell (Err e) is f = tt

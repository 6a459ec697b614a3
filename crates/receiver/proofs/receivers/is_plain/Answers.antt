use Rattle.std.proofs.Common.{◌-◌, ◌≤◌, arith}
use Rattle.receiver.specs.Steps.{missing_then}
use Rattle.receiver.proofs.Plain.{plain_of}
use Rattle.receiver.proofs.receivers.is_plain.Goals as goal

pub returns : goal.returns
returns c =
    let few : c.args.missing - missing_then c.args.seen ≤ c.args.view.now.count = omega (arith, c.missing_before-before.ensures, c.saturating_sub.ensures, c.if-saturating_sub-view.false) in
    plain_of c.args.seen c.args.missing c.args.view.now c.repeats_new.result few c.repeats_new.ensures

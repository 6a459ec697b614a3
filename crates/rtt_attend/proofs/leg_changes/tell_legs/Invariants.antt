use Rattle.std.proofs.Common.{◌≡◌, length}
use Rattle.command_spec.specs.Attending.{told_legs}
use Rattle.rtt_attend.specs.Named.{says_in}
use Rattle.rtt_attend.proofs.leg_changes.tell_legs.Given as goal

abbrev pub invariant-loop-leg : goal.invariant-loop-leg
invariant-loop-leg l = (l.legs ≡ told_legs l.wait (says_in l.said) l.leg l.fn.legs) × (length l.legs ≡ length l.fn.legs)

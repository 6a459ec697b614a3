use Rattle.cascade.proofs.Gathering.{Closing}
use Rattle.cascade.proofs.dividers.close_all.Given as goal

abbrev pub invariant-loop-place : goal.invariant-loop-place
invariant-loop-place l = Closing l.initial.splitters l.splitters l.place

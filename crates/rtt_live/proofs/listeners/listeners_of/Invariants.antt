use Rattle.std.proofs.Common.{◌≡◌, length}
use Rattle.rtt_live.specs.Listeners.{NoneHeard}
use Rattle.rtt_live.proofs.listeners.listeners_of.Given as goal

abbrev pub invariant-loop-own : goal.invariant-loop-own
invariant-loop-own l = (length l.listeners.items ≡ l.own) × NoneHeard l.listeners.items

use Rattle.std.proofs.Common.{◌≡◌}
use Rattle.link_io.proofs.real_ends.RealIn.receive.Given as goal

abbrev pub invariant-loop : goal.invariant-loop
invariant-loop g l = record {
  same_moment : l.self.moment ≡ l.initial.self.moment;
  same_closed : l.self.closed ≡ l.initial.self.closed;
  same_port : l.self.port ≡ l.initial.self.port;
}

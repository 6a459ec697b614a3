use Rattle.std.proofs.Common.{List, ℕ, subst}
use Rattle.terminal.specs.Told.{AppendsSeen}
use Rattle.rtt_mix.proofs.showing.add_whole.Goals as goal
use Rattle.wire_spec.proofs.Plain.{on_ok}

pub returns : goal.returns
returns c = on_ok c.add_octets.result c.add_octets.ensures (λ e. record {
  shown = c.append_view.new.out;
  is_shown = subst (λ (before : List ℕ). AppendsSeen c.args.terminal.now c.args.view before c.append_view.new.out) c.new-octets.ensures c.in_ok-append_view.ensures.seen;
  added = e;
})

use Rattle.std.proofs.Common.{ap, arith}
use Rattle.view_spec.specs.declared.counts.Counts.{Counts}
use Rattle.rtt_mix.proofs.views.count.Goals as goal

pub returns-clause-with_it : goal.returns-clause-with_it
returns-clause-with_it c = λ n before.
    let few = c.requires.few in
    let packets = ap (λ (k : Counts). k.packets) c.counts-counts.ensures in
    let used = ap (λ (k : Counts). k.used) c.counts-counts.ensures in
    record {
      packets = omega (arith, before.packets, few.packets, few.used, packets, used);
      used = omega (arith, before.used, few.packets, few.used, packets, used);
      markers = omega (arith, before.markers, few.markers, c.markers_of.ensures);
    }

use Rattle.std.proofs.Common.{◌≡◌, ◌<◌, ◌∙◌, ◌+◌, List, ap, arith, length}
use Rattle.std.proofs.lemmas.List.{length-map, length_push}
use Rattle.file_spec.specs.Conferences.{meaning_of}
use Rattle.mixer.specs.Making.{source_counts}
use Rattle.example_gateway.specs.declared.legs.Leg.{Leg}
use Rattle.example_gateway.specs.Outputs.{counts_of}
use Rattle.example_gateway.proofs.Outputs.{more_counts}
use Rattle.example_gateway.proofs.gateways.Gateway.new.Goals as goal

pub loop-leg-preserved : goal.loop-leg-preserved
loop-leg-preserved c =
    let i = c.loop-leg.invariant in
    let leg = c.loop-leg.leg in
    let counts = source_counts (meaning_of c.args.conference.now) in
    let many : length counts ≡ length c.args.conference.now.legs = length-map c.args.conference.now.legs _ in
    let low : leg < length counts = omega (arith, many, c.loop-leg-test.true, c.len-leg-end.ensures) in
    record {
      legs = c.admit.ensures.legs ∙ i.legs;
      turns = c.admit.ensures.turns ∙ i.turns;
      sources = c.admit.ensures.sources ∙ i.sources;
      heard = ap (λ (ls : List Leg). length ls) c.in_ok-push.ensures.items ∙ (length_push c.loop-leg.legs.items c.in_ok-new.field-0 ∙ ap (λ n. n + 1) i.heard);
      written = ap counts_of c.in_ok-push-2.ensures.items
          ∙ more_counts c.loop-leg.outputs.items c.in_ok-output_to.field-0 counts leg low i.written c.in_ok-output_to.ensures;
    }

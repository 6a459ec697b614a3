use Rattle.std.proofs.Common.{arith}
use Rattle.wire_spec.specs.Dump.{sent_item}
use Rattle.rtt_show.specs.Signs.{AreSigns}
use Rattle.rtpdump_io.proofs.Fronts.{front_all}
use Rattle.rtt_show.proofs.Signing.{signs_more}
use Rattle.rtt_show.proofs.Steps.{step_of}
use Rattle.rtt_show.proofs.signs.signs_of.Goals as goal

pub take-requires-clause-few : goal.take-requires-clause-few
take-requires-clause-few c =
    let s = step_of c.loop-octets.rest.now c.in-Some.field-0-0 c.in-Some.octets.now c.in-Some.more.now c.in-Some.ensures.record c.in-Some.ensures.shorter in
    let e = s.some c.loop-octets.signs.packets c.loop-octets.invariant.left in
    omega (arith, e)

pub loop-octets-preserved : goal.loop-octets-preserved
loop-octets-preserved c =
    let s = step_of c.loop-octets.rest.now c.in-Some.field-0-0 c.in-Some.octets.now c.in-Some.more.now c.in-Some.ensures.record c.in-Some.ensures.shorter in
    let old = c.loop-octets.signs in
    let new = c.take.new.self in
    record {
      filled = c.take.ensures.filled;
      left = s.less old.packets new.packets (omega (arith, c.take.ensures.packets)) c.loop-octets.invariant.left;
      signs = λ all a.
          s.more (AreSigns old) (AreSigns new)
          (λ came h. signs_more old new c.payload_of.result.now came (sent_item (c.in-Some.field-0-0, c.in-Some.octets.now)) h c.take.ensures.more c.take.ensures.packets c.payload_of.ensures)
          all (c.loop-octets.invariant.signs all a);
    }

pub returns : goal.returns
returns c = λ all a.
    front_all (AreSigns c.loop-octets.signs) c.loop-octets.rest.now all c.in_default.ensures.record (c.loop-octets.invariant.signs all a)

use Rattle.std.proofs.Common.{◌≡◌, ℕ, ◌+◌, List, length, refl, ap, ◌∙◌, arith}
use Rattle.wire_spec.specs.Dump.{Item, sent_item}
use Rattle.report_spec.specs.Guesses.{accepted}
use Rattle.rtpdump_io.proofs.Fronts.{front_none, front_all}
use Rattle.rtt_show.specs.Finds.{one_if}
use Rattle.rtt_show.proofs.Showing.{accepted_more}
use Rattle.rtt_show.proofs.Steps.{all_left, step_of}
use Rattle.rtt_show.proofs.likes.accepted_of.Goals as goal

pub loop-octets-init : goal.loop-octets-init
loop-octets-init c = record {
  left = all_left c.args.records.now c.requires;
  found = λ all a. front_none (λ came. 0 ≡ length (accepted c.args.ssrc c.args.payload_types came)) c.args.records.now all refl a;
}

pub overflow_add-number : goal.overflow_add-number
overflow_add-number c = omega (arith, c.loop-octets.invariant.left.few, c.one_if-number.ensures.small)

pub loop-octets-preserved : goal.loop-octets-preserved
loop-octets-preserved c =
    let i = c.loop-octets.invariant in
    let s = step_of c.loop-octets.rest.now c.in-Some.field-0-0 c.in-Some.octets.now c.in-Some.more.now c.in-Some.ensures.record c.in-Some.ensures.shorter in
    let old = c.loop-octets.number in
    let Counts : ℕ → List Item → Type 0 = λ n came. n ≡ length (accepted c.args.ssrc c.args.payload_types came) in
    record {
      left = s.less old (old + c.one_if-number.result) (omega (arith, c.one_if-number.ensures.small)) i.left;
      found = λ all a.
          s.more (Counts old) (Counts (old + c.one_if-number.result))
          (λ came e. accepted_more c.args.ssrc c.args.payload_types old (old + c.one_if-number.result) came (sent_item (c.in-Some.field-0-0, c.in-Some.octets.now)) e (ap (λ n. old + n) (c.one_if-number.ensures.value ∙ ap one_if c.is_accepted-accepted.ensures)))
          all (i.found all a);
    }

pub returns-clause-number : goal.returns-clause-number
returns-clause-number c = λ all a.
    front_all (λ came. c.loop-octets.number ≡ length (accepted c.args.ssrc c.args.payload_types came)) c.loop-octets.rest.now all c.in_default.ensures.record (c.loop-octets.invariant.found all a)

pub returns-clause-few : goal.returns-clause-few
returns-clause-few c = omega (arith, c.loop-octets.invariant.left.few)

use Rattle.std.proofs.Common.{◌+◌, arith, subst}
use Rattle.std.specs.Prelude.{Result}
use Rattle.wire_spec.specs.declared.faults.TextFault.{TextFault}
use Rattle.rtt_show.specs.declared.origins.Origin.{Origin}
use Rattle.rtt_show.specs.Surveys.{IsFew, IsSurvey, SurveysMore}
use Rattle.rtpdump_io.proofs.Fronts.{front_none, front_all}
use Rattle.rtt_show.proofs.Steps.{all_left, some_few, step_of}
use Rattle.rtt_show.proofs.Surveying.{survey_more}
use Rattle.rtt_show.proofs.surveys.survey_of.Goals as goal

pub loop-at-init : goal.loop-at-init
loop-at-init c = record {
  few = (0, all_left c.args.records.now c.requires, c.new-found.ensures.few);
  found = λ all a. front_none (IsSurvey c.args.payload_types c.args.ssrc c.new-found.result) c.args.records.now all (c.new-found.ensures.nothing c.args.payload_types c.args.ssrc) a;
}

pub take-requires : goal.take-requires
take-requires c = some_few (λ n. IsFew n c.loop-at.found) (step_of c.loop-at.rest.now c.in-Some.at c.in-Some.octets.now c.in-Some.more.now c.in-Some.ensures.record c.in-Some.ensures.shorter) c.loop-at.invariant.few

pub loop-at-preserved : goal.loop-at-preserved
loop-at-preserved c =
    let i = c.loop-at.invariant in
    let s = step_of c.loop-at.rest.now c.in-Some.at c.in-Some.octets.now c.in-Some.more.now c.in-Some.ensures.record c.in-Some.ensures.shorter in
    let old = c.loop-at.found in
    let new = c.take.new.self in
    record {
      few = (i.few.0 + 1, s.less i.few.0 (i.few.0 + 1) (omega arith) i.few.1, c.in_ok-take.ensures.few i.few.0 i.few.2);
      found = λ all a.
          s.more (IsSurvey c.args.payload_types c.args.ssrc old) (IsSurvey c.args.payload_types c.args.ssrc new)
          (λ came h. survey_more c.args.payload_types c.args.ssrc old new came c.in-Some.at c.in-Some.octets.now h (subst (λ (read : Result Origin TextFault). SurveysMore old c.in-Some.at read new) c.read_source-read.ensures c.in_ok-take.ensures.more))
          all (i.found all a);
    }

pub returns : goal.returns
returns c = λ all a.
    front_all (IsSurvey c.args.payload_types c.args.ssrc c.loop-at.found) c.loop-at.rest.now all c.in_default.ensures.record (c.loop-at.invariant.found all a)

use Rattle.std.proofs.Common.{◌∙◌, ◌+◌, List, ap, sym, subst, length}
use Rattle.std.proofs.lemmas.List.{length_push}
use Rattle.packetizer.specs.OutputStates.{State}
use Rattle.file_spec.specs.Conferences.{meaning_of}
use Rattle.rtt_live.specs.Outputs.{NoneSent}
use Rattle.rtt_live.proofs.Writing.{sent_none_more}
use Rattle.rtt_live.proofs.outputs.outputs_of.Goals as goal

pub loop-own-preserved : goal.loop-own-preserved
loop-own-preserved c =
    let conference = meaning_of c.args.conference.now in
    let items = c.in_ok-push.ensures.items in
    let now = c.loop-own.outputs.items in
    let o = c.in_ok-output_of.field-0 in
    let i = c.loop-own.invariant in (
      ap (λ (xs : List State). length xs) items ∙ (length_push now o ∙ ap (λ n. n + 1) i.0),
      subst (λ (xs : List State). NoneSent conference xs) (sym items) (sent_none_more conference now o c.loop-own.own i.0 i.1 c.in_ok-output_of.ensures),
    )

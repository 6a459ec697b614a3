use Rattle.std.proofs.Common.{ℕ, List, arith, subst}
use Rattle.rtt_times.specs.Found.{AddsTexts}
use Rattle.rtt_times.proofs.Telling.{texted_end, texted_more}
use Rattle.rtt_times.proofs.times.add_all_texts.Goals as goal

pub loop-index-preserved : goal.loop-index-preserved
loop-index-preserved c =
    let stream = c.index-streams-index.result in
    let its = c.index-named-index.result in
    texted_more c.args.payload_types c.args.streams.now c.loop-index.index stream c.args.named.now its c.args.lines.now c.loop-index.lines c.add_sources.new.lines (omega arith) (omega arith) c.index-streams-index.is c.index-named-index.is
    (subst (λ (octets : List ℕ). AddsTexts stream.name c.args.payload_types its.kept.items octets c.loop-index.lines c.add_sources.new.lines) c.as_slice.ensures
    (subst (λ (ss : List ℕ). AddsTexts stream.name c.args.payload_types ss c.as_slice.result.now c.loop-index.lines c.add_sources.new.lines) c.as_slice-sources.ensures.value c.in_ok-add_sources.ensures)) c.loop-index.invariant

pub returns : goal.returns
returns c =
    texted_end c.args.payload_types c.args.streams.now c.loop-index.index c.args.named.now c.args.lines.now c.loop-index.lines (omega arith) c.loop-index.invariant

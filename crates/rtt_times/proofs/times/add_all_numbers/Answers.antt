use Rattle.std.proofs.Common.{List, [], ◌∷◌, ◌+◌, ap, arith, length, length-append, subst, sym, ◌∙◌}
use Rattle.std.specs.Prelude.{All}
use Rattle.std.proofs.lemmas.List.Elements.{All-push}
use Rattle.rtt_show.specs.declared.first_sources.FirstSources.{FirstSources}
use Rattle.rtt_times.specs.Found.{AreFew}
use Rattle.rtt_times.proofs.Telling.{NumberedSoFar, numbered_more}
use Rattle.rtt_times.proofs.times.add_all_numbers.Goals as goal

pub loop-index-preserved : goal.loop-index-preserved
loop-index-preserved c =
    let i = c.loop-index.invariant in
    let named = c.loop-index.named.items in
    let more = c.in_ok-sources.sources in
    let is = c.in_ok-push.ensures.items in
    record {
      so_far = subst (λ (ns : List FirstSources). NumberedSoFar c.args.payload_types c.args.streams.now (c.loop-index.index + 1) ns c.args.lines.now c.add_stream_numbers.new.lines) (sym is)
          (numbered_more c.args.payload_types c.args.streams.now c.loop-index.index c.index-streams-index.result named more c.args.lines.now c.loop-index.lines c.add_stream_numbers.new.lines (omega arith) c.index-streams-index.is c.in_ok-sources.ensures.numbers c.in_ok-sources.ensures.sources i.so_far);
      each = ap length is ∙ (length-append named (more ∷ []) ∙ omega (arith, i.each));
      few = subst (All AreFew) (sym is) (All-push AreFew named more i.few c.in_ok-sources.ensures.few);
    }

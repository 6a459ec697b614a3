use Rattle.std.proofs.Common.{◌≡◌, ℕ, List, ◌+◌, ◌<◌, ◌++◌, ap, arith, drop, length, get_or, subst, sym, take, ◌∙◌}
use Rattle.report_spec.specs.Times.{day_of}
use Rattle.rtt_times.specs.Lines.{timed_line, timed_written}
use Rattle.rtt_times.specs.declared.lines.Span.{Span}
use Rattle.rtt_times.proofs.Kept.{early_at, place_is, timed_more}
use Rattle.rtt_times.proofs.lines.Lines.append_timed.Goals as goal

pub moment_behind-moment-requires-clause-early : goal.moment_behind-moment-requires-clause-early
moment_behind-moment-requires-clause-early c =
    let spans = c.as_slice-spans.result.now in
    let there : c.loop-index.index < length spans = omega arith in
    let below : c.loop-index.index < length c.args.self.now.spans.items = omega (arith, there, ap length c.as_slice-spans.ensures.value) in
    let line : Span = get_or spans c.loop-index.index (record { at = 0; from = 0; to = 0 }) in
    early_at c.args.self.now c.requires.early c.loop-index.index line below (place_is spans c.args.self.now.spans.items c.loop-index.index _ c.as_slice-spans.ensures.value there)

pub loop-index-preserved : goal.loop-index-preserved
loop-index-preserved c = λ lines k.
    let spans = c.as_slice-spans.result.now in
    let there : c.loop-index.index < length spans = omega arith in
    let below : c.loop-index.index < length c.args.self.now.spans.items = omega (arith, there, ap length c.as_slice-spans.ensures.value) in
    let line : Span = get_or spans c.loop-index.index (record { at = 0; from = 0; to = 0 }) in
    let moment : c.moment_behind-moment.result ≡ c.args.start + line.at = c.moment_behind-moment.ensures.moment in
    let text = drop line.from (take line.to c.args.self.now.octets) in
    let out = c.loop-index.out in
    let day = c.loop-index.day in
    let appended : c.append_line.new.out ≡ out ++ timed_line day (c.args.start + line.at) text =
    c.in_ok-append_line.ensures ∙ (ap (λ (m : ℕ). out ++ timed_line day m c.text_of.result.now) moment ∙ ap (λ (t : List ℕ). out ++ timed_line day (c.args.start + line.at) t) c.text_of.ensures) in
    let total = c.args.out.now ++ timed_written c.args.start (day_of c.args.start) lines in
    subst (λ (d : ℕ). c.append_line.new.out ++ timed_written c.args.start d (drop (c.loop-index.index + 1) lines) ≡ total) (sym (c.day_of-day-in-loop-index.ensures ∙ ap day_of moment))
    (timed_more c.args.self.now c.args.start day c.loop-index.index line out c.append_line.new.out total lines k below (place_is spans c.args.self.now.spans.items c.loop-index.index _ c.as_slice-spans.ensures.value there) appended (c.loop-index.invariant lines k))

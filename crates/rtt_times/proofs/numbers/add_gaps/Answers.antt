use Rattle.std.proofs.Common.{◌≡◌, ◌+◌, ◌-◌, ◌<◌, ℕ, arith, drop, length, get_or, refl, subst, sym, ◌∙◌, ap}
use Rattle.reorder_buffer.specs.declared.answers.Due.{Due}
use Rattle.rtt_times.proofs.Kept.{place_is}
use Rattle.rtt_times.proofs.Missing.{GapsSoFar, gaps_end, gaps_more}
use Rattle.rtt_times.proofs.numbers.add_gaps.Goals as goal

pub loop-index-preserved : goal.loop-index-preserved
loop-index-preserved c =
    let i = c.loop-index.invariant in
    let index = c.loop-index.index in
    let from = index - 1 in
    let used = c.args.used.now in
    let at : from + 1 ≡ index = omega (arith, i.0) in
    let next : from + 1 ≡ index + 1 - 1 = omega (arith, i.0) in
    let there : index < length used = omega arith in
    let before : from < length used = omega (arith, there) in
    let d : Due = get_or used from (record { number = 0; ready = 0 }) in
    let e : Due = get_or used index (record { number = 0; ready = 0 }) in
    let here : e ≡ get_or used (from + 1) e = place_is used used index _ refl there ∙ ap (λ (n : ℕ). get_or used n e) (sym at) in (
      omega arith,
      subst (λ (n : ℕ). GapsSoFar c.args.ssrc c.args.late.now used (drop n used) c.args.lines.now c.add_gap.new.lines) next
          (gaps_more c.args.ssrc c.args.late.now used from d e c.args.lines.now c.loop-index.lines c.add_gap.new.lines (omega (arith, at, there)) (place_is used used from _ refl before) here c.in_ok-add_gap.ensures i.1),
    )

pub returns : goal.returns
returns c =
    let i = c.loop-index.invariant in
    gaps_end c.args.ssrc c.args.late.now c.args.used.now (c.loop-index.index - 1) c.args.lines.now c.loop-index.lines (omega (arith, i.0)) i.1

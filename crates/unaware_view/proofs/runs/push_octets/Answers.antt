use Rattle.std.proofs.Common.{◌≡◌, ◌-◌, [], drop, length, take, sym, ap, ◌∙◌, arith}
use Rattle.std.proofs.lemmas.List.{drop_all, length-drop, take_all}
use Rattle.unaware_view.specs.Runs.{pushed_all}
use Rattle.unaware_view.proofs.PlainRuns.{last_three}
use Rattle.unaware_view.proofs.runs.push_octets.Goals as goal

pub returns : goal.returns
returns c =
    let octets = c.args.octets.now in
    let ending = c.args.ending.now in
    let from = c.saturating_sub-from.result in
    let all : take (length octets - from) (drop from octets) ≡ drop from octets =
    let size = length-drop from octets in take_all (length octets - from) (drop from octets) (omega (arith, size)) in
    let none : drop c.loop-octet.octet-index (take (length octets - from) (drop from octets)) ≡ [] = drop_all c.loop-octet.octet-index (take (length octets - from) (drop from octets)) c.loop-octet-test.false in
    sym (ap (pushed_all c.loop-octet.ending) none)
    ∙ (c.loop-octet.invariant
    ∙ (ap (pushed_all ending) all ∙ (ap (λ n. pushed_all ending (drop n octets)) c.saturating_sub-from.ensures ∙ last_three ending octets)))

use Rattle.std.proofs.Common.{◌≡◌, ℕ, List, ◌++◌, ap, ◌∙◌, subst, append_assoc}
use Rattle.std.specs.Prelude.{codes, decimal}
use Rattle.report_spec.specs.Showing.{counted}
use Rattle.rtt_show.proofs.Grouping.{on_ok}
use Rattle.rtt_show.proofs.Appending.{words, number}
use Rattle.rtt_show.proofs.print_lines.append_title.Goals as goal

pub returns : goal.returns
returns c =
    let old = c.args.out.now in
    let one : List ℕ = codes "== " ++ decimal c.args.ssrc in
    let two : List ℕ = one ++ codes " from " ++ decimal c.args.from in
    let three : List ℕ = two ++ codes " to " ++ decimal c.args.to in
    let four : List ℕ = three ++ counted (codes " lost ") c.args.missed.lost in
    let five : List ℕ = four ++ counted (codes " late ") c.args.missed.late in
    let a : c.append_number.new.out ≡ old ++ one = c.in_ok-append_number.ensures ∙ (append_assoc old (codes "== ") (decimal c.from.result) ∙ ap (λ n. old ++ (codes "== " ++ decimal n)) c.from.ensures) in
    let b : c.append_number-2.new.out ≡ old ++ two =
    number old one (codes " from ") (decimal c.args.from) c.append_number.new.out c.append_number-2.new.out a
    (subst (λ n. c.append_number-2.new.out ≡ (c.append_number.new.out ++ codes " from ") ++ decimal n) c.from-2.ensures c.in_ok-append_number-2.ensures) in
    let d : c.append_number-3.new.out ≡ old ++ three =
    number old two (codes " to ") (decimal c.args.to) c.append_number-2.new.out c.append_number-3.new.out b
    (subst (λ n. c.append_number-3.new.out ≡ (c.append_number-2.new.out ++ codes " to ") ++ decimal n) c.from-3.ensures c.in_ok-append_number-3.ensures) in
    let e : c.append_counted.new.out ≡ old ++ four = words old three (counted (codes " lost ") c.args.missed.lost) c.append_number-3.new.out c.append_counted.new.out d c.in_ok-append_counted.ensures in
    let f : c.append_counted-2.new.out ≡ old ++ five = words old four (counted (codes " late ") c.args.missed.late) c.append_counted.new.out c.append_counted-2.new.out e c.in_ok-append_counted-2.ensures in
    on_ok c.append.result (λ g. words old five (codes "\n") c.append_counted-2.new.out c.append.new.self f g) c.append.ensures.ok

use Rattle.std.proofs.Common.{◌∙◌, ◌++◌, ℕ, List, ap}
use Rattle.file_spec.specs.Conferences.{meaning_of}
use Rattle.rtt_live.specs.Reports.{end_of}
use Rattle.rtt_live.proofs.Counting.{printed_are}
use Rattle.rtt_live.proofs.views.printed.Goals as goal

pub returns : goal.returns
returns c =
    let ends = c.in_ok-append.ensures ∙ ap (λ (xs : List ℕ). c.in_ok-printed.printed ++ xs) c.end_line.ensures in
    printed_are (meaning_of c.args.conference.now) c.args.listeners.items c.args.tallies.now (end_of c.args.end) c.in_ok-printed.printed c.append.new.self c.append_counted.new.views
    c.requires.tallied c.in_ok-printed.ensures ends c.in_ok-append_counted.ensures

use Rattle.std.proofs.Common.{List, ℕ, ◌++◌, ◌∙◌, ap}
use Rattle.rtt_times.specs.Found.{began_and_written}
use Rattle.rtt_times.proofs.Telling.{printed_is}
use Rattle.rtt_times.proofs.times.times_found.Goals as goal

pub returns : goal.returns
returns c =
    printed_is c.args.found.now c.args.start c.args.end _ _ c.append_lines.new.out c.append_number_line.new.out c.append_number_line-2.new.out c.append_end.new.out c.in_ok-lines.ensures.told
    (λ ls k. c.in_ok-append_lines.ensures ls k ∙ ap (λ (xs : List ℕ). xs ++ began_and_written c.args.start ls) c.new-out.ensures)
    c.in_ok-append_number_line.ensures c.in_ok-append_number_line-2.ensures c.in_ok-append_end.ensures

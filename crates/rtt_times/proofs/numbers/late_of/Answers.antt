use Rattle.std.proofs.Common.{List, ◌∙◌, arith, ap, sym, subst}
use Rattle.std.proofs.lemmas.Result.{IfOk-weaker}
use Rattle.std.specs.List.Sorted.{IsNonDecreasingBy}
use Rattle.reorder_buffer.specs.declared.answers.Due.{Due}
use Rattle.rtt_times.specs.Numbers.{IsLate, due_number, late_among}
use Rattle.rtt_times.proofs.Missing.{dues_never_fall, late_is, nothing_late}
use Rattle.rtt_times.proofs.numbers.late_of.Goals as goal

pub returns-then-len : goal.returns-then-len
returns-then-len c = subst (IsLate c.args.heard.now) (sym c.new.ensures.items) (nothing_late c.args.heard.now (omega arith))

pub unused_among-requires : goal.unused_among-requires
unused_among-requires c = subst (IsNonDecreasingBy due_number) (sym c.as_slice.ensures.value) (dues_never_fall c.args.heard.now c.requires.0 c.requires.1)

pub returns : goal.returns
returns c =
    IfOk-weaker c.unused_among.result _ _ (λ late e. late_is c.args.heard.now late.items
    (e ∙ (ap (λ (used : List Due). late_among used c.as_slice-2.result.now) c.as_slice.ensures.value ∙ ap (late_among c.args.heard.now.used.items) c.as_slice-2.ensures.value))) c.unused_among.ensures

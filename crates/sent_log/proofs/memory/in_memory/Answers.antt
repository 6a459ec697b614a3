use Rattle.std.proofs.Common.{◌++◌, ℕ, List, append_assoc, ap, sym, ◌∙◌, arith}
use Rattle.std.proofs.lemmas.List.{append-nil}
use Rattle.stream_spec.specs.Own.{Sent}
use Rattle.wire_spec.specs.Dump.{dump_opening, record_written}
use Rattle.sent_log.specs.States.{first_sent}
use Rattle.sent_log.proofs.Recorded.{all_first, one_more, written_of}
use Rattle.sent_log.proofs.memory.in_memory.Goals as goal
use Rattle.sent_log.proofs.Penning.{none_first}

pub loop-number-init : goal.loop-number-init
loop-number-init c = record {
  pen = c.in_ok-pen.ensures;
  octets = λ x at lawful. c.in_ok-write_opening.ensures.ok ∙ (ap (λ (xs : List ℕ). xs ++ dump_opening) c.new-octets.ensures
      ∙ (sym (append-nil dump_opening) ∙ ap (λ (s : List (ℕ × Sent)). dump_opening ++ written_of x.settings s) (sym (none_first x.sent))));
}

pub loop-number-preserved : goal.loop-number-preserved
loop-number-preserved c =
    let before = c.loop-number.invariant in
    record {
      pen = c.packet-at.ensures.pen;
      octets = λ x at lawful.
          let m = c.packet-at.ensures.made x at lawful in
          let n = c.loop-number.number in
          let last = record_written (c.packet-at.result, c.packet-at.new.packet) in
          c.in_ok-write_record.ensures.ok
          ∙ (ap (λ (xs : List ℕ). c.loop-number.octets ++ record_written (c.packet-at.result, xs)) c.as_slice.ensures.value
          ∙ (ap (λ (xs : List ℕ). xs ++ last) (before.octets x at lawful)
          ∙ (append_assoc dump_opening (written_of x.settings (first_sent n x.sent)) last
          ∙ ap (λ (xs : List ℕ). dump_opening ++ xs) (one_more x.settings n x.sent m.0 c.packet-at.result c.packet-at.new.packet m.1 m.2 m.3))));
    }

pub returns : goal.returns
returns c = λ x at lawful.
    let all = c.count-number-end.ensures x at in
    c.loop-number.invariant.octets x at lawful
    ∙ ap (λ (s : List (ℕ × Sent)). dump_opening ++ written_of x.settings s) (all_first c.loop-number.number x.sent (omega (arith, all, c.loop-number-test.false)))

use Rattle.std.proofs.Common.{◌≡◌, ◌++◌, ℕ, List, refl, subst, sym, ◌∙◌, arith}
use Rattle.std.proofs.lemmas.List.{append-nil}
use Rattle.rtt_io.specs.Fronts.{TakesFront}
use Rattle.wire_spec.specs.Dump.{dump_opening}
use Rattle.stream_spec.specs.Own.{Sent}
use Rattle.sent_log.specs.States.{recording_of}
use Rattle.sent_log.specs.FileWriting.{HoldsRest}
use Rattle.sent_log.proofs.Passing.{err_then, nothing_taken, ok_gives}
use Rattle.sent_log.proofs.Recorded.{front_is_taken, front_of_all, next_held, whole_taken, written_of}
use Rattle.sent_log.proofs.records.write_recording.Goals as goal
use Rattle.sent_log.proofs.Penning.{none_first}

pub loop-number-init : goal.loop-number-init
loop-number-init g c =
    let took = g.K.Sink.took c.args.sink.now in
    let page = c.begin.new.page in
    record {
      pen = c.restart.ensures;
      calm = refl;
      named = refl;
      held = λ told x at. subst (λ (s : List (ℕ × Sent)). HoldsRest took took page (dump_opening ++ written_of x.settings s)) (sym (none_first x.sent))
          (subst (λ (xs : List ℕ). HoldsRest took took page xs) (c.begin.ensures ∙ sym (append-nil dump_opening)) (nothing_taken took page));
    }

pub returns-then-is_err-clause-pen : goal.returns-then-is_err-clause-pen
returns-then-is_err-clause-pen g c = λ x at. record { each = (c.loop-number.invariant.pen x at).each }

pub returns-then-is_err-clause-prefix : goal.returns-then-is_err-clause-prefix
returns-then-is_err-clause-prefix g c = λ told x at.
    let took = g.K.Sink.took in
    let before = took c.args.sink.now in
    let middle = took c.loop-number.sink in
    let now = took c.turn_page-turned.new.sink in
    let page = c.loop-number.page in
    err_then (TakesFront middle now page) (TakesFront before now (recording_of x)) c.turn_page-turned.result
    (front_of_all x.settings c.loop-number.number x.sent before middle now page dump_opening (c.loop-number.invariant.held told x at))
    (c.turn_page-turned.ensures.prefix told)

pub returns-then-is_err-clause-partly : goal.returns-then-is_err-clause-partly
returns-then-is_err-clause-partly g c = λ told x at.
    let before = g.K.Sink.took c.args.sink.now in
    let middle = g.K.Sink.took c.loop-number.sink in
    let now = g.K.Sink.stored c.turn_page-turned.new.sink in
    let page = c.loop-number.page in
    err_then (TakesFront middle now page) (TakesFront before now (recording_of x)) c.turn_page-turned.result
    (front_of_all x.settings c.loop-number.number x.sent before middle now page dump_opening (c.loop-number.invariant.held told x at))
    (c.turn_page-turned.ensures.partly told)

pub loop-number-preserved : goal.loop-number-preserved
loop-number-preserved g c =
    let took = g.K.Sink.took in
    let n = c.loop-number.number in
    let turned = c.turn_page-turned.result in
    let went = sym c.is_err.ensures.value ∙ c.if-is_err.false in
    let middle = took c.loop-number.sink in
    let now = took c.turn_page-turned.new.sink in
    let put = c.put_record.ensures.record in
    record {
      pen = c.put_record.ensures.pen;
      calm = ok_gives (g.K.Sink.faults c.turn_page-turned.new.sink ≡ g.K.Sink.faults c.loop-number.sink) turned went c.turn_page-turned.ensures.calm ∙ c.loop-number.invariant.calm;
      named = c.turn_page-turned.ensures.same_name ∙ c.loop-number.invariant.named;
      held = λ told x at.
          let m = put.is x at (c.requires.lawful x at) in
          next_held x.settings n x.sent m.0 put.at put.octets m.1 m.2 m.3
          (took c.args.sink.now) middle now c.loop-number.page c.turn_page-turned.new.page c.put_record.new.page dump_opening
          (c.loop-number.invariant.held told x at)
          (ok_gives (HoldsRest middle now c.turn_page-turned.new.page c.loop-number.page) turned went (c.turn_page-turned.ensures.held told))
          put.behind;
    }

pub returns-clause-pen : goal.returns-clause-pen
returns-clause-pen g c = λ x at. record { each = (c.loop-number.invariant.pen x at).each }

pub returns-clause-appended : goal.returns-clause-appended
returns-clause-appended g c = λ told x at.
    let took = g.K.Sink.took in
    whole_taken c.store_page.result x c.loop-number.number (took c.args.sink.now) (took c.loop-number.sink) (took c.store_page.new.sink) c.loop-number.page
    (omega (arith, c.count-number-end.ensures x at, c.loop-number-test.false)) (c.loop-number.invariant.held told x at) (c.store_page.ensures.appended told)

pub returns-clause-prefix : goal.returns-clause-prefix
returns-clause-prefix g c = λ told x at.
    let took = g.K.Sink.took in
    front_is_taken c.store_page.result x c.loop-number.number (took c.args.sink.now) (took c.loop-number.sink) (took c.store_page.new.sink) c.loop-number.page
    (omega (arith, c.count-number-end.ensures x at, c.loop-number-test.false)) (c.loop-number.invariant.held told x at) (c.store_page.ensures.prefix told)

pub returns-clause-partly : goal.returns-clause-partly
returns-clause-partly g c = λ told x at.
    let took = g.K.Sink.took in
    front_is_taken c.store_page.result x c.loop-number.number (took c.args.sink.now) (took c.loop-number.sink) (g.K.Sink.stored c.store_page.new.sink) c.loop-number.page
    (omega (arith, c.count-number-end.ensures x at, c.loop-number-test.false)) (c.loop-number.invariant.held told x at) (c.store_page.ensures.partly told)

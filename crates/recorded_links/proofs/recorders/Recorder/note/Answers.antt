use Rattle.std.proofs.Common.{rules, ◌≡◌, ◌<◌, ◌^◌, ◌+◌, Some, IfSome, string_bytes, refl, ap, subst, ◌∙◌}
use Rattle.live_spec.specs.Recorded.{record_in}
use Rattle.recorded_links.specs.Places.{entry}
use Rattle.recorded_links.specs.Standing.{IsFresh}
use Rattle.recorded_links.proofs.Noting.{left_done, left_more, left_next, left_pending, noted_more, noted_next, touches, touches_both}
use Rattle.recorded_links.proofs.recorders.Recorder.note.Goals as goal
use Rattle.wire_spec.proofs.Plain.{on_err as at_err}

pub returns-then-has_room-clause-notes : goal.returns-then-has_room-clause-notes
returns-then-has_room-clause-notes g c = λ tells ps stands.
    let is : c.self.inside.file ≡ Some c.in-Some.file = search rules in
    noted_more g.J.File.Sink (g.J.Journals.contents c.args.journals.now) (g.J.Journals.contents c.add_record.new.journals) c.args.self.now _ _ c.in-Some.file c.in_ok-file.file
    c.has_room.result c.args.at c.moment-moment.result c.args.octets.now
    c.self.view_is is c.has_room.ensures.tells c.if-has_room.true (ap g.J.Journals.contents c.in_ok-file.ensures.same) refl refl refl c.after-self-inside.ensures
    (search rules) (λ t. search (rules, c.in_ok-file.ensures.took t)) ps stands

pub returns-clause-notes : goal.returns-clause-notes
returns-clause-notes g c = λ tells ps stands.
    let sink = g.J.File.Sink in
    let file = c.in-Some.file in
    let is : c.self.inside.file ≡ Some file = search rules in
    let fresh = subst (λ o. IfSome o (λ f. IsFresh sink (string_bytes c.self.inside.stem) c.self.inside.number f)) is c.self.invariant.1 in
    let written = c.in-Some-write_pending.file in
    let named : sink.name written ≡ sink.name file = search rules in
    let same : c.write_pending.new.journals ≡ c.args.journals.now = search rules in
    let small : c.in-Some-checked_add.number < 2 ^ 64 = search rules in
    let next : c.in-Some-checked_add.number ≡ c.self.inside.number + 1 = search rules in
    noted_next sink (g.J.Journals.contents c.args.journals.now) (g.J.Journals.contents c.write_pending.new.journals) (g.J.Journals.contents c.next_file.new.journals) c.args.self.now _ _ file written c.in_ok-file-2.file
    c.has_room.result c.args.at c.args.octets.now c.at.result
    c.self.view_is is c.has_room.ensures.tells c.if-has_room.false (ap g.J.Journals.contents same) (λ told. search (rules, c.write_pending.ensures.took told)) refl refl next c.at.ensures.is c.after-self-inside-2.ensures small (named ∙ fresh.1)
    (λ there other. search (rules, c.in_ok-file-2.ensures.kept tells))
    (λ n one other. search (rules, c.in_ok-file-2.ensures.others tells n one))
    (search (rules, c.in_ok-file-2.ensures.took tells)) (search rules) (search (rules, c.in_ok-file-2.ensures.there tells)) ps stands

pub returns-in_default-write_pending-clause-keeps : goal.returns-in_default-write_pending-clause-keeps
returns-in_default-write_pending-clause-keeps g c = λ tells ps stands.
    let sink = g.J.File.Sink in
    let file = c.in-Some.file in
    let is : c.self.inside.file ≡ Some file = search rules in
    let fresh = subst (λ o. IfSome o (λ f. IsFresh sink (string_bytes c.self.inside.stem) c.self.inside.number f)) is c.self.invariant.1 in
    let small : c.self.inside.number < 2 ^ 64 = search rules in
    left_pending sink (g.J.Journals.contents c.args.journals.now) (g.J.Journals.contents c.write_pending.new.journals) c.args.self.now _ file (λ ps. record_in ps.last.begins (entry c.args.at c.args.octets.now))
    c.self.view_is is small fresh.1 (λ told. c.write_pending.ensures.left told tells (search rules)) (c.write_pending.ensures.others tells) ps stands

pub returns-in_err-file-clause-keeps : goal.returns-in_err-file-clause-keeps
returns-in_err-file-clause-keeps g c = λ tells.
    let sink = g.J.File.Sink in
    let file = c.in-Some.file in
    let is : c.self.inside.file ≡ Some file = search rules in
    let fresh = subst (λ o. IfSome o (λ f. IsFresh sink (string_bytes c.self.inside.stem) c.self.inside.number f)) is c.self.invariant.1 in
    let small : c.self.inside.number < 2 ^ 64 = search rules in
    at_err c.from_residual.result _
    (left_more sink (g.J.Journals.contents c.args.journals.now) (g.J.Journals.contents c.add_record.new.journals) c.args.self.now _ file c.args.at c.moment-moment.result c.args.octets.now
    c.self.view_is is small fresh.1 (search rules) (λ t there. search (rules, c.in_err-file.ensures.left t tells there)) (λ n other. search (rules, c.in_err-file.ensures.others tells n other)))

pub returns-in_default-checked_add-clause-keeps : goal.returns-in_default-checked_add-clause-keeps
returns-in_default-checked_add-clause-keeps g c = λ tells.
    let sink = g.J.File.Sink in
    let file = c.in-Some.file in
    let is : c.self.inside.file ≡ Some file = search rules in
    let fresh = subst (λ o. IfSome o (λ f. IsFresh sink (string_bytes c.self.inside.stem) c.self.inside.number f)) is c.self.invariant.1 in
    let written = c.in-Some-write_pending.file in
    let named : sink.name written ≡ sink.name file = search rules in
    let same : c.write_pending.new.journals ≡ c.args.journals.now = search rules in
    let small : c.self.inside.number < 2 ^ 64 = search rules in
    left_done sink (g.J.Journals.contents c.args.journals.now) (g.J.Journals.contents c.write_pending.new.journals) (g.J.Journals.contents c.done.new.self) c.args.self.now _ file written (λ ps. record_in ps.last.begins (entry c.args.at c.args.octets.now))
    c.self.view_is is small (ap g.J.Journals.contents same) (λ told. search (rules, c.write_pending.ensures.took told)) (named ∙ fresh.1) (c.done.ensures.kept tells) (c.done.ensures.other_contents tells)

pub returns-in_err-file-2-clause-keeps : goal.returns-in_err-file-2-clause-keeps
returns-in_err-file-2-clause-keeps g c = λ tells.
    let sink = g.J.File.Sink in
    let file = c.in-Some.file in
    let is : c.self.inside.file ≡ Some file = search rules in
    let fresh = subst (λ o. IfSome o (λ f. IsFresh sink (string_bytes c.self.inside.stem) c.self.inside.number f)) is c.self.invariant.1 in
    let written = c.in-Some-write_pending.file in
    let named : sink.name written ≡ sink.name file = search rules in
    let same : c.write_pending.new.journals ≡ c.args.journals.now = search rules in
    let small : c.in-Some-checked_add.number < 2 ^ 64 = search rules in
    let next : c.in-Some-checked_add.number ≡ c.self.inside.number + 1 = search rules in
    at_err c.from_residual-in_err-file-2.result _
    (left_next sink (g.J.Journals.contents c.args.journals.now) (g.J.Journals.contents c.write_pending.new.journals) (g.J.Journals.contents c.next_file.new.journals) c.args.self.now _ file written c.in-Some-checked_add.number (λ ps. record_in ps.last.begins (entry c.args.at c.args.octets.now))
    c.self.view_is is next small (ap g.J.Journals.contents same) (λ told. search (rules, c.write_pending.ensures.took told)) (named ∙ fresh.1)
    (λ there other. search (rules, c.in_err-file-2.ensures.kept tells))
    (λ n one other. search (rules, c.in_err-file-2.ensures.others tells n one)))

pub returns-in_default-write_pending-clause-others : goal.returns-in_default-write_pending-clause-others
returns-in_default-write_pending-clause-others g c = λ tells.
    let sink = g.J.File.Sink in
    let file = c.in-Some.file in
    let is : c.self.inside.file ≡ Some file = search rules in
    let fresh = subst (λ o. IfSome o (λ f. IsFresh sink (string_bytes c.self.inside.stem) c.self.inside.number f)) is c.self.invariant.1 in
    touches sink (g.J.Journals.contents c.args.journals.now) (g.J.Journals.contents c.write_pending.new.journals) c.args.self.now _ (sink.name file) c.self.view_is fresh.1 (c.write_pending.ensures.others tells)

pub returns-in_err-file-clause-others : goal.returns-in_err-file-clause-others
returns-in_err-file-clause-others g c = λ tells.
    let sink = g.J.File.Sink in
    let file = c.in-Some.file in
    let is : c.self.inside.file ≡ Some file = search rules in
    let fresh = subst (λ o. IfSome o (λ f. IsFresh sink (string_bytes c.self.inside.stem) c.self.inside.number f)) is c.self.invariant.1 in
    touches sink (g.J.Journals.contents c.args.journals.now) (g.J.Journals.contents c.add_record.new.journals) c.args.self.now _ (sink.name file) c.self.view_is fresh.1 (λ n other. search (rules, c.in_err-file.ensures.others tells n other))

pub returns-in_default-checked_add-clause-others : goal.returns-in_default-checked_add-clause-others
returns-in_default-checked_add-clause-others g c = λ tells.
    let sink = g.J.File.Sink in
    let file = c.in-Some.file in
    let is : c.self.inside.file ≡ Some file = search rules in
    let fresh = subst (λ o. IfSome o (λ f. IsFresh sink (string_bytes c.self.inside.stem) c.self.inside.number f)) is c.self.invariant.1 in
    let written = c.in-Some-write_pending.file in
    let named : sink.name written ≡ sink.name file = search rules in
    let same : c.write_pending.new.journals ≡ c.args.journals.now = search rules in
    touches sink (g.J.Journals.contents c.args.journals.now) (g.J.Journals.contents c.done.new.self) c.args.self.now _ (sink.name written) c.self.view_is (named ∙ fresh.1) (λ n other. c.done.ensures.other_contents tells n other ∙ ap (λ j. g.J.Journals.contents j n) same)

pub returns-in_err-file-2-clause-others : goal.returns-in_err-file-2-clause-others
returns-in_err-file-2-clause-others g c = λ tells.
    let sink = g.J.File.Sink in
    let file = c.in-Some.file in
    let is : c.self.inside.file ≡ Some file = search rules in
    let fresh = subst (λ o. IfSome o (λ f. IsFresh sink (string_bytes c.self.inside.stem) c.self.inside.number f)) is c.self.invariant.1 in
    let written = c.in-Some-write_pending.file in
    let named : sink.name written ≡ sink.name file = search rules in
    let same : c.write_pending.new.journals ≡ c.args.journals.now = search rules in
    touches_both sink (g.J.Journals.contents c.args.journals.now) (g.J.Journals.contents c.write_pending.new.journals) (g.J.Journals.contents c.next_file.new.journals) c.args.self.now _ (sink.name written) c.in-Some-checked_add.number
    c.self.view_is (ap g.J.Journals.contents same) (named ∙ fresh.1) (λ n one other. search (rules, c.in_err-file-2.ensures.others tells n one))

pub returns-clause-others : goal.returns-clause-others
returns-clause-others g c = λ tells.
    let sink = g.J.File.Sink in
    let file = c.in-Some.file in
    let is : c.self.inside.file ≡ Some file = search rules in
    let fresh = subst (λ o. IfSome o (λ f. IsFresh sink (string_bytes c.self.inside.stem) c.self.inside.number f)) is c.self.invariant.1 in
    let written = c.in-Some-write_pending.file in
    let named : sink.name written ≡ sink.name file = search rules in
    let same : c.write_pending.new.journals ≡ c.args.journals.now = search rules in
    touches_both sink (g.J.Journals.contents c.args.journals.now) (g.J.Journals.contents c.write_pending.new.journals) (g.J.Journals.contents c.next_file.new.journals) c.args.self.now _ (sink.name written) c.in-Some-checked_add.number
    c.self.view_is (ap g.J.Journals.contents same) (named ∙ fresh.1) (λ n one other. search (rules, c.in_ok-file-2.ensures.others tells n one))

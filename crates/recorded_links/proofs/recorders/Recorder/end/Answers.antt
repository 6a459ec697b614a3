use Rattle.std.proofs.Common.{rules, ◌≡◌, ◌<◌, ◌^◌, [], Some, IfSome, string_bytes, ap, subst, ◌∙◌}
use Rattle.recorded_links.specs.Standing.{IsFresh}
use Rattle.recorded_links.proofs.Noting.{all_lies, left_pending, touches}
use Rattle.recorded_links.proofs.recorders.Recorder.end.Goals as goal

pub returns-in_default-write_pending-clause-keeps : goal.returns-in_default-write_pending-clause-keeps
returns-in_default-write_pending-clause-keeps g c = λ tells ps stands.
    let sink = g.J.File.Sink in
    let file = c.in-Some.file in
    let is : c.self.inside.file ≡ Some file = search rules in
    let fresh = subst (λ o. IfSome o (λ f. IsFresh sink (string_bytes c.self.inside.stem) c.self.inside.number f)) is c.self.invariant.1 in
    let small : c.self.inside.number < 2 ^ 64 = search rules in
    left_pending sink (g.J.Journals.contents c.args.journals.now) (g.J.Journals.contents c.write_pending.new.journals) c.args.self.now _ file (λ _. [])
    c.self.view_is is small fresh.1 (λ told. c.write_pending.ensures.left told tells (search rules)) (c.write_pending.ensures.others tells) ps stands

pub returns-clause-whole : goal.returns-clause-whole
returns-clause-whole g c = λ tells whole ps stands.
    let sink = g.J.File.Sink in
    let file = c.in-Some.file in
    let written = c.in-Some-write_pending.file in
    let is : c.self.inside.file ≡ Some file = search rules in
    let fresh = subst (λ o. IfSome o (λ f. IsFresh sink (string_bytes c.self.inside.stem) c.self.inside.number f)) is c.self.invariant.1 in
    let small : c.self.inside.number < 2 ^ 64 = search rules in
    let named : sink.name written ≡ sink.name file = search rules in
    all_lies sink (g.J.Journals.contents c.args.journals.now) (g.J.Journals.contents c.write_pending.new.journals) (g.J.Journals.contents c.done.new.self) c.args.self.now _ file written
    c.self.view_is is small (ap g.J.Journals.contents (search rules)) (λ told. search (rules, c.write_pending.ensures.took told)) (named ∙ fresh.1)
    (c.done.ensures.kept tells) (c.done.ensures.other_contents tells) ps stands

pub returns-in_default-write_pending-clause-others : goal.returns-in_default-write_pending-clause-others
returns-in_default-write_pending-clause-others g c = λ tells.
    let sink = g.J.File.Sink in
    let file = c.in-Some.file in
    let is : c.self.inside.file ≡ Some file = search rules in
    let fresh = subst (λ o. IfSome o (λ f. IsFresh sink (string_bytes c.self.inside.stem) c.self.inside.number f)) is c.self.invariant.1 in
    touches sink (g.J.Journals.contents c.args.journals.now) (g.J.Journals.contents c.write_pending.new.journals) c.args.self.now _ (sink.name file) c.self.view_is fresh.1 (c.write_pending.ensures.others tells)

pub returns-clause-others : goal.returns-clause-others
returns-clause-others g c = λ tells.
    let sink = g.J.File.Sink in
    let file = c.in-Some.file in
    let is : c.self.inside.file ≡ Some file = search rules in
    let fresh = subst (λ o. IfSome o (λ f. IsFresh sink (string_bytes c.self.inside.stem) c.self.inside.number f)) is c.self.invariant.1 in
    let written = c.in-Some-write_pending.file in
    let named : sink.name written ≡ sink.name file = search rules in
    let same : c.write_pending.new.journals ≡ c.args.journals.now = search rules in
    touches sink (g.J.Journals.contents c.args.journals.now) (g.J.Journals.contents c.done.new.self) c.args.self.now _ (sink.name written) c.self.view_is (named ∙ fresh.1) (λ n other. c.done.ensures.other_contents tells n other ∙ ap (λ j. g.J.Journals.contents j n) same)

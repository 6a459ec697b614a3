use Rattle.std.proofs.Common.{rules, ◌≡◌, ◌<◌, ◌^◌, [], Some, IfSome, string_bytes, subst}
use Rattle.recorded_links.specs.Standing.{IsFresh}
use Rattle.recorded_links.proofs.Noting.{left_pending, touches}
use Rattle.recorded_links.proofs.recorders.Recorder.flush.Goals as goal

pub returns-in_default-write_pending-clause-keeps : goal.returns-in_default-write_pending-clause-keeps
returns-in_default-write_pending-clause-keeps g c = λ tells ps stands.
    let sink = g.J.File.Sink in
    let file = c.in-Some.file in
    let is : c.self.inside.file ≡ Some file = search rules in
    let fresh = subst (λ o. IfSome o (λ f. IsFresh sink (string_bytes c.self.inside.stem) c.self.inside.number f)) is c.self.invariant.1 in
    let small : c.self.inside.number < 2 ^ 64 = search rules in
    left_pending sink (g.J.Journals.contents c.args.journals.now) (g.J.Journals.contents c.write_pending.new.journals) c.args.self.now _ file (λ _. [])
    c.self.view_is is small fresh.1 (λ told. c.write_pending.ensures.left told tells (search rules)) (c.write_pending.ensures.others tells) ps stands

pub returns-in_default-write_pending-clause-others : goal.returns-in_default-write_pending-clause-others
returns-in_default-write_pending-clause-others g c = λ tells.
    let sink = g.J.File.Sink in
    let file = c.in-Some.file in
    let is : c.self.inside.file ≡ Some file = search rules in
    let fresh = subst (λ o. IfSome o (λ f. IsFresh sink (string_bytes c.self.inside.stem) c.self.inside.number f)) is c.self.invariant.1 in
    touches sink (g.J.Journals.contents c.args.journals.now) (g.J.Journals.contents c.write_pending.new.journals) c.args.self.now _ (sink.name file) c.self.view_is fresh.1 (c.write_pending.ensures.others tells)

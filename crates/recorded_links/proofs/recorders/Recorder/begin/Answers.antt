use Rattle.std.proofs.Common.{rules, ◌≡◌, IsSome, string_bytes, refl, ◌∙◌}
use Rattle.live_spec.specs.Recorded.{head_written}
use Rattle.recorded_links.specs.Names.{numbered}
use Rattle.recorded_links.proofs.Noting.{begun}
use Rattle.recorded_links.proofs.recorders.Recorder.begin.Goals as goal

pub returns-in-Ok-begin_file-clause-stands : goal.returns-in-Ok-begin_file-clause-stands
returns-in-Ok-begin_file-clause-stands g c = λ tells.
    let e : c.as_slice.result.now ≡ head_written c.args.start = search rules in
    let there : IsSome (g.J.Journals.contents c.begin_file.new.journals (numbered (string_bytes c.args.stem) 1)) = search (rules, c.in-Ok-begin_file.ensures.there tells) in
    begun g.J.File.Sink (g.J.Journals.contents c.begin_file.new.journals) _ c.in-Ok-begin_file.file (c.in-Ok-begin_file.ensures.told tells) refl c.at.ensures.is (search rules) (c.in-Ok-begin_file.ensures.took tells ∙ e) there

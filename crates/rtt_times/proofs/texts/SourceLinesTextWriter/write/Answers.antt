use Rattle.std.proofs.Common.{List, ℕ, subst}
use Rattle.stream_spec.specs.Ready.{chunk_of}
use Rattle.receiver.proofs.Parts.{on_ok_then as on_ok}
use Rattle.rtt_times.specs.Lines.{AddsText}
use Rattle.rtt_times.proofs.Writing.{text_added}
use Rattle.rtt_times.proofs.texts.SourceLinesTextWriter.write.Goals as goal

pub returns : goal.returns
returns c =
    on_ok c.add_text.result (λ add. text_added c.args.self.now.name c.args.out.now c.add_text.new.self (chunk_of c.args.text.now)
    (subst (λ (name : List ℕ). AddsText name (chunk_of c.args.text.now) c.args.out.now c.add_text.new.self) c.as_slice.ensures add))
    c.add_text.ensures

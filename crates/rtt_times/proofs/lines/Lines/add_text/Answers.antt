use Rattle.std.proofs.Common.{ℕ, List, ◌++◌, refl, ap, arith, subst, ◌∙◌}
use Rattle.stream_spec.specs.Ready.{chunk_of}
use Rattle.rtt_times.specs.declared.lines.Lines.{Lines}
use Rattle.rtt_times.specs.Lines.{KeepsFrom, said_line}
use Rattle.rtt_times.proofs.Kept.{text_added}
use Rattle.rtt_times.proofs.lines.Lines.add_text.Goals as goal
use Rattle.receiver.proofs.Parts.{on_ok_then as on_ok}

pub returns : goal.returns
returns c =
    let mid : Lines = record c.args.self.now { octets = c.append_said.new.out } in
    on_ok c.keep.result (λ k.
    text_added c.args.name.now (chunk_of c.args.chunk.now) c.args.self.now mid c.keep.new.self
    (c.in_ok-append_said.ensures ∙ ap (λ (text : List ℕ). c.args.self.now.octets ++ said_line c.args.name.now text) c.as_slice.ensures.value) refl
    (λ e. omega (arith, e, c.len-from.ensures)) (subst (λ (n : ℕ). KeepsFrom c.args.chunk.now.ready n mid c.keep.new.self) c.len-from.ensures k)) c.keep.ensures

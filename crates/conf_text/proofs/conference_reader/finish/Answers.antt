use Rattle.std.proofs.Common.{ap, sym, ◌∙◌, arith}
use Rattle.file_spec.specs.Stays.{is_crowd}
use Rattle.file_spec.proofs.KeptLines.{whole_keeps}
use Rattle.conf_text.specs.Lines.{above_of}
use Rattle.conf_text.proofs.conference_reader.finish.Goals as goal

pub invariant_of-result : goal.invariant_of-result
invariant_of-result c =
    let room = ap is_crowd (sym c.as_slice.ensures) ∙ sym c.has_crowd.ensures ∙ c.if-has_crowd.false in
    record {
      kept = rw (c.unwrap_or.ensures, c.unwrap_or-2.ensures, c.unwrap_or-3.ensures, c.unwrap_or-4.ensures)
          (whole_keeps (above_of c.args.draft) c.in-Some.mixer c.requires c.in-Some.is (omega (arith, c.len.ensures, c.if-len-lt-FEWEST_LEGS.false)) room);
    }

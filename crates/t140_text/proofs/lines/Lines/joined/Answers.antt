use Rattle.std.proofs.Common.{sym, ap, ◌∙◌, string_bytes}
use Rattle.std.proofs.lemmas.List.Splits.{join_with_byte-slice_split}
use Rattle.std.specs.List.{join_with_byte}
use Rattle.t140_text.proofs.lines.Lines.joined.Goals as goal

pub returns-clause-joined : goal.returns-clause-joined
returns-clause-joined c =
    c.as_str.ensures.value
    ∙ (sym (join_with_byte-slice_split 0x0A (string_bytes c.self.inside.text)) ∙ ap (join_with_byte 0x0A) c.self.view_is)

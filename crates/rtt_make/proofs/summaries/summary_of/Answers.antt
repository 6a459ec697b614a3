use Rattle.std.proofs.Common.{◌<◌, ◌^◌, List, length, sym, subst}
use Rattle.std.specs.List.{sum_by}
use Rattle.file_spec.specs.Script.{ScriptLine}
use Rattle.command_spec.specs.Scripts.{text_of_lines}
use Rattle.rtt_make.specs.Mades.{made_of}
use Rattle.rtt_make.proofs.Bounds.{few_lines, few_octets, is_made}
use Rattle.rtt_make.proofs.summaries.summary_of.Goals as goal

pub lines_in-lines-requires : goal.lines_in-lines-requires
lines_in-lines-requires c =
    let P : List (List ScriptLine) → Type 0 = λ s. sum_by (λ x. length x) s < 2 ^ 64 in
    subst P (sym c.as_slice.ensures) (few_lines (made_of c.args.made.now) (is_made c.args.made.now c.requires))

pub octets_in-typed-requires : goal.octets_in-typed-requires
octets_in-typed-requires c =
    let P : List (List ScriptLine) → Type 0 = λ s. sum_by (λ x. length (text_of_lines x)) s < 2 ^ 64 in
    subst P (sym c.as_slice-2.ensures) (few_octets (made_of c.args.made.now) (is_made c.args.made.now c.requires))

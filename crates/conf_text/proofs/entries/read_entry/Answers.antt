use Rattle.std.proofs.Common.{◌∙◌, [], ap}
use Rattle.file_spec.specs.Conference.{entry}
use Rattle.conf_text.specs.Lines.{above_of}
use Rattle.conf_text.proofs.EntryWords.{first_and_others}
use Rattle.conf_text.proofs.entries.read_entry.Goals as goal

pub returns-clause-exact : goal.returns-clause-exact
returns-clause-exact c =
    c.read_worded.ensures.exact
    ∙ ap (λ ws. entry c.args.form (above_of c.args.above.now) c.args.line ws) (first_and_others c.args.words.now (record { ref_ptr = (0, 0); now = [] }) c.in-len1-up.len_at_least)

-- What `live` comes to: the conference in a file, of the form for links, is served (profile).
use Rattle.std.specs.Prelude.{List, ℕ, Result, Ok, Err}
use Rattle.file_spec.specs.declared.conference_lines.Form.TheVariants.{Links}
use Rattle.file_spec.specs.Conference.{Conference, conference_from}
use Rattle.file_spec.specs.Lines as lines
use Rattle.command_spec.specs.declared.faults.Refusal.TheVariants.{AtLine}
use Rattle.command_spec.specs.Work.{Steps, Reads, Refuses, Serves}

-- a live call of the conference is served, or its file refused
abbrev pub serves_read : Result Conference lines.Refusal → Steps
serves_read (Err refusal) = Refuses 0 (AtLine refusal.line refusal.kind)
serves_read (Ok c) = Serves c

-- a live call of the conference that this file describes
abbrev pub serving : List ℕ → Steps
serving file = Reads file (λ octets. serves_read (conference_from Links octets))

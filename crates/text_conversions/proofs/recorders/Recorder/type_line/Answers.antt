use Rattle.script_text.specs.ScriptLines.{line_of}
use Rattle.command_spec.specs.Scripts.{events_until}
use Rattle.text_conversions.proofs.Steps.{on_ok_with, typed_line, typed_one_more}
use Rattle.text_conversions.proofs.recorders.Recorder.type_line.Goals as goal

pub returns-clause-ok : goal.returns-clause-ok
returns-clause-ok c =
    let old = c.args.self.now in
    let line = line_of c.args.line in
    on_ok_with c.typed.result
    (λ ok stands. λ settings lines a.
    let past = events_until lines old.now in
    record {
      records = typed_line settings old.sender c.typed.new.self old.octets lines line old.now a.records (stands settings past a.records.sender) c.requires.now ((c.typed.ensures.room settings past a.records.sender).0 ok);
      typed = typed_one_more lines line old.now a.typed c.requires.now;
    })
    c.typed.ensures.ok

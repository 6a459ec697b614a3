use Rattle.std.proofs.Common.{List, [], ◌∷◌, ap, sym, ◌∙◌, subst}
use Rattle.wire_spec.specs.Dump.{Item, Recording}
use Rattle.terminal.specs.Terminals.{Heard}
use Rattle.recording_views.specs.Recordings.{asked_of}
use Rattle.recording_views.proofs.reads.hear_recording.Goals as goal

pub finished-requires-clause-one : goal.finished-requires-clause-one
finished-requires-clause-one g c =
    let r = c.args.request in
    let all = c.in_ok-listen.ensures.hears in (
      asked_of r,
      r.source,
      all.items,
      all.so (asked_of r) (r.source ∷ []) [] c.in_ok-terminal.ensures.listens,
    )

pub returns-clause-heard : goal.returns-clause-heard
returns-clause-heard g c = λ t octets e.
    let r = c.args.request in
    let all = c.in_ok-listen.ensures.hears in
    subst (λ (items : List Item). Heard c.in_ok-finished.field-0 (asked_of r) (r.source ∷ []) items) (sym (ap (λ (q : Recording). q.items) (all.is t)) ∙ ap (λ (q : Recording). q.items) e)
    (c.in_ok-finished.ensures (asked_of r) (r.source ∷ []) all.items (all.so (asked_of r) (r.source ∷ []) [] c.in_ok-terminal.ensures.listens))

pub returns-clause-one : goal.returns-clause-one
returns-clause-one g c =
    let r = c.args.request in
    let all = c.in_ok-listen.ensures.hears in (
      asked_of r,
      r.source,
      all.items,
      c.in_ok-finished.ensures (asked_of r) (r.source ∷ []) all.items (all.so (asked_of r) (r.source ∷ []) [] c.in_ok-terminal.ensures.listens),
    )

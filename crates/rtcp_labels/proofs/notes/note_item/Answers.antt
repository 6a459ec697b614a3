use Rattle.std.proofs.Common.{◌≡◌, ◌∙◌, ap, refl, sym, arith}
use Rattle.std.specs.Prelude.{ℕ, List}
use Rattle.wire_spec.specs.declared.events.Event.TheVariants as event
use Rattle.rtcp_labels.specs.Notes.{notes, noted}
use Rattle.rtcp_labels.proofs.Items.{named, not_named}
use Rattle.rtcp_labels.proofs.notes.note_item.Goals as goal

pub returns-in-Ok : goal.returns-in-Ok
returns-in-Ok c =
    let is : c.from_text.result ≡ c.args.text.now = c.from_text.ensures ∙ c.in-Ok.ensures.0 in
    rw (named c.args.ssrc c.args.kind c.args.text.now (omega (arith, c.if-kind-ne-NAME.false)) (sym c.if-is_empty.ensures) c.in-Ok.ensures.1)
    (c.note.ensures ∙ ap (λ (text : List ℕ). noted (notes c.args.out.now.items c.args.many.now) (event.Name c.args.ssrc text)) is)

pub returns-in_default : goal.returns-in_default
returns-in_default c = rw (not_named c.args.ssrc c.args.kind c.args.text.now c.in_default.ensures) refl

use Rattle.std.proofs.Common.{◌≡◌, Bool, List, ℕ, [], ◌∷◌, ◌++◌, ap, refl, ◌∙◌}
use Rattle.std.specs.Prelude.{if◌then◌else◌}
use Rattle.std.specs.List.{concat}
use Rattle.rtt_base.specs.declared.blocks.TextBlock.{TextBlock}
use Rattle.stream_spec.specs.Hearing.{marker}
use Rattle.receiver.specs.Steps.{is_marked_since, older_since, texts_since}
use Rattle.receiver.proofs.Parts.{on_ok_then, octets_told}
use Rattle.receiver.proofs.receivers.tell_more.Goals as goal

pub returns-clause-text : goal.returns-clause-text
returns-clause-text c =
    let p = c.args.packet.now in
    let marked : c.is_marked.result ≡ is_marked_since c.args.seen c.args.missing p.timestamp p.older = c.is_marked.ensures ∙ ap (is_marked_since c.args.seen c.args.missing p.timestamp) c.as_slice-older.ensures.value in
    on_ok_then c.append.result
    (λ e. octets_told c.args.heard.now.text c.put_marker.new.heard.text c.append_older.new.out c.append.new.self p.primary
    (if is_marked_since c.args.seen c.args.missing p.timestamp p.older then marker ∷ [] else []) (older_since c.args.seen p.timestamp p.older) (texts_since c.args.seen p)
    (c.in_ok-put_marker.ensures.text ∙ ap (λ (b : Bool). c.args.heard.now.text ++ concat (if b then marker ∷ [] else [])) marked)
    (c.in_ok-append_older.ensures ∙ ap (λ (bs : List TextBlock). c.put_marker.new.heard.text ++ concat (older_since c.args.seen p.timestamp bs)) c.as_slice-older.ensures.value)
    (e ∙ ap (λ (t : List ℕ). c.append_older.new.out ++ t) c.as_slice.ensures.value)
    refl)
    c.append.ensures.ok

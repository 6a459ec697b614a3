use Rattle.rtp_text.proofs.Viewing.{if_some_both, plain_read, red_read}
use Rattle.rtp_text.specs.Headers.{reading}
use Rattle.rtp_text.specs.Reading.{headers_view}
use Rattle.rtp_text.specs.Views.{blocks_in}
use Rattle.rtp_text.proofs.views.view_payload.Goals as goal

pub returns-then-head-payload_types-clause-packet : goal.returns-then-head-payload_types-clause-packet
returns-then-head-payload_types-clause-packet c =
    if_some_both c.view_texts.result (λ v p t. record { blocks = plain_read c.args.most (reading c.args.head.now) c.args.payload_types (blocks_in v) c.if-head-payload_types.true t; packet = p }) c.view_texts.ensures.packet c.view_texts.ensures.texts

pub returns-clause-packet : goal.returns-clause-packet
returns-clause-packet c =
    let r = reading c.args.head.now in
    let hs = headers_view r.payload (c.in-Ok.count, c.in-Ok.older, c.in-Ok.texts) in
    if_some_both c.view_texts-2.result (λ v p t. record { blocks = red_read c.args.most r c.args.payload_types hs (blocks_in v) c.if-head-payload_types.false c.if-head-payload_types-2.false c.in-Ok.ensures.exact t; packet = p }) c.view_texts-2.ensures.packet c.view_texts-2.ensures.texts

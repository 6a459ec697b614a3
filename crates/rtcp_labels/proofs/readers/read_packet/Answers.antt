use Rattle.std.proofs.lemmas.Result.{err_from_is_err_and}
use Rattle.rtcp_labels.specs.Notes.{notes}
use Rattle.rtcp_labels.specs.Views.{body_view}
use Rattle.rtcp_labels.proofs.Packets.{body_refused, events_refused, events_too_many, events_taken, taken_few}
use Rattle.wire_spec.specs.Rtcp.{events_of}
use Rattle.rtcp_labels.proofs.readers.read_packet.Goals as goal

pub returns-in_err-body-clause-exact : goal.returns-in_err-body-clause-exact
returns-in_err-body-clause-exact c =
    let p = err_from_is_err_and c.from_residual.result c.from_residual.ensures.1 in
    rw (p.1, p.2) (body_refused c.args.out.now.items c.args.bytes.now c.in_err-body.field-0.0 c.in_err-body.ensures.exact)

pub returns-in_err-read_body-clause-exact : goal.returns-in_err-read_body-clause-exact
returns-in_err-read_body-clause-exact c =
    let p = err_from_is_err_and c.from_residual-in_err-read_body.result c.from_residual-in_err-read_body.ensures.1 in
    rw (p.1, p.2) (events_refused c.args.out.now.items c.args.bytes.now (body_view c.in_ok-body.body) c.in_ok-body.ensures.exact c.in_err-read_body.field-0.0 c.in_err-read_body.ensures)

pub returns-then-many-clause-exact : goal.returns-then-many-clause-exact
returns-then-many-clause-exact c =
    events_too_many c.args.out.now.items c.args.bytes.now (body_view c.in_ok-body.body) c.in_ok-body.ensures.exact (notes c.read_body.new.out.items c.read_body.new.many) c.requires c.in_ok-read_body.ensures c.if-many.true

pub returns-clause-exact : goal.returns-clause-exact
returns-clause-exact c =
    events_taken c.args.out.now.items c.args.bytes.now (body_view c.in_ok-body.body) c.in_ok-body.ensures.exact (notes c.read_body.new.out.items c.read_body.new.many) c.requires c.in_ok-read_body.ensures c.if-many.false

pub returns-clause-few : goal.returns-clause-few
returns-clause-few c =
    taken_few c.args.out.now.items (events_of (body_view c.in_ok-body.body)) (notes c.read_body.new.out.items c.read_body.new.many) c.requires c.in_ok-read_body.ensures

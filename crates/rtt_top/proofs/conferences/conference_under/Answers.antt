use Rattle.std.proofs.Common.{◌≡◌, Err, sym, subst}
use Rattle.file_spec.specs.Conference.{conference_from}
use Rattle.rtt_top.specs.Worlds.{ObjectFailedIn, OpenFailedIn, StopsOver}
use Rattle.rtt_top.proofs.Conferring.{conference_refused}
use Rattle.rtt_top.proofs.Working.{unread}
use Rattle.rtt_top.proofs.conferences.conference_under.Goals as goal

pub returns-in-Err-clause-stops : goal.returns-in-Err-clause-stops
returns-in-Err-clause-stops g c = λ command reads.
    let old = c.args.world.now in
    let new = c.read_input.new.world in
    let file = c.args.name.now in
    unread g.W.World.tells (g.W.World.contents old) command (OpenFailedIn g.W.World old new file) (ObjectFailedIn g.W.World old new file) c.in-Err.fault c.in-Err.ensures.unread

pub returns-in-Err-Refused-clause-stops : goal.returns-in-Err-Refused-clause-stops
returns-in-Err-Refused-clause-stops g c = λ command reads.
    let old = c.args.world.now in
    let new = c.read_input.new.world in
    let file = c.args.name.now in
    let form = c.args.form in
    let line = c.in-Err-Refused.line in
    let kind = c.in-Err-Refused.kind in
    let cause : conference_from form c.as_slice.result.now ≡ Err (record { line = line; kind = kind }) =
    rw c.in-Err-Refused.field-0-is at c.in-Err-Refused.ensures.refused in
    subst (λ f. StopsOver g.W.World old new file command f) (sym c.refused_line.ensures)
    (conference_refused form g.W.World.tells (g.W.World.contents old) file command (OpenFailedIn g.W.World old new file) (ObjectFailedIn g.W.World old new file)
    c.in-Ok.octets line kind reads c.in-Ok.ensures.given (subst (λ octets. conference_from form octets ≡ Err (record { line = line; kind = kind })) c.as_slice.ensures cause))

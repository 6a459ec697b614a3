use Rattle.std.proofs.Common.{◌≡◌, Err, sym, subst}
use Rattle.file_spec.specs.Script.{script}
use Rattle.rtt_words.specs.Words.{SendWords, Send}
use Rattle.rtt_words.specs.Commands.{sent}
use Rattle.rtt_top.specs.Worlds.{ObjectFailedIn, OpenFailedIn, StopsOver}
use Rattle.rtt_top.proofs.Sending.{script_refused}
use Rattle.rtt_top.proofs.send.script_of.Goals as goal

pub returns-in-Err-Refused-clause-stops : goal.returns-in-Err-Refused-clause-stops
returns-in-Err-Refused-clause-stops g c =
    let old = c.args.world.now in
    let new = c.read_input.new.world in
    let s : SendWords = sent c.args.words.now in
    let line = c.in-Err-Refused.line in
    let kind = c.in-Err-Refused.kind in
    let cause : script c.as_slice.result.now ≡ Err (record { line = line; kind = kind }) =
    rw c.in-Err-Refused.field-0-is at c.in-Err-Refused.ensures.refused in
    subst (λ f. StopsOver g.W.World old new s.file (Send s) f) (sym c.refused_line.ensures)
    (script_refused g.W.World.tells (g.W.World.contents old) s (OpenFailedIn g.W.World old new s.file) (ObjectFailedIn g.W.World old new s.file)
    c.in-Ok.octets line kind c.in-Ok.ensures.given (subst (λ octets. script octets ≡ Err (record { line = line; kind = kind })) c.as_slice.ensures cause))

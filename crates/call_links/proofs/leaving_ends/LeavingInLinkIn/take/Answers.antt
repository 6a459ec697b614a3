use Rattle.std.proofs.Common.{◌∙◌, ◌||◌, ap, sym}
use Rattle.link_io.specs.Taking.{taken_of}
use Rattle.call_links.specs.Leaving.{after_taken}
use Rattle.call_links.proofs.Telling.{stays, closes_told, closed_more, closed_stays, told_more}
use Rattle.call_links.proofs.leaving_ends.LeavingInLinkIn.take.Goals as goal

pub returns-clause-closing : goal.returns-clause-closing
returns-clause-closing g c =
    let old = c.args.self.now.peer in
    let new = c.after-self.result in
    let came = c.in-Ok.taken.came in
    let leaves = stays c.args.self.now.longest old new (taken_of c.in-Ok.taken c.as_slice.result.now) c.after-self.ensures in
    let closes = closes_told new came c.told.result c.told.ensures in
    let below = g.I.LinkIn.closed c.args.self.now.link in
    ap (λ b. new.left || b) c.in-Ok.ensures.closing ∙ (closed_more old.left new.left below _ leaves ∙ ap (λ b. (old.left || below) || b) (sym closes))

pub returns-clause-for_good : goal.returns-clause-for_good
returns-clause-for_good g c = λ closed.
    let old = c.args.self.now.peer in
    let new = c.after-self.result in
    let came = c.in-Ok.taken.came in
    let leaves = stays c.args.self.now.longest old new (taken_of c.in-Ok.taken c.as_slice.result.now) c.after-self.ensures in
    closes_told new came c.told.result c.told.ensures ∙ closed_stays old.left new.left _ _ leaves c.in-Ok.ensures.for_good closed

pub returns-clause-appended : goal.returns-clause-appended
returns-clause-appended g c = λ tells.
    let old = c.args.self.now.peer in
    let taken = c.in-Ok.taken in
    let after = c.after-self.ensures ∙ (ap (λ n. after_taken n old (taken_of taken c.as_slice.result.now)) c.args.self.now.agreed ∙ ap (λ octets. after_taken g.S.Silence.longest old (taken_of taken octets)) c.as_slice.ensures.value) in
    told_more g.S.Silence.longest _ _ old c.after-self.result taken c.told.result c.take.new.out
    (c.args.self.now.known tells) (c.in-Ok.ensures.appended tells) after c.told.ensures

use Rattle.std.proofs.Common.{ap, ◌∙◌, subst}
use Rattle.stream_spec.specs.Fronts.{IsFront}
use Rattle.live_board.specs.Histories.{changes_of, ended_in}
use Rattle.live_board.specs.Values.{Reading, Telling}
use Rattle.live_board.proofs.Fronts.{changes_front, over_is}
use Rattle.live_board.proofs.Keeping.{reads_on}
use Rattle.live_board.proofs.readers.BoardReader.learn.Goals as goal

pub returns-clause-over : goal.returns-clause-over
returns-clause-over c e =
    let x = c.self.inside.held.page in
    let z = c.take_in.new.held.page in
    let is = c.self.view_is ∙ c.look.ensures.over e in
    reads_on x z c.take_in.ensures.further c.take_in.ensures.reading.good (ap (λ (r : Reading). r.ended) is ∙ e) ∙ is

pub returns-clause-told : goal.returns-clause-told
returns-clause-told c =
    let n = c.note.inside.page in
    let z = c.take_in.new.held.page in
    subst (λ (t : Telling). IsFront t.changes (changes_of z.seen.log)) c.note.view_is (changes_front n.seen.log z.seen.log c.take_in.ensures.told.front)

pub returns-clause-all : goal.returns-clause-all
returns-clause-all c e =
    let n = c.note.inside.page in
    let z = c.take_in.new.held.page in
    let ended = ap (λ (t : Telling). t.ended) c.note.view_is ∙ e in
    let log = over_is n.seen.log z.seen.log c.take_in.ensures.told.front c.take_in.ensures.reading.good.once ended in
    (ap changes_of log ∙ ap (λ (t : Telling). t.changes) c.note.view_is, ap ended_in log ∙ ended)

use Rattle.std.proofs.Common.{◌≡◌, length, sym, ◌∙◌, ap, subst}
use Rattle.live_board.specs.Histories.{EndsOnce, ended_in, entry_of}
use Rattle.live_board.proofs.Entering.{enters_moves}
use Rattle.live_board.proofs.histories.try_enter.Goals as goal

pub compare_exchange-found-requires : goal.compare_exchange-found-requires
compare_exchange-found-requires c =
    let h = c.requires.head in
    let same = c.again-next.ensures in
    let offer = c.plain-offer.ensures in
    let pen = c.no_pen-pen.ensures in
    let log : c.again-next.result.log ≡ c.args.seen.now.log = ap (λ s. s.log) same in
    let book = ap (λ s. s.book) same ∙ sym (ap (λ w. w.book) h) in (
      ap (λ w. w.tracked) h,
      book,
      pen.0 ∙ book,
      offer.0,
      rw (ap (λ w. w.key) h, pen.1, offer.1, offer.3)
          (enters_moves c.again-next.result.log (entry_of c.args.fresh.now) c.args.count (ap length log ∙ sym c.requires.count) (subst EndsOnce (sym log) c.requires.once) (ap ended_in log ∙ c.requires.going)),
    )

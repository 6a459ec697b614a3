use Rattle.std.proofs.Common.{refl}
use Rattle.live_board.proofs.Keeping.{is_next}
use Rattle.live_board.proofs.pages.Page.next.Goals as goal

pub returns-clause-next : goal.returns-clause-next
returns-clause-next g c =
    is_next _ _ c.args.octets c.requires.good c.requires.going c.enter-seen.ensures.book c.enter-seen.ensures.log c.enter-seen.ensures.once refl refl c.requires.counted c.ranges.octets.fits

use Rattle.live_board.proofs.Keeping.{looks}
use Rattle.live_board.proofs.page_copies.look.Goals as goal

pub enter_as-requires : goal.enter_as-requires
enter_as-requires c = looks _ _

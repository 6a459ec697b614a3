-- What a clause says of a lane of what gives answers.
use Rattle.std.specs.Prelude.{◌≡◌, List}
use Rattle.workers.specs.declared.lanes.Worker.{Worker}
use Rattle.workers.specs.Lanes.{LaneFollows, popped_of}
use Rattle.mix_loop.specs.declared.answers.Answer.{Answer}
use Rattle.mix_loop.specs.Answers.{gave_of}
use Rattle.mix_loop.specs.Items.{Gave}

module _ {L F G : Type 0} where
  -- This is what was popped, and whatever the first lane began with, the second did.
  pub record LaneStands (stands : L → L → List (Answer F) → Type 0) (first now : Worker (Answer F) L G) (gave : Gave F) : Type 0 where
    pub popped : gave_of (popped_of now) ≡ gave
    pub runs : LaneFollows stands first now

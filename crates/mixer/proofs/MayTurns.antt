-- After calls that are allowed all terminals may have a turn.
use Rattle.std.proofs.Common.{ℕ, List}
use Rattle.mixer_spec.specs.Setups.{Setup}
use Rattle.mixer_spec.specs.Table.{Call, next_media, after_calls}
use Rattle.mixer.specs.Allowed.{MayTurn}
use Rattle.mixer.specs.Turns.{MayTurnAll}
use Rattle.mixer.proofs.Leaving.{seated}
use Rattle.mixer.proofs.Sending.{any_law}
use Rattle.mixer.proofs.Waiting.{texts_wait}

pub may_turn_all : (s : Setup) (calls : List Call) (now : ℕ) → MayTurn s calls → MayTurnAll s (after_calls s calls) now (next_media s.step (after_calls s calls).media now)
may_turn_all s calls now m =
    let h = seated s calls m.allowed in record {
      held = record { below = h.below; one = h.one };
      texts = λ j i. texts_wait s calls j i m.setup m.allowed;
      next = λ j. any_law s calls now j m;
    }

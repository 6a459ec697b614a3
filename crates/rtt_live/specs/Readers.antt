-- Of which board a reader is.
use Rattle.std.specs.Prelude.{◌≡◌}
use Rattle.live_board.specs.Values.{Reading}
use Rattle.rtt_live.specs.declared.watchers.Watcher.{Watcher}
use Rattle.rtt_live.specs.declared.watchers.Watcher.TheVariants.{There, Here}

-- both read one board
pub record ReadsSame (first second : Reading) : Type 0 where
  pub board : second.board ≡ first.board
  pub legs : second.legs ≡ first.legs

-- a thread that was given the first of these reads, or it is kept
abbrev pub IsWatcherOf : Reading → Watcher → Type 0
IsWatcherOf first (There handle) = handle.promise.was.value ≡ first
IsWatcherOf first (Here reader) = ReadsSame first reader

-- it comes back from there
abbrev pub IsBackFrom : Watcher → Reading → Type 0
IsBackFrom watcher back = (first : Reading) → IsWatcherOf first watcher → ReadsSame first back

use Rattle.std.proofs.Common.{take}
use Rattle.std.specs.Prelude.{All, ◌≢◌}
use Rattle.playback.proofs.sent_texts.place_of.Given as goal

abbrev pub invariant-loop-place : goal.invariant-loop-place
invariant-loop-place l = All (λ source. source ≢ l.ssrc) (take l.place l.sources)

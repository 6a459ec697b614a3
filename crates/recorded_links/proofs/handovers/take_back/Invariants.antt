use Rattle.std.proofs.Common.{◌≡◌, ◌⊎◌, None}
use Rattle.recorded_links.specs.Kept.{IsHadBack}
use Rattle.recorded_links.proofs.Handing.{IsGoneTo}
use Rattle.recorded_links.proofs.handovers.take_back.Given as goal

abbrev pub invariant-loop-number : goal.invariant-loop-number
invariant-loop-number g l = record {
  gone : IsGoneTo (IsHadBack l.port l.way l.fn.noter) l.number l.fn.places l.places;
  left : (l.left ≡ l.fn.noter) ⊎ (l.left ≡ None);
}

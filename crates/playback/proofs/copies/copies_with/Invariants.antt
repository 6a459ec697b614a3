use Rattle.std.proofs.Common.{◌≡◌, ℕ, List, ◌+◌, length, drop}
use Rattle.std.specs.Prelude.{All}
use Rattle.file_spec.specs.declared.conference_lines.PlanLine.{PlanLine}
use Rattle.mixer_spec.specs.Arrives.{Copy, all_copies, times_in}
use Rattle.playback.specs.Fates.{AreFates}
use Rattle.playback.specs.Arriving.{times_of, IsOfFirst}
use Rattle.playback.proofs.copies.copies_with.Given as goal

-- the copies so far and those of the other packets are all
abbrev pub invariant-loop-index : goal.invariant-loop-index
invariant-loop-index l = record {
  copies : (plan : List PlanLine) (t : ℕ) → AreFates plan t l.fates → (c : Copy)
      → times_of c l.copies.items + times_of c l.late.items + times_in c (all_copies plan t l.index (drop l.index l.sent)) ≡ times_in c (all_copies plan t 0 l.sent);
  sent : All (IsOfFirst (length l.sent)) l.copies.items;
  late : All (IsOfFirst (length l.sent)) l.late.items;
}

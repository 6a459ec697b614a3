use Rattle.std.proofs.Common.{◌≡◌, map, vec_len}
use Rattle.std.specs.Prelude.{reverse}
use Rattle.playback.specs.Fates.{AreFates}
use Rattle.playback.proofs.fates.fates_of.Given as goal

-- the lines so far, of which each stands above those before it
abbrev pub invariant-loop-line : goal.invariant-loop-line
invariant-loop-line l = record {
  count : vec_len l.fates ≡ l.packets;
  fates : AreFates (reverse (map (λ line. line.now) l.yielded)) l.terminal l.fates.items;
}

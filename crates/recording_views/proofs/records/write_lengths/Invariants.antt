use Rattle.std.proofs.Common.{◌≡◌, ◌+◌, ◌*◌, ◌≤◌, ◌++◌, flat_map, length, map, reverse}
use Rattle.command_spec.specs.Listing.{block_length}
use Rattle.recording_views.proofs.records.write_lengths.Given as goal

abbrev pub invariant-loop-block : goal.invariant-loop-block
invariant-loop-block l = record {
  can : (goal.iterator-loop-block).can_next l.block-iterator;
  ends : (goal.iterator-loop-block).is_finite l.block-iterator;
  lengths : l.line ≡ flat_map block_length (reverse (map (λ b. b.now) l.yielded)) ++ l.initial.line;
  fits : length l.line ≤ 11 * length l.yielded + length l.initial.line;
}

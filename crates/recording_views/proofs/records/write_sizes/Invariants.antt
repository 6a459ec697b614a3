use Rattle.std.proofs.Common.{◌≡◌, ◌+◌, ◌-◌, ◌*◌, ◌≤◌, ◌++◌, flat_map, length, drop}
use Rattle.rtp_text.specs.Views.{blocks_in}
use Rattle.command_spec.specs.Listing.{block_length}
use Rattle.recording_views.proofs.records.write_sizes.Given as goal

abbrev pub invariant-loop-left : goal.invariant-loop-left
invariant-loop-left l = record {
  few : l.left ≤ l.view.count;
  lengths : l.line ≡ flat_map block_length (drop l.left (blocks_in l.view)) ++ l.fn.line;
  fits : length l.line ≤ 11 * (l.view.count + 1 - l.left) + length l.fn.line;
}

abbrev pub decreases-loop-left : goal.decreases-loop-left
decreases-loop-left l = l.left

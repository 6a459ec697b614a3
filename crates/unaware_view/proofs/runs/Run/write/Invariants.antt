use Rattle.std.proofs.Common.{◌≡◌, ◌+◌, ◌≤◌, ℕ, Bool, List, length, chars, IsUtf8}
use denote.Text.{Utf8}
use denote.Shadow.{shadow}
use Rattle.view_spec.specs.TextViews.{without_directions}
use Rattle.unaware_view.specs.Runs.{IsRun, Writes, label_room}
use Rattle.unaware_view.proofs.runs.Run.write.Given as goal
use Rattle.rtt_base.specs.declared.limits.TheConstants.{MOST_TEXT_OCTETS}

abbrev pub invariant-loop-rest : goal.invariant-loop-rest
invariant-loop-rest l = record {
  text : shadow (Utf8 l.rest);
  writes : (alone behind_cr : Bool) (run : List ℕ) → IsUtf8 l.fn.text → IsRun l.fn.self alone behind_cr run → Writes l.fn.name l.fn.self l.self alone behind_cr run (without_directions (chars l.fn.text)) l.fn.out l.out l.rest;
  bound : l.self.erasable + length l.rest ≤ l.fn.self.erasable + length l.fn.text;
  kept : l.self.has_chunk ≡ l.fn.self.has_chunk;
  fits : length l.out + label_room l.self.labelled l.fn.name + length l.rest ≤ MOST_TEXT_OCTETS;
}

abbrev pub decreases-loop-rest : goal.decreases-loop-rest
decreases-loop-rest l = length l.rest

use Rattle.std.proofs.Common.{◌+◌, List, ℕ, take}
use Rattle.std.specs.List.{flat_map}
use Rattle.rtp_text.proofs.Pieces.{Built}
use Rattle.sent_log.specs.Lists.{list_at}
use Rattle.sent_log.specs.Runs.{IsRun}
use Rattle.sent_log.specs.Writing.{HasTexts, kept_header, kept_texts}
use Rattle.sent_log.proofs.writers.write_headers.Given as goal

abbrev pub invariant-loop-kept : goal.invariant-loop-kept
invariant-loop-kept g l = record {
  headers : (texts : List (List ℕ)) → HasTexts texts l.terminal
      → Built g.O.OctetBuffer.greatest (g.O.OctetBuffer.written l.fn.out) (g.O.OctetBuffer.written l.out) (flat_map (kept_header texts l.terminal l.timestamp l.terminal.settings.payload_types.t140) (take l.kept-index l.older));
  run : (texts : List (List ℕ)) → HasTexts texts l.terminal → IsRun (list_at texts (l.terminal.first + l.source)) (kept_texts texts l.terminal (take l.kept-index l.older)) l.run;
}

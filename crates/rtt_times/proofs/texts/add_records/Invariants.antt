use Rattle.std.proofs.Common.{◌≡◌, ℕ, List, [], length}
use Rattle.std.specs.Prelude.{Bool}
use Rattle.receiver.specs.Hears.{IsGiving, arrival_count, is_finished, is_quiet}
use Rattle.command_spec.specs.declared.requests.ReadRequest.{ReadRequest}
use Rattle.rtpdump_io.specs.InMemory.{AreRecords}
use Rattle.rtpdump_io.proofs.Fronts.{Left, Front}
use Rattle.rtt_times.specs.declared.lines.Lines.{Lines}
use Rattle.rtt_times.specs.Writing.{HasWrittenOf}
use Rattle.rtt_times.proofs.texts.add_records.Given as goal

abbrev pub invariant-loop-at : goal.invariant-loop-at
invariant-loop-at l = record {
  left : Left l.rest (arrival_count l.ear);
  giving : ∥ IsGiving l.ear ∥₁;
  quiet : is_quiet l.ear ≡ Bool.true;
  open_still : is_finished l.ear ≡ Bool.false;
  written : (r : ReadRequest) (first : Lines) → HasWrittenOf l.fn.writer.name r first l.initial.ear l.initial.lines [] → (all : List (ℕ × List ℕ)) → AreRecords l.fn.records all → Front (HasWrittenOf l.fn.writer.name r first l.ear l.lines) l.rest all;
}

abbrev pub decreases-loop-at : goal.decreases-loop-at
decreases-loop-at l = length l.rest

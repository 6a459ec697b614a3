use Rattle.std.proofs.Common.{◌≡◌}
use Rattle.receiver.specs.Hears.{IsGiving, arrival_count, is_finished}
use Rattle.recording_views.proofs.Writing.{WritesStill}
use Rattle.recording_views.proofs.heard_texts.write_heard.Given as goal

abbrev pub invariant-loop : goal.invariant-loop
invariant-loop g l = record {
  giving : ∥ IsGiving l.ear ∥₁;
  written : WritesStill (g.W.TextWriter.wrote l.fn.writer) l.initial.ear l.initial.out l.ear l.out;
  arrivals : arrival_count l.ear ≡ arrival_count l.initial.ear;
  finished : is_finished l.ear ≡ is_finished l.initial.ear;
}

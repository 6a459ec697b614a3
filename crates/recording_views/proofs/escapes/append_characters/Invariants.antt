use Rattle.std.proofs.Common.{◌≡◌, ◌++◌}
use Rattle.view_spec.specs.Shown.{ends_with_cr}
use Rattle.recording_views.proofs.Escaping.{escaped_signs}
use Rattle.recording_views.proofs.escapes.append_characters.Given as goal

abbrev pub invariant-loop-c : goal.invariant-loop-c
invariant-loop-c l = record {
  after_cr : l.after_cr ≡ ends_with_cr l.yielded;
  out : l.out ≡ l.initial.out ++ escaped_signs l.yielded;
}

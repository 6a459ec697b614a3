use Rattle.std.proofs.Common.{◌≡◌, ◌++◌, encode_utf8, flat_map}
use Rattle.report_spec.specs.Told.{told_character}
use Rattle.rtt_check.proofs.name_texts.append_told.Given as goal

abbrev pub invariant-loop-c : goal.invariant-loop-c
invariant-loop-c l = l.text ≡ l.fn.text ++ flat_map (λ c. encode_utf8 (told_character c)) l.yielded

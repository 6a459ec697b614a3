use Rattle.std.proofs.Common.{take, All}
use Rattle.std.specs.Bool.{OnTrue}
use Rattle.recording_views.specs.Escapes.{IsPlain}
use Rattle.recording_views.proofs.escapes.are_plain.Given as goal

abbrev pub invariant-loop-octet : goal.invariant-loop-octet
invariant-loop-octet l = OnTrue l.plain (All IsPlain (take l.octet-index l.octets))

use Rattle.std.proofs.Common.{◌∙◌, ℕ, List, ◌++◌, take, ap}
use Rattle.rtpdump_io.proofs.Lines.{differs}
use Rattle.rtpdump_io.proofs.inputs.Input.begins_with.Goals as goal

pub returns-in_default-clause-no : goal.returns-in_default-clause-no
returns-in_default-clause-no g c = λ t same.
    differs _ _ _ _ c.in-Some.octet (c.loop-place.invariant.begins t ∙ ap (λ (l : List ℕ). take c.loop-place.place c.args.expected.now ++ l) (rw c.in-Some.is at (c.in_ok-octet.ensures.given t))) c.loop-place-test.true c.if-octet-expected.false

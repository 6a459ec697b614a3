use Rattle.std.proofs.Common.{Ok, ap, inr}
use Rattle.rtpdump_io.proofs.Recordings.{no_opening, no_line, no_head, opens, opens_all, head_begins}
use Rattle.rtpdump_io.proofs.readers.DumpReader.open.Goals as goal
use Rattle.wire_spec.proofs.Plain.{on_err}

pub returns-then-not-branch-clause-opened : goal.returns-then-not-branch-clause-opened
returns-then-not-branch-clause-opened g c = λ t. no_opening _ (c.in_ok-begins_with.ensures.no t (ap Ok c.if-not-branch.true))

pub returns-in_default-clause-opened : goal.returns-in_default-clause-opened
returns-in_default-clause-opened g c = λ t. no_line _ _ (c.in_ok-begins_with.ensures.yes t (ap Ok c.if-not-branch.false)) (rw c.in_default.is at (c.in_ok-more.ensures.line t))

pub returns-then-not-branch-2-clause-opened : goal.returns-then-not-branch-2-clause-opened
returns-then-not-branch-2-clause-opened g c = λ t. rw c.from.ensures (no_head _ _ _ c.in-Some.more (c.in_ok-begins_with.ensures.yes t (ap Ok c.if-not-branch.false)) (rw c.in-Some.is at (c.in_ok-more.ensures.line t)) (rw c.in-Some.is at (c.in_ok-more.ensures.number t)) (c.in_ok-pass.ensures.missing t (ap Ok c.if-not-branch-2.true)))

pub returns-clause-opened : goal.returns-clause-opened
returns-clause-opened g c = λ t. rw c.from.ensures (opens _ _ _ _ c.in-Some.more (c.in_ok-begins_with.ensures.yes t (ap Ok c.if-not-branch.false)) (rw c.in-Some.is at (c.in_ok-more.ensures.line t)) (rw c.in-Some.is at (c.in_ok-more.ensures.number t)) (c.in_ok-pass.ensures.there t (ap Ok c.if-not-branch-2.false)))

pub returns-clause-all : goal.returns-clause-all
returns-clause-all g c = λ t. rw c.from.ensures (opens_all _ _ _ _ c.in-Some.more (c.in_ok-begins_with.ensures.yes t (ap Ok c.if-not-branch.false)) (rw c.in-Some.is at (c.in_ok-more.ensures.number t)) (c.in_ok-pass.ensures.there t (ap Ok c.if-not-branch-2.false)))

pub returns-in_err-pass-clause-read_at : goal.returns-in_err-pass-clause-read_at
returns-in_err-pass-clause-read_at g c = λ t. on_err _ _ (inr (rw c.from.ensures (head_begins _ _ _ c.in-Some.more (c.in_ok-begins_with.ensures.yes t (ap Ok c.if-not-branch.false)) (rw c.in-Some.is at (c.in_ok-more.ensures.line t)) (rw c.in-Some.is at (c.in_ok-more.ensures.number t)))))

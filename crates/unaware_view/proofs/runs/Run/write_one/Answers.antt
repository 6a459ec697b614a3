use Rattle.unaware_view.proofs.runs.Run.write_one.Goals as goal
use Rattle.std.proofs.Common.{◌+◌, ◌≤◌, ◌++◌, length, length-append, append_assoc, ap, sym, subst, ◌∙◌, arith}
use Rattle.std.specs.Char.{encode_utf8}
use Rattle.unaware_view.specs.declared.runs.Run.{Run}
use Rattle.unaware_view.specs.Runs.{before_by, is_headed, label_by, label_room, sent_for, with_one}
use Rattle.unaware_view.proofs.RunSteps.{bound_by, chunk_kept, sent_size}

pub returns-clause-run : goal.returns-clause-run
returns-clause-run c = c.read-sent.ensures.run ∙ ap (λ (r : Run). with_one r c.args.c) c.head_before.ensures.run

pub returns-clause-out : goal.returns-clause-out
returns-clause-out c =
    c.push.ensures
    ∙ ((λ i. c.head_before.ensures.out i ++ encode_utf8 ((c.read-sent.ensures.sent ∙ ap (λ (r : Run). sent_for r.erasable c.args.c) c.head_before.ensures.run) i))
    ∙ append_assoc c.args.out.now (label_by (is_headed c.args.self.now c.args.c) c.args.name.now c.args.self.now) (encode_utf8 (sent_for (before_by (is_headed c.args.self.now c.args.c) c.args.self.now).erasable c.args.c)))

pub returns-clause-bound : goal.returns-clause-bound
returns-clause-bound c =
    subst (λ (r : Run). r.erasable ≤ c.args.self.now.erasable + 1) (sym (c.read-sent.ensures.run ∙ ap (λ (r : Run). with_one r c.args.c) c.head_before.ensures.run))
    (bound_by (is_headed c.args.self.now c.args.c) c.args.self.now c.args.c)

pub returns-clause-kept : goal.returns-clause-kept
returns-clause-kept c =
    ap (λ (r : Run). r.has_chunk) (c.read-sent.ensures.run ∙ ap (λ (r : Run). with_one r c.args.c) c.head_before.ensures.run)
    ∙ chunk_kept (is_headed c.args.self.now c.args.c) c.args.self.now c.args.c

pub returns-clause-fits : goal.returns-clause-fits
returns-clause-fits c =
    let sent = ap (λ n. length (encode_utf8 n)) c.read-sent.ensures.sent in
    let size = sent_size c.head_before.new.self.erasable c.args.c in
    let out = ap length c.push.ensures in
    let parts = length-append c.head_before.new.out (encode_utf8 c.read-sent.result) in
    let same = ap (λ (r : Run). label_room r.labelled c.args.name.now) c.read-sent.ensures.run in
    omega (arith, sent, size, out, parts, same, c.head_before.ensures.fits)

pub push-requires : goal.push-requires
push-requires c =
    let sent = ap (λ n. length (encode_utf8 n)) c.read-sent.ensures.sent in
    let size = sent_size c.head_before.new.self.erasable c.args.c in
    omega (arith, sent, size, c.head_before.ensures.fits, c.requires.fits)

use Rattle.std.proofs.Common.{ℕ, ◌+◌, ◌*◌, ap, sym, ◌∙◌, arith}
use Rattle.std.specs.Prelude.{min}
use Rattle.std.proofs.lemmas.List.{length-map}
use Rattle.file_spec.specs.Conferences.{meaning_of}
use Rattle.sent_log.specs.States.{recording_of}
use Rattle.sent_log.specs.Files.{recordings_of}
use Rattle.rtt_mix.proofs.Joining.{more_parts, part_is}
use Rattle.rtt_mix.proofs.parts.part_of.Goals as goal

pub views_between-requires-clause-order : goal.views_between-requires-clause-order
views_between-requires-clause-order c = omega (arith, c.begin_of-from.ensures, c.begin_of-to.ensures, more_parts c.args.number c.args.size, c.terminals.ensures, c.terminals-2.ensures)

pub returns : goal.returns
returns c =
    let log = c.args.log.now in
    let number = c.args.number in
    let size = c.args.size in
    let all = length-map log recording_of in
    let first = c.terminals.ensures ∙ sym all in
    let second = c.terminals-2.ensures ∙ sym all in
    part_is (meaning_of c.args.conference.now) (recordings_of log) size number c.begin_of-from.result c.begin_of-to.result c.views_between.result
    (c.begin_of-from.ensures ∙ ap (λ (n : ℕ). min (number * size) n) first) (c.begin_of-to.ensures ∙ ap (λ (n : ℕ). min ((number + 1) * size) n) second)
    (omega (arith, all, c.requires.each, c.args.conference.now.kept.legs.most)) c.views_between.ensures.views c.views_between.ensures.numbers

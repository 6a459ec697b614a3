use Rattle.std.proofs.Common.{ℕ, List, [], length, ap, subst, sym, ◌∙◌, arith}
use Rattle.packetizer.specs.Speakers.{text_of}
use Rattle.sent_log.specs.States.{AreLawful, HasSource, State, sent_to}
use Rattle.sent_log.proofs.Trials.{counted_is_lawful, one_counted}
use Rattle.sent_log.proofs.file_tests.log_of.Goals as goal

pub send-requires-clause-source : goal.send-requires-clause-source
send-requires-clause-source c = subst (λ (s : State). HasSource s 0 0) (sym c.loop-number.invariant) (omega arith)

pub loop-number-preserved : goal.loop-number-preserved
loop-number-preserved c =
    let n = c.loop-number.number in
    let log = c.loop-number.log in
    c.in_ok-send.ensures.ok
    ∙ (ap (λ (media : ℕ). sent_to 0 n (λ sources. text_of sources 0 media c.args.text.now) log) c.from.ensures
    ∙ (ap (λ (text : List ℕ). sent_to 0 n (λ sources. text_of sources 0 n text) log) c.requires.text
    ∙ (ap (λ (s : State). sent_to 0 n (λ sources. text_of sources 0 n []) s) c.loop-number.invariant ∙ one_counted c.args.stream n)))

pub returns-clause-one : goal.returns-clause-one
returns-clause-one c = ap (λ (s : State). length s) c.loop-number.invariant

pub returns-clause-lawful : goal.returns-clause-lawful
returns-clause-lawful c =
    subst (λ (s : State). AreLawful s) (sym c.loop-number.invariant) (counted_is_lawful c.args.stream c.requires.generations c.loop-number.number (omega arith))

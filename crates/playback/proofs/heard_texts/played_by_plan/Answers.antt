use Rattle.std.proofs.Common.{List, ℕ, subst}
use Rattle.mixer_spec.specs.Arrives.{came}
use Rattle.sent_log.specs.States.{records_of, recording_of}
use Rattle.terminal.specs.Terminals.{Heard}
use Rattle.playback.proofs.SameRecords.{one_recording}
use Rattle.playback.proofs.heard_texts.played_by_plan.Goals as goal

pub returns-clause-heard : goal.returns-clause-heard
returns-clause-heard c = λ x at records w.
    subst (λ (rs : List (ℕ × List ℕ)). Heard c.finish.new.self c.args.settings c.args.sources.now (came c.args.plan.now c.args.terminal rs))
    (one_recording (recording_of x) (records_of x.settings x.sent) records (c.requires.sent x at).written w)
    (c.in_ok-finish.ensures.heard c.args.settings c.args.sources.now _ (c.in_ok-hear.ensures.listens x at c.args.settings c.args.sources.now c.in_ok-heard.ensures.listens))

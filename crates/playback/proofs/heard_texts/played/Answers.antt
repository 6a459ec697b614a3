use Rattle.std.proofs.Common.{ℕ, List, sym, subst}
use Rattle.wire_spec.specs.Dump.{Item}
use Rattle.mixer_spec.specs.Arrives.{came}
use Rattle.sent_log.specs.States.{records_of, recording_of}
use Rattle.terminal.specs.Terminals.{Heard}
use Rattle.playback.proofs.SameRecords.{one_recording}
use Rattle.playback.proofs.SaidTexts.{if_ok}
use Rattle.playback.proofs.heard_texts.played.Goals as goal

pub returns-then-hears_all-clause-heard : goal.returns-then-hears_all-clause-heard
returns-then-hears_all-clause-heard c =
    let all = c.hears_all.ensures c.if-hears_all.true in
    if_ok c.heard_all.result c.heard_all.ensures.heard (λ h f x at records w.
    subst (λ (rs : List (ℕ × List ℕ)). Heard h c.args.settings c.args.sources.now (came c.args.plan.now c.args.terminal rs))
    (one_recording (recording_of x) (records_of x.settings x.sent) records (c.requires.sent x at).written w)
    (subst (λ (items : List Item). Heard h c.args.settings c.args.sources.now items) (sym (all.same x at)) (f x at)))

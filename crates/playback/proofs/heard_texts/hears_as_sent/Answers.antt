use Rattle.std.proofs.Common.{ℕ, List, sym, subst}
use Rattle.wire_spec.specs.Dump.{Item}
use Rattle.mixer_spec.specs.Arrives.{came}
use Rattle.sent_log.specs.States.{records_of, recording_of, sents}
use Rattle.terminal.specs.Terminals.{reception}
use Rattle.playback.specs.Whole.{IsHeardAsSent}
use Rattle.playback.proofs.SameRecords.{one_recording}
use Rattle.playback.proofs.SaidTexts.{heard_as_sent}
use Rattle.playback.proofs.heard_texts.hears_as_sent.Goals as goal

pub returns : goal.returns
returns c = λ e x at records w.
    let all = c.hears_all.ensures e in
    subst (λ (rs : List (ℕ × List ℕ)). IsHeardAsSent (reception c.args.settings) (sents x.sent) (came c.args.plan.now c.args.terminal rs))
    (one_recording (recording_of x) (records_of x.settings x.sent) records (c.requires.sent x at).written w)
    (subst (λ (items : List Item). IsHeardAsSent (reception c.args.settings) (sents x.sent) items) (sym (all.same x at))
    (heard_as_sent x c.args.settings (c.requires.sent x at) (all.stream x at) c.has_32_bits.ensures))

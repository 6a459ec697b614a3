use Rattle.std.proofs.Common.{ap, not, sym, ◌∙◌}
use Rattle.std.proofs.lemmas.Bool.{true≢false}
use Rattle.sent_log.specs.States.{records_of}
use Rattle.playback.proofs.PlayedCopies.{unspoken}
use Rattle.playback.proofs.PlayedUnplanned.{as_written}
use Rattle.playback.proofs.heard_texts.hears_all.Goals.{then-not-speaks_of, else-not-speaks_of}
use Rattle.playback.proofs.heard_texts.hears_all.Goals as goal

pub returns-then-never_falls : goal.returns-then-never_falls
returns-then-never_falls c = elim c.if-not-speaks_of.branch [
  | then-not-speaks_of w ↦ λ e. record {
    stream = c.is_stream.ensures e;
    same = λ x at. as_written c.args.plan.now c.args.terminal (records_of x.settings x.sent) (unspoken c.args.plan.now c.args.terminal (sym c.speaks_of.ensures ∙ w.if-not-speaks_of.true))
        (w.never_falls.ensures (sym w.value-is ∙ c.if-never_falls.true) x at);
  }
  | else-not-speaks_of w ↦ absurd (true≢false ((sym c.if-never_falls.true ∙ w.value-is) ∙ ap not w.if-not-speaks_of.false))
]

use Rattle.std.proofs.Common.{false, refl, ap, ℕ}
use Rattle.receiver.specs.declared.cuts.TextCut.TheVariants.{Never}
use Rattle.recording_views.proofs.Writing.{begins, begins_giving}
use Rattle.recording_views.proofs.heard_texts.ear_for.Goals as goal

pub returns-clause-begun : goal.returns-clause-begun
returns-clause-begun c =
    begins c.new.result _ _ c.args.request (ap (λ (n : ℕ). record { ssrc = c.args.request.ssrc; payload_types = c.args.request.payload_types; wait = n; long = false; cut = Never }) c.from.ensures) refl c.new.ensures.gave

pub returns-clause-giving : goal.returns-clause-giving
returns-clause-giving c = begins_giving c.new.result _ _ c.args.request refl c.new.ensures.gave

use Rattle.std.proofs.Common.{◌∙◌, ℕ, List, ap, sym, subst}
use Rattle.std.specs.Prelude.{AllPairs, remove, ◌≢◌}
use Rattle.file_spec.specs.declared.conference_lines.LegLine.{LegLine}
use Rattle.file_spec.specs.Speakers.{ssrcs_of}
use Rattle.mixer_posts.proofs.LegLines.{ssrcs_differ}
use Rattle.rtt_live.proofs.listeners.listener_of.Goals as goal

pub new-requires-clause-differ : goal.new-requires-clause-differ
new-requires-clause-differ c =
    subst (λ (xs : List ℕ). AllPairs (λ a b. a ≢ b) xs) (sym (c.in_ok-speakers.ensures.sources ∙ ap (λ (ls : List LegLine). ssrcs_of (remove ls c.args.own)) c.as_slice-then-leg.ensures))
    (ssrcs_differ c.args.conference.now.legs c.args.own c.requires c.args.conference.now.kept.legs.differ)

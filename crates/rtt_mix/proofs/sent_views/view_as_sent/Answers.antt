use Rattle.std.proofs.Common.{◌++◌, ◌∙◌, ℕ, List, ap}
use Rattle.std.specs.Prelude.{flat_map}
use Rattle.std.specs.List.{concat}
use Rattle.view_spec.specs.Views.{aware_title, aware_view, counts_line, source_view}
use Rattle.sent_log.specs.States.{sents}
use Rattle.terminal.specs.Terminals.{all_used}
use Rattle.rtt_mix.specs.SentViews.{said_of}
use Rattle.rtt_mix.proofs.sent_views.view_as_sent.Goals as goal

pub returns-then-whole : goal.returns-then-whole
unfolding aware_view
returns-then-whole c = λ x at.
    let title = aware_title c.args.name.now in
    let shown = flat_map source_view (said_of c.args.names.now c.args.sources.now (sents x.sent)) in
    c.in_ok-add_counts.ensures
    ∙ (ap (λ (xs : List ℕ). xs ++ counts_line (all_used c.count-packets.result))
    (c.in_ok-whole.ensures c.if-whole.true x at ∙ ap (λ (xs : List ℕ). xs ++ shown) (c.in_ok-add_title.ensures ∙ ap (λ (ps : List (List ℕ)). concat ps ++ title) c.new-pieces.ensures.items))
    ∙ ap (λ (k : ℕ). (title ++ shown) ++ counts_line (all_used k)) (c.count-packets.ensures x at))

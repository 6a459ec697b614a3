use Rattle.std.proofs.Common.{◌≡◌, ◌++◌, ℕ, List, [], length, refl, sym, ap, subst, ◌∙◌}
use Rattle.std.specs.List.{concat}
use Rattle.receiver.specs.declared.source_texts.SourceText.{SourceText}
use Rattle.view_spec.specs.declared.counts.Counts.{Counts}
use Rattle.view_spec.specs.Views.{aware_view}
use Rattle.terminal.specs.declared.views.View.{View}
use Rattle.terminal.specs.declared.views.View.TheVariants.{Aware}
use Rattle.terminal.specs.Terminals.{AreUtf8, IsWhole, counts_of, texts_of}
use Rattle.terminal.specs.Views.{Fits, named, view_of}
use Rattle.terminal.proofs.Seeing.{view_is_seen}
use Rattle.rtt_mix.specs.Shown.{AddsView}
use Rattle.rtt_mix.proofs.showing.add_shown.Goals as goal
use Rattle.wire_spec.proofs.Plain.{on_ok}

pub add_aware-requires-clause-each : goal.add_aware-requires-clause-each
add_aware-requires-clause-each c =
    let t = c.args.terminal.now in
    let whole : IsWhole t = sym c.is_spent.ensures ∙ c.if-is_spent.false in
    subst (λ (v : View). Fits v (length (texts_of t))) c.in-Aware.is (c.requires.fits whole) ∙ ap (λ (ts : List SourceText). length ts) (sym c.heard-texts.ensures)

pub add_aware-requires-clause-utf8 : goal.add_aware-requires-clause-utf8
add_aware-requires-clause-utf8 c =
    let whole : IsWhole c.args.terminal.now = sym c.is_spent.ensures ∙ c.if-is_spent.false in
    subst (λ (ts : List SourceText). AreUtf8 ts) (sym c.heard-texts.ensures) (c.requires.finished whole).3.utf8

pub returns : goal.returns
returns c =
    let t = c.args.terminal.now in
    let name = c.in-Aware.name.now in
    let names = c.in-Aware.names.now in
    let before = concat c.args.pieces.now.items in
    on_ok c.add_aware.result c.add_aware.ensures (λ e.
    subst (λ (v : View). AddsView t v c.args.pieces.now.items c.add_aware.new.pieces.items) (sym c.in-Aware.is)
    (record {
      shown = aware_view name (named names (texts_of t)) (counts_of t);
      is_shown = view_is_seen t (Aware c.in-Aware.name c.in-Aware.names) [] (aware_view name (named names (texts_of t)) (counts_of t)) refl;
      added = e
          ∙ (ap (λ (ts : List SourceText). before ++ aware_view name (named names ts) c.counts.result) c.heard-texts.ensures
          ∙ ap (λ (n : Counts). before ++ aware_view name (named names (texts_of t)) n) c.counts.ensures);
    }))

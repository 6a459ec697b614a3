use Rattle.std.proofs.Common.{◌∙◌, [], ◌∷◌, ◌++◌, ℕ, List, ap}
use Rattle.std.specs.List.{concat}
use Rattle.std.proofs.lemmas.List.{append-nil}
use Rattle.std.proofs.lemmas.List.Folds.{concat-append}
use Rattle.rtt_live.proofs.reports.ViewParts.push.Goals as goal

pub returns : goal.returns
returns c =
    let parts = c.self.inside.parts.items in
    ap concat c.in_ok-push.ensures.items ∙ (concat-append parts (c.args.part ∷ []) ∙ (ap (λ (xs : List ℕ). concat parts ++ xs) (append-nil c.args.part)
    ∙ ap (λ (xs : List ℕ). xs ++ c.args.part) c.self.view_is))

use Rattle.std.proofs.Common.{◌≡◌, ◌∷◌, ◌++◌, [], ℕ, List, ap, subst, sym, ◌∙◌}
use Rattle.sent_log.specs.Lists.{EachGrows}
use Rattle.sent_log.proofs.Growing.{each_on, each_push}
use Rattle.sent_log.proofs.terminals.make_lists.Goals as goal

pub loop-alloc-preserved : goal.loop-alloc-preserved
loop-alloc-preserved c =
    let lists = c.loop-alloc.texts.items in
    let more : c.push.new.self.items ≡ lists ++ [] ∷ [] = c.in_ok-push.ensures.items ∙ ap (λ (xs : List ℕ). lists ++ xs ∷ []) c.new.ensures in
    each_on c.args.texts.now.items lists c.push.new.self.items c.loop-alloc.invariant (subst (λ (ys : List (List ℕ)). EachGrows lists ys) (sym more) (each_push lists))

use Rattle.std.proofs.Common.{List, ap, sym, subst, arith}
use mathlib.Core.List.{IsPrefix}
use Rattle.live_board.specs.declared.histories.BoardEntry.{BoardEntry}
use Rattle.live_board.specs.declared.pages.Page.{Page}
use Rattle.live_board.specs.Pages.{IsFurther}
use Rattle.live_board.proofs.Keeping.{go_further}
use Rattle.live_board.proofs.page_copies.go_to.Goals as goal

pub returns-then-found-page-clause-further : goal.returns-then-found-page-clause-further
returns-then-found-page-clause-further c =
    let x = c.args.page.now in
    let y = c.args.found.now in
    let both = c.learn.new.self.log in
    let first : IsPrefix x.seen.log both = subst (λ (l : List BoardEntry). IsPrefix l both) (ap (λ s. s.log) c.again-both.ensures) c.learn.ensures.2 in
    subst (λ (z : Page). IsFurther x z) (sym c.copy_from.ensures)
    (go_further x y both c.requires.good.0 c.requires.good.1 c.requires.book (sym c.requires.wide) first c.learn.ensures.3 (omega (arith, c.if-found-page.true)))

pub returns-clause-told : goal.returns-clause-told
returns-clause-told c =
    let x = c.args.page.now in
    let y = c.args.found.now in
    let both = c.learn.new.self.log in
    let first : IsPrefix x.seen.log both = subst (λ (l : List BoardEntry). IsPrefix l both) (ap (λ s. s.log) c.again-both.ensures) c.learn.ensures.2 in
    go_further y x both c.requires.good.1 c.requires.good.0 (sym c.requires.book) c.requires.wide c.learn.ensures.3 first (omega (arith, c.if-found-page.false))

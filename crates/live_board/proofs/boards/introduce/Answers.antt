use Rattle.std.proofs.Common.{◌≡◌, ◌++◌, ◌∷◌, [], List, drop, false, ap, sym, ◌∙◌, subst}
use Rattle.live_board.specs.declared.histories.Fresh.{Fresh}
use Rattle.live_board.specs.declared.histories.BoardEntry.{BoardEntry}
use Rattle.live_board.specs.declared.pages.Page.{Page}
use Rattle.live_board.specs.declared.pages.Publish.{Publish}
use Rattle.live_board.specs.Histories.{changes_of, ended_in, head_of, octets_of}
use Rattle.live_board.specs.Pages.{IsGood, IsNext}
use Rattle.live_board.proofs.Keeping.{laid, laid_wide, share_can}
use Rattle.live_board.proofs.boards.introduce.Goals as goal

pub next-publish-requires-clause-good : goal.next-publish-requires-clause-good
next-publish-requires-clause-good g c = subst IsGood (sym c.published-page.ensures) c.requires.good

pub next-publish-requires-clause-going : goal.next-publish-requires-clause-going
next-publish-requires-clause-going g c = ap (λ (y : Page). ended_in y.seen.log) c.published-page.ensures ∙ ap ended_in c.requires.new

pub next-publish-requires-clause-head : goal.next-publish-requires-clause-head
next-publish-requires-clause-head g c = c.requires.head ∙ ap (λ (y : Page). head_of y.seen.book) (sym c.published-page.ensures)

pub next-publish-requires-clause-counted : goal.next-publish-requires-clause-counted
next-publish-requires-clause-counted g c =
    let none = c.new.result.items in
    sym (ap (λ (y : Page). octets_of (changes_of y.seen.log ++ none)) c.published-page.ensures ∙ (ap (λ (l : List BoardEntry). octets_of (changes_of l ++ none)) c.requires.new ∙ ap octets_of c.new.ensures.items))

pub show-requires : goal.show-requires
show-requires g c =
    let x : Page = c.args.outer.desk.shown.value in
    let x' : Page = c.append.new.self.desk.shown.value in
    let p : Publish = c.next-publish.result in
    let next : IsNext x p = subst (λ (y : Page). IsNext y p) c.published-page.ensures c.next-publish.ensures.next in
    let same : x' ≡ x = ap (λ d. d.shown.value) c.in-Ok.ensures.desk in
    let one : drop c.append.new.self.behind c.append.new.self.log.items ≡ p ∷ [] = c.in-Ok.ensures.pending ∙ ap (λ (l : List Publish). l ++ p ∷ []) c.requires.none in
    share_can x x' _ p same one c.requires.good next

pub returns-in-Ok-clause-laid : goal.returns-in-Ok-clause-laid
returns-in-Ok-clause-laid g c =
    let x : Page = c.args.outer.desk.shown.value in
    let x' : Page = c.append.new.self.desk.shown.value in
    let p : Publish = c.next-publish.result in
    let next : IsNext x p = subst (λ (y : Page). IsNext y p) c.published-page.ensures c.next-publish.ensures.next in
    let same : x' ≡ x = ap (λ d. d.shown.value) c.in-Ok.ensures.desk in
    let one : drop c.append.new.self.behind c.append.new.self.log.items ≡ p ∷ [] = c.in-Ok.ensures.pending ∙ ap (λ (l : List Publish). l ++ p ∷ []) c.requires.none in
    let none : p.fresh.chunks.items ≡ [] = ap (λ (f : Fresh). f.chunks.items) c.next-publish.ensures.fresh ∙ c.new.ensures.items in
    let going : p.fresh.ends ≡ false = ap (λ (f : Fresh). f.ends) c.next-publish.ensures.fresh in
    laid x x' c.show.result.desk.shown.value _ _ p _ _ same one c.requires.new c.requires.head next none going c.show.ensures.shown c.show.ensures.view

pub returns-in-Ok-clause-wide : goal.returns-in-Ok-clause-wide
returns-in-Ok-clause-wide g c =
    let x : Page = c.args.outer.desk.shown.value in
    let x' : Page = c.append.new.self.desk.shown.value in
    let p : Publish = c.next-publish.result in
    let next : IsNext x p = subst (λ (y : Page). IsNext y p) c.published-page.ensures c.next-publish.ensures.next in
    let same : x' ≡ x = ap (λ d. d.shown.value) c.in-Ok.ensures.desk in
    let one : drop c.append.new.self.behind c.append.new.self.log.items ≡ p ∷ [] = c.in-Ok.ensures.pending ∙ ap (λ (l : List Publish). l ++ p ∷ []) c.requires.none in
    laid_wide x x' c.show.result.desk.shown.value _ _ p same one c.requires.good next c.show.ensures.shown

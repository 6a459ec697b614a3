use Rattle.std.proofs.Common.{◌≡◌, ◌++◌, [], false, length, ap, sym, ◌∙◌, subst}
use Rattle.live_board.specs.declared.histories.Fresh.{Fresh}
use Rattle.live_board.specs.declared.pages.Page.{Page}
use Rattle.live_board.specs.declared.pages.Publish.{Publish}
use Rattle.live_board.specs.Histories.{changes_of, ended_in, head_of, octets_of}
use Rattle.live_board.specs.Pages.{IsGood, IsNext}
use Rattle.live_board.specs.Values.{Writing}
use Rattle.live_board.specs.Views.{board_of, writing_of}
use Rattle.live_board.proofs.Keeping.{share_can, share_after, share_view}
use Rattle.live_board.proofs.writers.BoardWriter.share.Goals as goal

pub next-publish-requires-clause-good : goal.next-publish-requires-clause-good
next-publish-requires-clause-good g c = subst IsGood (sym c.published-page.ensures) c.self.invariant.good

pub next-publish-requires-clause-going : goal.next-publish-requires-clause-going
next-publish-requires-clause-going g c = ap (λ (y : Page). ended_in y.seen.log) c.published-page.ensures ∙ (ap (λ (w : Writing). w.ended) c.self.view_is ∙ c.requires)

pub next-publish-requires-clause-head : goal.next-publish-requires-clause-head
next-publish-requires-clause-head g c = c.self.invariant.word_is ∙ ap (λ (y : Page). head_of y.seen.book) (sym c.published-page.ensures)

pub next-publish-requires-clause-counted : goal.next-publish-requires-clause-counted
next-publish-requires-clause-counted g c =
    c.self.invariant.counted ∙ (ap (λ v. octets_of (changes_of c.self.inside.outer.desk.shown.value.seen.log ++ v.items)) (sym c.replace.ensures.value)
    ∙ ap (λ (y : Page). octets_of (changes_of y.seen.log ++ c.replace.result.items)) (sym c.published-page.ensures))

pub replace_with-requires : goal.replace_with-requires
replace_with-requires g c =
    let x : Page = c.self.inside.outer.desk.shown.value in
    let p : Publish = c.next-publish.result in
    let page : c.published-page.result.now ≡ x = c.published-page.ensures in
    let next : IsNext x p = subst (λ (y : Page). IsNext y p) page c.next-publish.ensures.next in
    let x' : Page = c.queue.new.outer.desk.shown.value in
    let same : x' ≡ x = ap (λ d. d.shown.value) c.queue.ensures.desk in
    share_can x x' _ p same c.queue.ensures.one c.self.invariant.good next

pub invariant_of-self : goal.invariant_of-self
invariant_of-self g c =
    let x : Page = c.self.inside.outer.desk.shown.value in
    let p : Publish = c.next-publish.result in
    let page : c.published-page.result.now ≡ x = c.published-page.ensures in
    let next : IsNext x p = subst (λ (y : Page). IsNext y p) page c.next-publish.ensures.next in
    let x' : Page = c.queue.new.outer.desk.shown.value in
    let same : x' ≡ x = ap (λ d. d.shown.value) c.queue.ensures.desk in
    let counted : c.self.inside.octets ≡ octets_of (changes_of x.seen.log ++ p.fresh.chunks.items) =
    c.self.invariant.counted ∙ (ap (λ v. octets_of (changes_of x.seen.log ++ v.items)) (sym c.replace.ensures.value)
    ∙ ap (λ (f : Fresh). octets_of (changes_of x.seen.log ++ f.chunks.items)) (sym c.next-publish.ensures.fresh)) in
    share_after x x' _ _ _ p _ _ _ same c.queue.ensures.one next c.replace_with.ensures c.self.invariant.word_is (ap (λ v. v.items) c.replace.ensures.after ∙ c.new.ensures.items) counted

pub returns : goal.returns
returns g c =
    let x : Page = c.self.inside.outer.desk.shown.value in
    let p : Publish = c.next-publish.result in
    let page : c.published-page.result.now ≡ x = c.published-page.ensures in
    let next : IsNext x p = subst (λ (y : Page). IsNext y p) page c.next-publish.ensures.next in
    let x' : Page = c.queue.new.outer.desk.shown.value in
    let same : x' ≡ x = ap (λ d. d.shown.value) c.queue.ensures.desk in
    let going : ended_in x.seen.log ≡ false = ap (λ (w : Writing). w.ended) c.self.view_is ∙ c.requires in
    let none = ap (λ v. v.items) c.replace.ensures.after ∙ c.new.ensures.items in
    let before = ap (λ v. writing_of x v.items) c.replace.ensures.value ∙ c.self.view_is in
    share_view x x' _ _ _ p _ same c.queue.ensures.one c.self.invariant.good next going c.replace_with.ensures none
    ∙ (ap (λ (f : Fresh). let r : Writing = record { board = board_of x; legs = length x.sheet; published = changes_of x.seen.log ++ f.chunks.items; pending = []; ended = f.ends } in r) c.next-publish.ensures.fresh
    ∙ ap (λ (w : Writing). let r : Writing = record { board = w.board; legs = w.legs; published = w.published ++ w.pending; pending = []; ended = c.args.ends } in r) before)

use Rattle.std.proofs.Common.{◌++◌, List, ℕ, drop, length, ap, sym, ◌∙◌, arith}
use Rattle.std.proofs.lemmas.Bool.Decides.{Decides-eqb}
use Rattle.std.proofs.lemmas.Slice.Eq.{starts_is}
use Rattle.sent_log.proofs.Agreeing.{agrees_front, agrees_whole, rest_is, rest_of}
use Rattle.sent_log.proofs.text_lists.TextList.agrees.Goals as goal

pub returns-then-starts_with : goal.returns-then-starts_with
returns-then-starts_with c = λ e.
    let text = c.args.text.now in
    let there = rest_of c.as_slice.result.now c.args.place in
    let front = (starts_is Decides-eqb there text c.starts_with.result c.starts_with.ensures.value).0 e in
    let whole = sym (rest_is c.args.self.now c.as_slice.result.now c.args.place (c.as_slice.ensures ∙ c.self.view_is)) ∙ front in
    agrees_front c.args.self.now c.args.place text (drop (length text) there) (omega (arith, ap length c.self.view_is)) whole

pub returns-else-starts_with : goal.returns-else-starts_with
returns-else-starts_with c = λ e.
    let text = c.args.text.now in
    let there = rest_of c.as_slice.result.now c.args.place in
    let front = (starts_is Decides-eqb text there c.starts_with-else-starts_with.result c.starts_with-else-starts_with.ensures.value).0 e in
    let whole = rest_is c.args.self.now c.as_slice.result.now c.args.place (c.as_slice.ensures ∙ c.self.view_is) in
    let more = drop (length there) text in
    agrees_whole c.args.self.now c.args.place text more (omega (arith, ap length c.self.view_is)) (front ∙ ap (λ (xs : List ℕ). xs ++ more) whole)

use Rattle.std.proofs.Common.{◌≡◌, ◌+◌, ◌-◌, ◌≤◌, ◌++◌, ℕ, List, drop, length, take, refl, ap, ◌∙◌, arith}
use Rattle.std.proofs.lemmas.List.{length-take, with_items_is}
use Rattle.sent_log.proofs.Overwriting.{spliced, spliced_length, within_first}
use Rattle.sent_log.proofs.pages.Page.overwrite.Goals as goal

pub overflow_add-end : goal.overflow_add-end
overflow_add-end c =
    let size : length c.args.self.now ≤ c.self.inside.len = omega (arith, ap (λ (xs : List ℕ). length xs) c.self.view_is, length-take c.self.inside.len c.self.inside.octets.items) in
    omega (arith, c.requires, size, c.self.invariant.0)

pub returns : goal.returns
returns c =
    let v = c.self.inside.octets in
    let n = c.self.inside.len in
    let place = c.args.place in
    let octets = c.args.octets.now in
    let end = place + length octets in
    let shown = c.deref_mut.result.now in
    let parts = spliced v.items shown c.copy_from_slice.new.self octets place end c.deref_mut.ensures.value c.copy_from_slice.ensures.after refl in
    let few : n ≤ length v.items = omega (arith, c.self.invariant.0, c.self.invariant.1) in
    let size : length c.args.self.now ≤ n = omega (arith, ap (λ (xs : List ℕ). length xs) c.self.view_is, length-take n v.items) in
    let within : end ≤ n = omega (arith, c.requires, size) in
    let all = take place shown ++ (c.copy_from_slice.new.self ++ drop (end - place) (drop place shown)) in
    let same : length all ≡ length v.items = ap (λ (xs : List ℕ). length xs) parts ∙ spliced_length v.items octets place end refl (omega (arith, within, few)) in
    let is = with_items_is v all (omega (arith, same, v.ok.0)) in
    ap (λ (xs : List ℕ). take n xs) (is ∙ parts)
    ∙ (within_first n place end v.items octets refl within few ∙ ap (λ (xs : List ℕ). take place xs ++ (octets ++ drop end xs)) c.self.view_is)

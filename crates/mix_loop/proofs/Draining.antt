-- Of items that are covered and have the end nothing is missing.
use Rattle.std.proofs.Common.{◌≡◌, true, false, List, [], ◌∷◌, ◌++◌, length, length-append, refl, ap, sym, ◌∙◌, subst, append_assoc, arith}
use Rattle.std.specs.Prelude.{if◌then◌else◌}
use Rattle.std.proofs.lemmas.List.{append-nil}
use Rattle.stream_spec.specs.Ready.{Chunk}
use Rattle.stream_spec.specs.Links.{Takes, is_closed}
use Rattle.live_spec.specs.Told.{Hearing, all_by, all_told, ready_by, ready_told, told_by}
use Rattle.live_leg.specs.Items.{texts_in}
use Rattle.live_leg.proofs.Texts.{texts_append}
use Rattle.mix_loop.specs.Laws.{EndIsCovered}
use Rattle.mix_loop.specs.Signals.{IsOpenBefore}
use Rattle.mix_loop.proofs.CallFinding.{find_end}
use Rattle.mix_loop.proofs.CallOpening.{none_later, told_closed}

-- of a closed link all is ready
pub whole_ready : (h : Hearing) (takes : Takes) → is_closed takes ≡ true → ready_by h takes ≡ all_by h takes
whole_ready h takes c = ap (λ b. if b then all_told h (told_by h takes) else ready_told h (record (told_by h takes) { closed = false })) (told_closed h takes c)

pub nothing : (cs : List Chunk) → length cs ≡ 0 → cs ≡ []
nothing [] e = refl
nothing (c ∷ cs) e = absurd (omega (arith, e))

-- of two lists, each of which is a front of the other
both_fronts : (xs all more rest : List Chunk) → xs ≡ all ++ more → all ≡ xs ++ rest → xs ≡ all
both_fronts xs all more rest e f =
    let a = length-append all more in
    let b = length-append xs rest in
    let c = ap length e in
    let d = ap length f in
    e ∙ (ap (λ cs. all ++ cs) (nothing more (omega (arith, a, b, c, d))) ∙ append-nil all)

pub covered_end : EndIsCovered
covered_end h takes items w ends =
    let f = find_end h w.counting w.given items w.left w.tail w.are w.no_signals w.items_are ends in
    let are : takes ≡ (w.later ++ f.later) ++ f.first = w.takes_are ∙ (ap (λ k. w.later ++ k) f.are ∙ sym (append_assoc w.later f.later f.first)) in
    let none = none_later (w.later ++ f.later) f.first (subst IsOpenBefore are w.last) f.enough in
    let is : f.first ≡ takes = sym (are ∙ ap (λ l. l ++ f.first) none) in
    let closed : is_closed takes ≡ true = ap is_closed (sym is) ∙ f.enough in
    let texts = texts_in h.leg items in
    let all = all_by h takes in
    let above : texts ≡ all ++ f.took.0 = f.took.1 ∙ ap (λ cs. cs ++ f.took.0) (ap (λ (k : Takes). ready_by h k) is ∙ whole_ready h takes closed) in
    let below : all ≡ texts ++ (texts_in h.leg w.left ++ w.front.0) = w.front.1
    ∙ (ap (λ l. texts_in h.leg l ++ w.front.0) (sym w.items_are) ∙ (ap (λ cs. cs ++ w.front.0) (texts_append h.leg items w.left) ∙ append_assoc texts (texts_in h.leg w.left) w.front.0)) in
    (closed, both_fronts texts all f.took.0 (texts_in h.leg w.left ++ w.front.0) above below)

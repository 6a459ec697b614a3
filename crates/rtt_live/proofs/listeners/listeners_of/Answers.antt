use Rattle.std.proofs.Common.{◌∙◌, ◌+◌, List, ap, sym, subst, length}
use Rattle.std.proofs.lemmas.List.{length_push}
use Rattle.rtt_live.specs.Listeners.{Listening, NoneHeard}
use Rattle.rtt_live.proofs.Speaking.{none_more}
use Rattle.rtt_live.proofs.listeners.listeners_of.Goals as goal

pub loop-own-preserved : goal.loop-own-preserved
loop-own-preserved c =
    let items = c.in_ok-push.ensures.items in
    let now = c.loop-own.listeners.items in
    let l = c.in_ok-listener_of.field-0 in (
      ap (λ (xs : List Listening). length xs) items ∙ (length_push now l ∙ ap (λ n. n + 1) c.loop-own.invariant.0),
      subst (λ (xs : List Listening). NoneHeard xs) (sym items) (none_more now l c.loop-own.invariant.1 c.in_ok-listener_of.ensures),
    )

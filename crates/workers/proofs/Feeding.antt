-- What a step of a feed adds.
use Rattle.std.proofs.Common.{◌≡◌, Bool, true, Option, Some, None, List, [], ◌∷◌, ◌++◌, length, refl, ap, sym, ◌∙◌, subst, arith, length-append}
use Rattle.std.specs.Prelude.{is_none, option_to_list}
use Rattle.workers.specs.declared.feeds.Feed.{Feed}
use Rattle.workers.specs.declared.passes.PushPass.{PushPass}
use Rattle.workers.specs.Passes.{pushed}
use Rattle.workers.specs.Feeds.{has_of, is_empty}
use Rattle.std.proofs.lemmas.List.{append-nil}

module _ {Q : Type 0} where
  -- what adds no item is nothing
  nothing_more : (hand : Option Q) (xs : List Q) → xs ++ option_to_list hand ≡ xs → is_none hand ≡ true
  nothing_more None xs e = refl
  nothing_more (Some x) xs e = absurd (let l = ap (λ (q : List Q). length q) e in let m = length-append xs (x ∷ []) in omega (arith, l, m))

  pub empty_has : (hand : Option Q) (xs : List Q) → is_none hand ≡ true → xs ++ option_to_list hand ≡ xs
  empty_has None xs e = append-nil xs
  empty_has (Some x) xs e = absurd (cc e)

module _ {Q F : Type 0} where
  -- a hand that was empty is empty still, where nothing was added
  pub still_empty : (old mid new : Feed Q F) → is_empty old ≡ true → mid.pass ≡ old.pass → has_of new ≡ has_of mid → has_of new ≡ has_of old → is_empty mid ≡ true
  still_empty old mid new empty pass kept none =
      nothing_more mid.hand (pushed old.pass)
      (ap (λ (p : PushPass Q). pushed p ++ option_to_list mid.hand) (sym pass) ∙ (sym kept ∙ (none ∙ empty_has old.hand (pushed old.pass) empty)))

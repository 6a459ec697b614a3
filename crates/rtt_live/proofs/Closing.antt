-- Ends of links that are handed back, from the last one on.
use Rattle.std.proofs.Common.{◌≡◌, ◌≢◌, ℕ, true, ◌+◌, ◌≤◌, ◌⊎◌, inl, inr, Some, List, [], ◌∷◌, ◌++◌, length, ap, subst, sym, ◌∙◌, arith}
use Rattle.std.specs.Prelude.{Bool, slice_get}
use Rattle.std.proofs.lemmas.Bool.{cases_eq, cases_lt}
use Rattle.rtt_io.specs.Counts.{Rose, counted, last_count}
use Rattle.mixer_posts.proofs.Backward.{left_or_last}
use Rattle.rtt_live.specs.Opened.{GivesNothing, HaveOwnPorts}

-- a count of faults that rose, behind others
rose_behind : (before between after faults : ℕ) → before ≤ between → after ≡ counted between faults → Rose 0 faults → Rose before after
rose_behind before between after faults l e (inl r) = elim (cases_lt (between + faults) last_count) [ inl lt ↦ inl (omega arith) | inr ge ↦ inr (omega arith) ]
rose_behind before between after faults l e (inr r) = inr (omega arith)

-- and one that rose stays risen
pub rose_on : (before after later : ℕ) → before ≤ after → after ≤ later → Rose before after → Rose before later
rose_on before after later l m (inl r) = inl (omega arith)
rose_on before after later l m (inr r) = elim (cases_lt last_count later) [ inl lt ↦ inl (omega arith) | inr ge ↦ inr (omega arith) ]

-- nothing is given to this port, and nothing else to any other
pub nothing_more : {K : Type 0} (port : ℕ) (first between after : ℕ → List K) → after port ≡ [] → ((p : ℕ) → p ≢ port → after p ≡ between p) → GivesNothing first between → GivesNothing first after
nothing_more port first between after none others so p = elim (cases_eq p port) [
  | inl here ↦ inr (ap after here ∙ none)
  | inr other ↦ elim (so p) [ inl same ↦ inl (others p other ∙ same) | inr empty ↦ inr (others p other ∙ empty) ]
]

-- nor between
pub nothing_then : {K : Type 0} (first between after : ℕ → List K) → GivesNothing first between → GivesNothing between after → GivesNothing first after
nothing_then first between after a b p = elim (b p) [
  | inl same ↦ elim (a p) [ inl before ↦ inl (same ∙ before) | inr empty ↦ inr (same ∙ empty) ]
  | inr empty ↦ inr empty
]

-- one was taken from the back of a front of all
module _ {X : Type 0} (all now xs : List X) (x : X) (is : now ≡ xs ++ x ∷ []) where
  -- its faults were added to those of its port
  pub failed_more : (faults port_of : X → ℕ) (before between after : ℕ → ℕ) → ((p : ℕ) → before p ≤ between p) → ((p : ℕ) → between p ≤ after p) → after (port_of x) ≡ counted (between (port_of x)) (faults x)
      → ((j : ℕ) (y : X) → slice_get all j ≡ Some y → (slice_get now j ≡ Some y) ⊎ (Rose 0 (faults y) → Rose (before (port_of y)) (between (port_of y))))
      → (j : ℕ) (y : X) → slice_get all j ≡ Some y → (slice_get xs j ≡ Some y) ⊎ (Rose 0 (faults y) → Rose (before (port_of y)) (after (port_of y)))
  failed_more faults port_of before between after never grew added failed j y e = elim (failed j y e) [
    | inl at ↦ elim (left_or_last all now xs x is j y at) [
      | inl f ↦ inl f
      | inr q ↦
          let here : after (port_of y) ≡ counted (between (port_of y)) (faults y) = subst (λ z. after (port_of z) ≡ counted (between (port_of z)) (faults z)) (sym q) added in
          inr (rose_behind (before (port_of y)) (between (port_of y)) (after (port_of y)) (faults y) (never (port_of y)) here)
    ]
    | inr past ↦ inr (λ r. rose_on (before (port_of y)) (between (port_of y)) (after (port_of y)) (never (port_of y)) (grew (port_of y)) (past r))
  ]

  -- what it has was stored at its port, and nothing at another
  pub stored_more : {K : Type 0} (has : X → K) (port_of : X → ℕ) (opened opened_then : ℕ → Bool) (between after : ℕ → K) → HaveOwnPorts port_of all → slice_get all (length xs) ≡ Some x
      → opened_then (port_of x) ≡ opened (port_of x) → (opened_then (port_of x) ≡ true → after (port_of x) ≡ has x) → ((p : ℕ) → p ≢ port_of x → after p ≡ between p)
      → ((j : ℕ) (y : X) → slice_get all j ≡ Some y → (slice_get now j ≡ Some y) ⊎ (opened (port_of y) ≡ true → between (port_of y) ≡ has y))
      → (j : ℕ) (y : X) → slice_get all j ≡ Some y → (slice_get xs j ≡ Some y) ⊎ (opened (port_of y) ≡ true → after (port_of y) ≡ has y)
  stored_more has port_of opened opened_then between after own last same here others stored j y e =
      let of_last : (z : X) → z ≡ x → opened (port_of z) ≡ true → after (port_of z) ≡ has z =
      λ z eq. subst (λ (w : X). opened (port_of w) ≡ true → after (port_of w) ≡ has w) (sym eq) (λ o. here (same ∙ o)) in
      elim (stored j y e) [
        | inl at ↦ elim (left_or_last all now xs x is j y at) [ inl f ↦ inl f | inr q ↦ inr (of_last y q) ]
        | inr past ↦ elim (cases_eq (port_of y) (port_of x)) [
          | inl both ↦
              let at : j ≡ length xs = own j (length xs) y x e last both in
              inr (of_last y (cc (sym e ∙ (ap (λ (k : ℕ). slice_get all k) at ∙ last))))
          | inr differs ↦ inr (λ o. others (port_of y) differs ∙ past o)
        ]
      ]

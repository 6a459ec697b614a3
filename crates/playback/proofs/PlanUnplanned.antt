-- What comes to a terminal of which the plan does not speak.
use Rattle.std.proofs.Common.{◌≡◌, ◌≢◌, ℕ, ◌≤◌, Bool, false, cond, inl, inr, List, [], ◌∷◌, ◌++◌, length, map, refl, ap, sym, ◌∙◌, arith, add-zero, append_assoc, length-append}
use Rattle.std.specs.Prelude.{◌==◌, ◌&&◌, suc, filter, reverse}
use Rattle.std.specs.List.Sorted.{IsNonDecreasing}
use Rattle.std.proofs.lemmas.List.{reverse-append}
use Rattle.std.proofs.lemmas.Bool.{cases_lt}
use Rattle.std.proofs.lemmas.Bool.Decides.{nat_tests}
use Rattle.file_spec.specs.declared.conference_lines.PlanLine.{PlanLine}
use Rattle.file_spec.specs.declared.conference_lines.What.{What}
use Rattle.wire_spec.specs.Packets.{Arrival}
use Rattle.mixer_spec.specs.Arrives.{Copy, all_copies, arrival, arrivals, arrivals_of_copies, arrives, copies, lines_of, one_at, times_in}
use Rattle.mixer_spec.proofs.OneOrder.{only_law}
use Rattle.playback.specs.Unplanned.{IsUnplanned}
use Rattle.playback.proofs.Order.{NotAfter, Rises, in_order_of, told}

no_lines : (plan : List PlanLine) (t k : ℕ) → IsUnplanned plan t → lines_of plan t k ≡ []
no_lines [] t k u = refl
no_lines (l ∷ ls) t k u =
    let other : l.terminal ≢ t = u l (inl refl) in
    let a : (l.terminal == t) ≡ false = grind (arith, nat_tests) in
    let rest = filter (λ (m : PlanLine). (m.terminal == t) && (m.packet == k)) ls in
    ap (λ (b : Bool). map (λ (m : PlanLine). m.what) (cond (b && (l.packet == k)) (l ∷ rest) rest)) a ∙ no_lines ls t k (λ m i. u m (inr i))

-- each packet once, from k on, at its moment
abbrev each_once : ℕ → List ℕ → List Copy
each_once k [] = []
each_once k (sent ∷ later) = record { at = sent; index = k } ∷ each_once (suc k) later

all_once : (plan : List PlanLine) (t : ℕ) → IsUnplanned plan t → (k : ℕ) (sent : List ℕ) → all_copies plan t k sent ≡ each_once k sent
all_once plan t u k [] = refl
all_once plan t u k (sent ∷ later) =
    ap (λ (lines : List What). copies lines k sent ++ all_copies plan t (suc k) later) (no_lines plan t k u)
    ∙ (ap (λ (n : ℕ). let c : Copy = record { at = n; index = k } in c ∷ all_copies plan t (suc k) later) (add-zero sent)
    ∙ ap (λ (cs : List Copy). let c : Copy = record { at = sent; index = k } in c ∷ cs) (all_once plan t u (suc k) later))

rises_once : (k : ℕ) (sent : List ℕ) → IsNonDecreasing sent → Rises (each_once k sent)
rises_once k [] h = tt
rises_once k (s ∷ []) h = tt
rises_once k (s ∷ r ∷ later) h = (told (record { at = s; index = k }) (record { at = r; index = suc k }) first, rises_once (suc k) (r ∷ later) (λ i j d low high. h (suc i) (suc j) d (omega arith) (omega arith)))
  where
    next : s ≤ r
    next = h 0 1 0 (omega arith) (omega arith)

    first : NotAfter (record { at = s; index = k }) (record { at = r; index = suc k })
    first = elim (cases_lt s r) [ inl l ↦ inl l | inr g ↦ inr (omega (arith, next), omega arith) ]

arrives_once : (plan : List PlanLine) (t : ℕ) (sent : List ℕ) → IsUnplanned plan t → IsNonDecreasing sent → arrives plan t sent ≡ each_once 0 sent
arrives_once plan t sent u h = sym (only_law plan t sent (each_once 0 sent) (in_order_of (each_once 0 sent) (rises_once 0 sent h)) (λ c. ap (times_in c) (sym (all_once plan t u 0 sent))))

there : (front : List Arrival) (a : Arrival) (rest : List Arrival) → one_at (length front) (front ++ a ∷ rest) ≡ a ∷ []
there [] a rest = refl
there (x ∷ front) a rest = there front a rest

given : (whole front rest : List Arrival) (k : ℕ) → whole ≡ front ++ rest → k ≡ length front → arrivals_of_copies whole (each_once k (map (λ (a : Arrival). a.time) rest)) ≡ reverse rest
given whole front [] k e n = refl
given whole front (a ∷ rest) k e n =
    let later : arrivals_of_copies whole (each_once (suc k) (map (λ (b : Arrival). b.time) rest)) ≡ reverse rest =
    given whole (front ++ a ∷ []) rest (suc k) (e ∙ sym (append_assoc front (a ∷ []) rest)) (omega (arith, n, length-append front (a ∷ []))) in
    let own : one_at k whole ≡ a ∷ [] = ap (λ (m : ℕ). one_at m whole) n ∙ (ap (one_at (length front)) e ∙ there front a rest) in
    ap (λ (l : List Arrival). l ++ arrival whole (record { at = a.time; index = k })) later
    ∙ (ap (λ (l : List Arrival). reverse rest ++ map (λ (b : Arrival). record { time = a.time; packet = b.packet }) l) own ∙ sym (reverse-append (a ∷ []) rest))

pub as_sent : (plan : List PlanLine) (t : ℕ) (sent : List Arrival) → IsUnplanned plan t → IsNonDecreasing (map (λ (a : Arrival). a.time) sent) → arrivals plan t sent ≡ reverse sent
as_sent plan t sent u h = ap (arrivals_of_copies sent) (arrives_once plan t (map (λ (a : Arrival). a.time) sent) u h) ∙ given sent [] sent 0 refl refl

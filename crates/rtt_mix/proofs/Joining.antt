-- What is seen at the terminals of all parts.
use Rattle.std.proofs.Common.{◌≡◌, ◌<◌, ◌≤◌, ◌+◌, ◌*◌, ℕ, List, ◌∷◌, ◌++◌, length, ap, sym, subst, ◌∙◌, arith, Result, Ok, Err}
use Rattle.std.specs.Prelude.{get_or, min, slice_index_or, IfOk}
use Rattle.std.proofs.Math.Seq.{get_or-append_seam}
use Rattle.std.proofs.lemmas.List.{length-append}
use Rattle.rtt_base.specs.declared.errors.NoMemory.{NoMemory}
use Rattle.file_spec.specs.Conference.{Conference}
use Rattle.mixer_spec.specs.Table.{Table}
use Rattle.rtt_mix.specs.declared.views.TerminalViews.{TerminalViews}
use Rattle.rtt_mix.specs.declared.parts.TheConstants.{MOST_PARTS}
use Rattle.rtt_mix.specs.Viewed.{AddsSeen, AreOf, AreSeenBetween, AreSent, IsPartOf, IsSeenBetween}
use Rattle.rtt_mix.proofs.Viewing.{seen_both}

pub more_parts : (n size : ℕ) → (n + 1) * size ≡ n * size + size
more_parts n size = omega arith

-- few terminals have few numbers
few_of : (n : ℕ) (seen : TerminalViews) → n ≤ 64 → AreOf n seen → AreOf 64 seen
few_of n seen l a = record {
  packets = omega (arith, a.packets, l);
  used = omega (arith, a.used, l);
  markers = omega (arith, a.markers, l);
}

pub part_is : (c : Conference) (outs : List (List ℕ)) (size number from to : ℕ) (r : Result TerminalViews NoMemory) → from ≡ min (number * size) (length outs) → to ≡ min ((number + 1) * size) (length outs) → length outs ≤ 64
    → IfOk r (AreSeenBetween c outs from to) → IfOk r (AreOf to) → IfOk r (IsPartOf c outs size number)
part_is c outs size number from to (Ok seen) f t l views numbers = record {
  seen_there = subst (λ (n : ℕ). AreSeenBetween c outs n (min ((number + 1) * size) (length outs)) seen) f (subst (λ (n : ℕ). AreSeenBetween c outs from n seen) t views);
  numbers = few_of to seen (omega (arith, t, l)) numbers;
}
part_is c outs size number from to (Err e) f t l views numbers = tt

-- ---- a list that is read from the front
abbrev pub Parts : Type 0
Parts = List (Result TerminalViews NoMemory)

-- what was read at a place
pub part_at : (c : Conference) (outs : List (List ℕ)) (size : ℕ) (front : Parts) (seen : TerminalViews) (rest all : Parts) → front ++ (Ok seen ∷ rest) ≡ all
    → ((k : ℕ) (d : Result TerminalViews NoMemory) → k < length all → IfOk (slice_index_or all k d) (IsPartOf c outs size k)) → IsPartOf c outs size (length front) seen
part_at c outs size front seen rest all e f =
    let at : slice_index_or all (length front) (Ok seen) ≡ Ok seen = ap (λ (xs : Parts). get_or xs (length front) (Ok seen)) (sym e) ∙ get_or-append_seam front (Ok seen) rest (Ok seen) in
    let below : length front < length all = omega (arith, ap (λ (xs : Parts). length xs) e, length-append front (Ok seen ∷ rest)) in
    subst (λ (r : Result TerminalViews NoMemory). IfOk r (IsPartOf c outs size (length front))) at (f (length front) (Ok seen) below)

-- the part that is read is the next one
pub next_is : (c : Conference) (outs : List (List ℕ)) (size : ℕ) (front : Parts) (part : Result TerminalViews NoMemory) (seen : TerminalViews) (rest now before all : Parts) → now ≡ part ∷ rest → part ≡ Ok seen → front ++ now ≡ before → before ≡ all → length all ≡ MOST_PARTS
    → ((k : ℕ) (d : Result TerminalViews NoMemory) → k < MOST_PARTS → IfOk (slice_index_or all k d) (IsPartOf c outs size k)) → IsPartOf c outs size (length front) seen × (length front < MOST_PARTS)
next_is c outs size front part seen rest now before all steps is so_far given many f =
    let whole : front ++ (Ok seen ∷ rest) ≡ all = ap (λ (r : Result TerminalViews NoMemory). front ++ (r ∷ rest)) (sym is) ∙ (ap (λ (xs : Parts). front ++ xs) (sym steps) ∙ (so_far ∙ given)) in (
      part_at c outs size front seen rest all whole (λ k d l. f k d (omega (arith, many, l))),
      omega (arith, many, ap (λ (xs : Parts). length xs) whole, length-append front (Ok seen ∷ rest)),
    )

-- all were read
pub all_read : (size terminals : ℕ) (front now before all : Parts) → length now ≡ 0 → front ++ now ≡ before → before ≡ all → length all ≡ MOST_PARTS → terminals ≤ MOST_PARTS * size → min (length front * size) terminals ≡ terminals
all_read size terminals front now before all none so_far given many l =
    let read : length front ≡ MOST_PARTS = omega (arith, many, none, ap (λ (xs : Parts). length xs) so_far, ap (λ (xs : Parts). length xs) given, length-append front now) in
    let times : length front * size ≡ MOST_PARTS * size = ap (λ (n : ℕ). n * size) read in
    omega (arith, times, l)

-- at no part
pub none_of : (size terminals : ℕ) → min (0 * size) terminals ≡ 0
none_of size terminals = omega arith

-- at one part more
pub more_seen : (c : Conference) (outs : List (List ℕ)) (table : Table) (size n m : ℕ) (old part new : TerminalViews) → m ≡ n + 1 → AreSent c table outs → IsPartOf c outs size n part → AddsSeen part old new
    → IsSeenBetween c table 0 (min (n * size) (length outs)) old → IsSeenBetween c table 0 (min (m * size) (length outs)) new
more_seen c outs table size n m old part new e sent p a s =
    subst (λ (k : ℕ). IsSeenBetween c table 0 (min (k * size) (length outs)) new) (sym e)
    (seen_both c table 0 (min (n * size) (length outs)) (min ((n + 1) * size) (length outs)) old part new s (p.seen_there table sent) a)

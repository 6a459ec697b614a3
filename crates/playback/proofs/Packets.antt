-- How often each copy comes, packet by packet.
use Rattle.std.proofs.Common.{◌≡◌, ℕ, ◌+◌, ◌<◌, ◌≤◌, List, [], ◌∷◌, ◌++◌, length, drop, get_or, refl, ap, ◌∙◌, arith, add-one, drop-cons}
use Rattle.std.specs.Prelude.{suc}
use Rattle.std.proofs.Math.ListN.{drop_of_length-le}
use Rattle.file_spec.specs.declared.conference_lines.PlanLine.{PlanLine}
use Rattle.mixer_spec.specs.Arrives.{Copy, all_copies, copies, lines_of, times_in}
use Rattle.playback.specs.declared.copies.Arrival.{Arrival}
use Rattle.playback.specs.Arriving.{copies_of, copy_of, times_of}

times-append : (c : Copy) (xs ys : List Copy) → times_in c (xs ++ ys) ≡ times_in c xs + times_in c ys
times-append c [] ys = omega arith
times-append c (x ∷ xs) ys = let h = times-append c xs ys in omega (arith, h)

map-append : (xs ys : List Arrival) → copies_of (xs ++ ys) ≡ copies_of xs ++ copies_of ys
map-append [] ys = refl
map-append (x ∷ xs) ys = ap (λ (cs : List Copy). copy_of x ∷ cs) (map-append xs ys)

-- of two lists one after the other
pub times_joined : (c : Copy) (xs ys : List Arrival) → times_of c (xs ++ ys) ≡ times_of c xs + times_of c ys
times_joined c xs ys = ap (times_in c) (map-append xs ys) ∙ times-append c (copies_of xs) (copies_of ys)

-- where these copies more stand behind
pub times_more : (c : Copy) (old new : List Arrival) (more : List Copy) → copies_of new ≡ copies_of old ++ more → times_of c new ≡ times_of c old + times_in c more
times_more c old new more e = ap (times_in c) e ∙ times-append c (copies_of old) more

-- of the packets from k on
pub times_from : (c : Copy) (plan : List PlanLine) (t k : ℕ) (sent : List ℕ) → k < length sent
    → times_in c (all_copies plan t k (drop k sent)) ≡ times_in c (copies (lines_of plan t k) k (get_or sent k 0)) + times_in c (all_copies plan t (k + 1) (drop (k + 1) sent))
times_from c plan t k sent l =
    rw add-one (ap (λ (times : List ℕ). times_in c (all_copies plan t k times)) (drop-cons sent k 0 l)
    ∙ times-append c (copies (lines_of plan t k) k (get_or sent k 0)) (all_copies plan t (suc k) (drop (suc k) sent)))

pub times_at_end : (c : Copy) (plan : List PlanLine) (t k : ℕ) (sent : List ℕ) → length sent ≤ k → times_in c (all_copies plan t k (drop k sent)) ≡ 0
times_at_end c plan t k sent l = ap (λ (times : List ℕ). times_in c (all_copies plan t k times)) (drop_of_length-le sent l)

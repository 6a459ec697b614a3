-- Facts of tests, results, lists and packets that more than one crate cites.
use Rattle.std.proofs.Common.{ap, ◌≡◌, Bool, false, refl, true, List, [], ℕ, ◌++◌, ◌∷◌, Some, ◌∙◌, suc, take, zero, arith, drop, length, ◌-◌, inl, inr}
use Rattle.std.specs.Prelude.{Err, Ok, Result, ◌&&◌, OnErr, ◌||◌, OnOk, map, slice_get, ◌⊎◌}
use Rattle.wire_spec.specs.Text.{refused_as}
use Rattle.wire_spec.specs.declared.faults.TextFault.{TextFault}
use Rattle.rtt_base.specs.declared.text_packets.PayloadTypes.{PayloadTypes}
use Rattle.wire_spec.specs.Dump.{Item, arrivals_after, arrivals_with}
use Rattle.wire_spec.specs.Packets.{Arrival}
use Rattle.std.proofs.lemmas.Option.{slice_get-map}
use Rattle.std.proofs.lemmas.List.{length-drop, take_all}

pub refused_ok : {A E : Type 0} (fault : E → TextFault) (r : Result A E) (x : A) → refused_as fault r ≡ Ok x → r ≡ Ok x
refused_ok fault (Ok y) x e = let same : y ≡ x = cc e in ap (λ z. Ok z) same
refused_ok fault (Err k) x e = absurd (cc e)

pub first_true : (a b : Bool) → (a && b) ≡ true → (a && true) ≡ true
first_true true b h = refl
first_true false b h = h

pub and_left : (a b : Bool) → (a && b) ≡ true → a ≡ true
and_left true b e = refl
and_left false b e = e

pub on_err : {X E : Type 0} (r : Result X E) (P : Type 0) → P → OnErr r P
on_err (Ok x) P h = tt
on_err (Err e) P h = h

pub or_swap : (a b c : Bool) → (a || (b || c)) ≡ (b || (a || c))
or_swap true true c = refl
or_swap true false c = refl
or_swap false b c = refl

-- facts of a success give another
pub on_ok : {X E P Q : Type 0} (r : Result X E) → OnOk r P → (P → Q) → OnOk r Q
on_ok (Ok x) p f = f p
on_ok (Err e) p f = tt

pub arrivals_more : (ssrc : ℕ) (payload_types : PayloadTypes) (past : List Arrival) (came : List Item) (item : Item) → arrivals_after ssrc payload_types past (came ++ item ∷ []) ≡ arrivals_with ssrc payload_types item (arrivals_after ssrc payload_types past came)
arrivals_more ssrc payload_types past [] item = refl
arrivals_more ssrc payload_types past (i ∷ came) item = arrivals_more ssrc payload_types (arrivals_with ssrc payload_types i past) came item

pub get_map : {X Y : Type 0} (f : X → Y) (xs : List X) (i : ℕ) (x : X) → slice_get xs i ≡ Some x → slice_get (map f xs) i ≡ Some (f x)
get_map f xs i x e = slice_get-map f xs i ∙ rw e refl

pub front_of_more : (n : ℕ) (xs ys : List ℕ) → (m : ℕ) × (take n xs ≡ take m (xs ++ ys))
front_of_more zero xs ys = (0, refl)
front_of_more (suc n) [] ys = (0, refl)
front_of_more (suc n) (x ∷ xs) ys = let r = front_of_more n xs ys in (suc r.0, ap (λ (zs : List ℕ). x ∷ zs) r.1)

pub front_behind : (n : ℕ) (xs ys : List ℕ) → (m : ℕ) × (xs ++ take n ys ≡ take m (xs ++ ys))
front_behind n [] ys = (n, refl)
front_behind n (x ∷ xs) ys = let r = front_behind n xs ys in (suc r.0, ap (λ (zs : List ℕ). x ∷ zs) r.1)

-- the octets from a place on
pub rest_is : (octets : List ℕ) (p : ℕ) → take (length octets - p) (drop p octets) ≡ drop p octets
rest_is octets p = take_all (length octets - p) (drop p octets) (omega (arith, length-drop p octets))

pub map_from : {X Y : Type 0} (f : X → Y) (xs : List X) (j : ℕ) (y : Y) → slice_get (map f xs) j ≡ Some y → (x : X) × (slice_get xs j ≡ Some x) × (f x ≡ y)
map_from f [] j y e = absurd (cc e)
map_from f (x ∷ xs) zero y e = (x, refl, cc e)
map_from f (x ∷ xs) (suc j) y e = map_from f xs j y e

pub funext : {A B : Type 0} (f g : A → B) → ((x : A) → f x ≡ g x) → f ≡ g
funext f g h = λ i x. h x i

pub either : (A B C D : Type 0) → (A → C) → (B → D) → A ⊎ B → C ⊎ D
either A B C D f g (inl a) = inl (f a)
either A B C D f g (inr b) = inr (g b)

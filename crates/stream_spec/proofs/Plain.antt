-- Facts of lists, results and entries that more than one crate cites.
use Rattle.std.proofs.Common.{Bool, List, [], arith, cond, false, length, suc, true, ℕ, ◌∷◌, ◌≤◌, ap, refl, ◌≡◌, Some, set, zero, ◌<◌, inl, inr, ◌+◌, append-nil, take, Err, Ok, Result, rules, get_or, sym, ◌++◌, ◌⊎◌}
use Rattle.stream_spec.proofs.Rising.{length_by_number}
use Rattle.stream_spec.specs.Numbering.{Numbered, by_number, in_time, used, numbered}
use Rattle.wire_spec.specs.Packets.{Arrival}
use Rattle.std.specs.Prelude.{slice_get, IsUtf8, min, IsOk, OnOk, sum}
use Rattle.stream_spec.specs.History.{Entry, Placed, placed_after, by_place}
use Rattle.stream_spec.specs.Lists.{In}
use Rattle.std.specs.List.{concat}
use Rattle.stream_spec.specs.Hearing.{text_list}
use Rattle.stream_spec.proofs.Closing.{longest}
use Rattle.stream_spec.proofs.Typing.{last_end_le, length_of_front}
use Rattle.stream_spec.specs.Typed.{last_end, whole_front}
use Rattle.stream_spec.specs.Own.{has_text_in}
use Rattle.rtt_base.specs.declared.errors.Full.{Full}
use Rattle.std.proofs.lemmas.List.Sums.{sum_by-append}
use Rattle.std.proofs.lemmas.Bool.{le-ltb}

pub used_fits : (wait : ℕ) (past : List Numbered) → length (used wait past) ≤ length past
used_fits wait [] = omega arith
used_fits wait (e ∷ past) = go (in_time wait e past) (used_fits wait past)
  where
    go : (t : Bool) → length (used wait past) ≤ length past → length (cond t (by_number e (used wait past)) (used wait past)) ≤ suc (length past)
    go true h = omega (arith, h, length_by_number e (used wait past))
    go false h = omega (arith, h)

pub all_numbered : (a : List Arrival) → length (numbered a) ≡ length a
all_numbered [] = refl
all_numbered (x ∷ past) = ap suc (all_numbered past)

pub get_set_same : {X : Type 0} (xs : List X) (i : ℕ) (x : X) → i < length xs → slice_get (set xs i x) i ≡ Some x
get_set_same [] i x l = absurd (omega arith)
get_set_same (z ∷ xs) zero x l = refl
get_set_same (z ∷ xs) (suc i) x l = get_set_same xs i x (omega arith)

pub place_to : (before es : List Entry) (x : Placed) → In x (placed_after before es) → x.place < length before + length es
place_to before [] x i = absurd i
place_to before (e ∷ es) x (inl q) = omega (arith, ap (λ (z : Placed). z.place) q)
place_to before (e ∷ es) x (inr i) = let r = place_to (e ∷ before) es x i in omega arith

pub list_whole : (text : List ℕ) → concat (text_list text) ≡ text
list_whole [] = refl
list_whole (x ∷ text) = append-nil (x ∷ text)

pub longest_front : (n k : ℕ) (octets : List ℕ) → IsUtf8 octets → k ≤ n → k ≤ length octets → IsUtf8 (take k octets) → k ≤ length (whole_front n octets)
longest_front n k octets u l m t =
    let b = last_end_le octets (min n (length octets)) in
    let len = length_of_front (last_end octets (min n (length octets))) octets (omega arith) in
    omega (arith, len, longest n octets k u l m t)

pub no_text : (g : ℕ) → has_text_in g [] ≡ false
no_text zero = refl
no_text (suc g) = refl

-- what holds where it went well, and it did
pub on_ok : {T E P : Type 0} (r : Result T E) → IsOk r → OnOk r P → P
on_ok (Ok x) i p = p
on_ok (Err x) i p = absurd (search (rules, i))

pub get_at : {X : Type 0} (xs : List X) (i : ℕ) → i < length xs → (x : X) × (slice_get xs i ≡ Some x)
get_at [] i l = absurd (omega arith)
get_at (x ∷ xs) zero l = (x, refl)
get_at (x ∷ xs) (suc i) l = get_at xs i (omega arith)

-- what was read at an index
pub get_read : {X : Type 0} (xs : List X) (i : ℕ) (x : X) → i < length xs → x ≡ get_or xs i x → slice_get xs i ≡ Some x
get_read [] i x l e = absurd (omega arith)
get_read (y ∷ xs) zero x l e = ap Some (sym e)
get_read (y ∷ xs) (suc i) x l e = get_read xs i x (omega arith) e

pub on_ok_of : {P Q : Type 0} (r : Result (Unit {0}) Full) → OnOk r P → (P → Q) → OnOk r Q
on_ok_of (Ok x) p f = f p
on_ok_of (Err x) p f = p

pub sum_cons : (n : ℕ) (ns : List ℕ) → sum (n ∷ ns) ≡ n + sum ns
sum_cons n ns = omega (arith, sum_by-append (λ x. x) (n ∷ []) ns)

pub get_push : {X : Type 0} (xs : List X) (y : X) (k : ℕ) (x : X) → slice_get (xs ++ y ∷ []) k ≡ Some x → (slice_get xs k ≡ Some x) ⊎ ((k ≡ length xs) × (x ≡ y))
get_push [] y zero x e = inr (refl, cc e)
get_push [] y (suc k) x e = absurd (cc e)
get_push (z ∷ xs) y zero x e = inl e
get_push (z ∷ xs) y (suc k) x e = elim (get_push xs y k x e) [ inl g ↦ inl g | inr p ↦ inr (ap suc p.0, p.1) ]

pub put_last : (x : Placed) (xs : List Placed) → ((y : Placed) → In y xs → y.place < x.place) → by_place x xs ≡ xs ++ x ∷ []
put_last x [] f = refl
put_last x (y ∷ ys) f = let l = f y (inl refl) in rw (le-ltb x.place y.place (omega (arith, l))) (ap (λ (zs : List Placed). y ∷ zs) (put_last x ys (λ z i. f z (inr i))))

pub none_left : {A : Type 0} (xs ys : List A) → xs ++ ys ≡ [] → ys ≡ []
none_left [] ys e = e
none_left (x ∷ xs) ys e = absurd (cc e)

-- Octets that are appended one piece behind the other are appended as one.
use Rattle.std.proofs.Common.{◌≡◌, ℕ, ◌+◌, ◌≤◌, Option, Some, None, Result, Ok, Err, List, [], ◌∷◌, ◌++◌, length, take, length-append, append_assoc, true, false, refl, ap, ◌∙◌, arith}
use Rattle.std.specs.Prelude.{◌↔◌, IsOk, IfSome, OnOk, OnErr, is_err}
use Rattle.rtt_base.specs.Buffers.{Appends}

none_behind : (xs : List ℕ) → xs ≡ xs ++ []
none_behind [] = refl
none_behind (x ∷ xs) = ap (λ ys. x ∷ ys) (none_behind xs)

front_of : (xs ys : List ℕ) → take (length xs) (xs ++ ys) ≡ xs
front_of [] ys = refl
front_of (x ∷ xs) ys = ap (λ zs. x ∷ zs) (front_of xs ys)

-- no octet is appended
pub appends_none : {T E : Type 0} (greatest : Option ℕ) (before : List ℕ) (x : T) → IfSome greatest (λ most. length before ≤ most) → (let r : Result T E = Ok x in Appends greatest before before [] r)
appends_none {T} {E} greatest before x fits = record { room = go greatest fits; ok = none_behind before; err = tt }
  where
    go : (o : Option ℕ) → IfSome o (λ most. length before ≤ most) → (let r : Result T E = Ok x in let nothing : List ℕ = [] in IfSome o (λ most. IsOk r ↔ (length before + length nothing ≤ most)))
    go None l = tt
    go (Some most) l = (λ e. omega arith, λ m. refl)

-- a second piece behind a first one: where it is refused, the first one is taken back
pub appends_both : {T E S F : Type 0} (greatest : Option ℕ) (before middle after kept x y : List ℕ) (first : Result T E) (second : Result S F) → Appends greatest before middle x first → is_err first ≡ false → Appends greatest middle after y second
    → (is_err second ≡ false → kept ≡ after) → (is_err second ≡ true → kept ≡ take (length before) after) → Appends greatest before kept (x ++ y) second
appends_both {T} {E} {S} {F} greatest before middle after kept x y first second a o b k t =
    let m = middle_is first a.ok o in
    record { room = room greatest m b.room; ok = ok second m b.ok k; err = err second m b.err t }
  where
    middle_is : (r : Result T E) → OnOk r (middle ≡ before ++ x) → is_err r ≡ false → middle ≡ before ++ x
    middle_is (Ok v) p q = p
    middle_is (Err v) p q = cc q

    room : (o : Option ℕ) → middle ≡ before ++ x → IfSome o (λ most. IsOk second ↔ (length middle + length y ≤ most)) → IfSome o (λ most. IsOk second ↔ (length before + length (x ++ y) ≤ most))
    room None m r = tt
    room (Some most) m r =
        let size = ap (λ (zs : List ℕ). length zs) m in
        (λ q. let l = r.0 q in omega (arith, l, size, length-append before x, length-append x y), λ l. r.1 (omega (arith, l, size, length-append before x, length-append x y)))

    ok : (r : Result S F) → middle ≡ before ++ x → OnOk r (after ≡ middle ++ y) → (is_err r ≡ false → kept ≡ after) → OnOk r (kept ≡ before ++ (x ++ y))
    ok (Ok v) m p q = q refl ∙ (p ∙ (ap (λ (zs : List ℕ). zs ++ y) m ∙ append_assoc before x y))
    ok (Err v) m p q = tt

    err : (r : Result S F) → middle ≡ before ++ x → OnErr r (after ≡ middle) → (is_err r ≡ true → kept ≡ take (length before) after) → OnErr r (kept ≡ before)
    err (Ok v) m p q = tt
    err (Err v) m p q = q refl ∙ (ap (λ (zs : List ℕ). take (length before) zs) (p ∙ m) ∙ front_of before x)

-- a piece that is refused, with whatever was to come behind it
pub appends_refused : {T E S F : Type 0} (greatest : Option ℕ) (before after x y : List ℕ) (first : Result T E) (whole : Result S F) → Appends greatest before after x first → is_err first ≡ true → is_err whole ≡ true
    → Appends greatest before after (x ++ y) whole
appends_refused {T} {E} {S} {F} greatest before after x y first whole a f w = record { room = room first whole greatest f w a.room; ok = ok whole w; err = err first whole a.err f }
  where
    room : (r : Result T E) (s : Result S F) (o : Option ℕ) → is_err r ≡ true → is_err s ≡ true → IfSome o (λ most. IsOk r ↔ (length before + length x ≤ most)) → IfSome o (λ most. IsOk s ↔ (length before + length (x ++ y) ≤ most))
    room r s None e d p = tt
    room (Ok u) s (Some most) e d p = cc e
    room (Err u) (Ok v) (Some most) e d p = cc d
    room (Err u) (Err v) (Some most) e d p = (λ q. cc q, λ l. let g = p.1 (omega (arith, l, length-append x y)) in cc g)

    ok : (r : Result S F) → is_err r ≡ true → OnOk r (after ≡ before ++ (x ++ y))
    ok (Ok v) q = cc q
    ok (Err v) q = tt

    err : (r : Result T E) (s : Result S F) → OnErr r (after ≡ before) → is_err r ≡ true → OnErr s (after ≡ before)
    err (Ok u) s p q = cc q
    err (Err u) (Ok v) p q = tt
    err (Err u) (Err v) p q = p

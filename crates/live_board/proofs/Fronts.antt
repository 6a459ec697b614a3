-- Beginnings of one list.
use Rattle.std.proofs.Common.{◌≡◌, ◌≤◌, Bool, true, false, true≢false, List, [], ◌∷◌, ◌++◌, length, refl, ap, sym, ◌∙◌, subst, arith, append_assoc, append-nil}
use Rattle.std.specs.Prelude.{◌||◌}
use Rattle.std.proofs.lemmas.List.Concat.{flat_map-append}
use mathlib.Core.List.{IsPrefix}
use Rattle.stream_spec.specs.Fronts.{IsFront}
use Rattle.live_board.specs.declared.histories.BoardEntry.{BoardEntry}
use Rattle.live_board.specs.Histories.{changes_of, ended_in, EndsOnce}
use Rattle.std.proofs.lemmas.Bool.{or_parts as neither}
use Rattle.std.proofs.Math.Bool.{or-false as or_none}
use Rattle.stream_spec.proofs.Plain.{none_left}

pub prefix_self : {A : Type 0} (xs : List A) → IsPrefix xs xs
prefix_self [] = ([], refl)
prefix_self (x ∷ xs) = (let r = prefix_self xs in r.0, ap (λ ys. x ∷ ys) (prefix_self xs).1)

pub prefix_trans : {A : Type 0} (xs ys zs : List A) → IsPrefix xs ys → IsPrefix ys zs → IsPrefix xs zs
prefix_trans xs ys zs p q = (p.0 ++ q.0, sym (append_assoc xs p.0 q.0) ∙ (ap (λ w. w ++ q.0) p.1 ∙ q.1))

-- of two beginnings of one list the shorter begins the longer
pub prefix_shorter : {A : Type 0} (xs ys zs : List A) → IsPrefix xs zs → IsPrefix ys zs → length xs ≤ length ys → IsPrefix xs ys
prefix_shorter [] ys zs p q le = (ys, refl)
prefix_shorter (x ∷ xs) [] zs p q le = absurd (omega arith)
prefix_shorter (x ∷ xs) (y ∷ ys) [] p q le = absurd (cc (p.1))
prefix_shorter (x ∷ xs) (y ∷ ys) (z ∷ zs) p q le =
    let heads : x ≡ y = cc (p.1, q.1) in
    let rest = prefix_shorter xs ys zs (p.0, cc (p.1)) (q.0, cc (q.1)) (omega arith) in
    (rest.0, cc (heads, rest.1))

-- a beginning as long as the whole is the whole
pub prefix_whole : {A : Type 0} (xs ys : List A) → IsPrefix xs ys → length ys ≤ length xs → xs ≡ ys
prefix_whole [] [] p le = refl
prefix_whole [] (y ∷ ys) p le = absurd (omega arith)
prefix_whole (x ∷ xs) [] p le = absurd (cc (p.1))
prefix_whole (x ∷ xs) (y ∷ ys) p le =
    let rest = prefix_whole xs ys (p.0, cc (p.1)) (omega arith) in cc (p.1, rest)

-- one element more
pub prefix_more : {A : Type 0} (xs ys : List A) (x : A) → ys ≡ xs ++ x ∷ [] → IsPrefix xs ys
prefix_more xs ys x e = (x ∷ [], sym e)

-- the changes of a beginning are a beginning of all changes
pub changes_front : (xs ys : List BoardEntry) → IsPrefix xs ys → IsFront (changes_of xs) (changes_of ys)
changes_front xs ys p = (changes_of p.0, ap changes_of (sym p.1) ∙ flat_map-append (λ (e : BoardEntry). e.chunks) xs p.0)

pub changes_more : (log : List BoardEntry) (e : BoardEntry) → changes_of (log ++ e ∷ []) ≡ changes_of log ++ e.chunks
changes_more log e = flat_map-append (λ (x : BoardEntry). x.chunks) log (e ∷ []) ∙ ap (λ l. changes_of log ++ l) (append-nil e.chunks)

pub clash : (P : Type 0) (a : Bool) → a ≡ true → a ≡ false → P
clash P a holds fails = absurd (true≢false (sym holds ∙ fails))

-- nothing stands behind the end of a history with one entry more
pub once_more : (log : List BoardEntry) (e : BoardEntry) → EndsOnce log → ended_in log ≡ false → EndsOnce (log ++ e ∷ [])
once_more [] e once going = ((λ _. refl), tt)
once_more (x ∷ xs) e once going = let n = neither x.ends (ended_in xs) going in ((λ t. clash _ x.ends t n.0), once_more xs e once.1 n.1)

-- it has ended where the entry ends it
pub ended_more : (log : List BoardEntry) (e : BoardEntry) → ended_in log ≡ false → ended_in (log ++ e ∷ []) ≡ e.ends
ended_more [] e going = or_none e.ends
ended_more (x ∷ xs) e going = let n = neither x.ends (ended_in xs) going in ap (λ a. a || ended_in (xs ++ e ∷ [])) n.0 ∙ ended_more xs e n.1

over_at : (x : BoardEntry) (xs rest : List BoardEntry) (b : Bool) → x.ends ≡ b → EndsOnce ((x ∷ xs) ++ rest) → ended_in (x ∷ xs) ≡ true → ((EndsOnce (xs ++ rest)) → ended_in xs ≡ true → rest ≡ []) → rest ≡ []
over_at x xs rest true is once e more = none_left xs rest (once.0 is)
over_at x xs rest false is once e more = more once.1 (sym (ap (λ a. a || ended_in xs) is) ∙ e)

-- nothing comes behind a history that has ended
pub over : (log rest : List BoardEntry) → EndsOnce (log ++ rest) → ended_in log ≡ true → rest ≡ []
over [] rest once e = absurd (true≢false (sym e))
over (x ∷ xs) rest once e = over_at x xs rest x.ends refl once e (over xs rest)

-- so what begins with it is it
pub over_is : (log all : List BoardEntry) → IsPrefix log all → EndsOnce all → ended_in log ≡ true → all ≡ log
over_is log all p once e =
    let none : p.0 ≡ [] = over log p.0 (subst EndsOnce (sym p.1) once) e in
    sym p.1 ∙ ap (λ l. log ++ l) none ∙ append-nil log

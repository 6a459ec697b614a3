-- What the loops and the look-up of a receiver give.
use Rattle.std.proofs.Common.{◌≡◌, ℕ, zero, suc, ◌+◌, ◌<◌, ◌≤◌, Option, None, Result, Ok, Err, List, [], ◌∷◌, ◌++◌, length, get_or, take, refl, ap, sym, ◌∙◌, arith, append_assoc, add-one, inl, inr, subst}
use Rattle.std.specs.Prelude.{map, ◌≢◌, AllPairs}
use Rattle.std.specs.Prelude.{OnOk}
use Rattle.std.specs.List.{concat}
use Rattle.std.proofs.lemmas.List.Folds.{concat-append}
use Rattle.std.proofs.Math.Seq.{take-suc}
use Rattle.rtt_base.specs.declared.blocks.TextBlock.{TextBlock}
use Rattle.stream_spec.specs.Hearing.{text_list}
use Rattle.stream_spec.specs.Lists.{In}
use Rattle.stream_spec.proofs.Lists.{in_append}
use Rattle.receiver.specs.declared.receivers.LastPacket.{LastPacket}
use Rattle.receiver.specs.declared.receivers.ListedSource.{ListedSource}
use Rattle.receiver.specs.declared.receivers.Receiver.{Receiver}
use Rattle.receiver.specs.Stands.{Stands, IsSeen}
use Rattle.receiver.specs.Steps.{new_since, older_since}
use Rattle.std.proofs.lemmas.List.{append-nil}
use Rattle.stream_spec.proofs.Plain.{list_whole as concat_text}

older_append : (seen : Option LastPacket) (timestamp : ℕ) (xs ys : List TextBlock) → older_since seen timestamp (xs ++ ys) ≡ older_since seen timestamp xs ++ older_since seen timestamp ys
older_append seen timestamp [] ys = refl
older_append seen timestamp (x ∷ xs) ys = ap (λ ts. new_since seen timestamp x ++ ts) (older_append seen timestamp xs ys) ∙ sym (append_assoc (new_since seen timestamp x) (older_since seen timestamp xs) (older_since seen timestamp ys))

-- the texts of one block more
pub older_more : (seen : Option LastPacket) (timestamp : ℕ) (xs : List TextBlock) (i : ℕ) (d : TextBlock) → i < length xs
    → older_since seen timestamp (take (i + 1) xs) ≡ older_since seen timestamp (take i xs) ++ new_since seen timestamp (get_or xs i d)
older_more seen timestamp xs i d l =
    rw (add-one) (ap (older_since seen timestamp) (take-suc xs i d l) ∙ (older_append seen timestamp (take i xs) (get_or xs i d ∷ []) ∙ ap (λ ts. older_since seen timestamp (take i xs) ++ ts) (append-nil (new_since seen timestamp (get_or xs i d)))))

-- a seat more
pub seat_more : (items more : List ListedSource) (sources : List ℕ) (i : ℕ) (x : ListedSource) → more ≡ items ++ x ∷ [] → x.source ≡ get_or sources i 0 → x.seen ≡ None → i < length sources
    → (map (λ y. y.source) items ≡ take i sources) × ((y : ListedSource) → In y items → y.seen ≡ None)
    → (map (λ y. y.source) more ≡ take (i + 1) sources) × ((y : ListedSource) → In y more → y.seen ≡ None)
seat_more items more sources i x m s n l before = (
  ap (map (λ (y : ListedSource). y.source)) m ∙ (map_append items ∙ (ap (λ ys. ys ++ x.source ∷ []) before.0 ∙ (ap (λ k. take i sources ++ k ∷ []) s ∙ (sym (take-suc sources i 0 l) ∙ ap (λ k. take k sources) (sym add-one'))))),
  (λ y j. elim (in_append y items (x ∷ []) (subst (λ (ys : List ListedSource). In y ys) m j)) [
    | inl k ↦ before.1 y k
    | inr (inl q) ↦ ap (λ (z : ListedSource). z.seen) q ∙ n
    | inr (inr k) ↦ absurd k
  ]),
)
  where
    map_append : (ys : List ListedSource) → map (λ (y : ListedSource). y.source) (ys ++ x ∷ []) ≡ map (λ (y : ListedSource). y.source) ys ++ x.source ∷ []
    map_append [] = refl
    map_append (y ∷ ys) = ap (λ zs. y.source ∷ zs) (map_append ys)

    add-one' : i + 1 ≡ suc i
    add-one' = omega arith

-- a receiver that took nothing
pub stands_for_none : (r : Receiver) (sources : List ℕ) → map (λ l. l.source) r.listed.items ≡ sources → ((x : ListedSource) → In x r.listed.items → x.seen ≡ None) → length sources ≤ 64 → AllPairs (λ a b. a ≢ b) sources
    → r.latest ≡ None → r.missing ≡ 0 → Stands r sources []
stands_for_none r sources s n few differ l m = record {
  listed = s;
  few = few;
  differ = differ;
  rising = tt;
  count = (l, m);
  seen = λ x i. subst (IsSeen [] x.source) (sym (n x i)) (λ u j e. j);
}

take_all : {X : Type 0} (n : ℕ) (xs : List X) → length xs ≤ n → take n xs ≡ xs
take_all zero [] l = refl
take_all zero (x ∷ xs) l = absurd (omega arith)
take_all (suc n) [] l = refl
take_all (suc n) (x ∷ xs) l = ap (λ ys. x ∷ ys) (take_all n xs (omega arith))

-- all seats are made
pub all_seats : (items : List ListedSource) (sources : List ℕ) (n : ℕ) → map (λ y. y.source) items ≡ take n sources → length sources ≤ n → map (λ y. y.source) items ≡ sources
all_seats items sources n e l = e ∙ take_all n sources l

-- ---- octets that are appended

-- what holds where it went well, one step on
pub on_ok_then : {T E P Q : Type 0} (r : Result T E) → (P → Q) → OnOk r P → OnOk r Q
on_ok_then (Ok x) f p = f p
on_ok_then (Err x) f p = tt

-- the octets of one block more
pub octets_more : (seen : Option LastPacket) (timestamp : ℕ) (xs : List TextBlock) (i : ℕ) (b : TextBlock) (initial out more : List ℕ) → b ≡ get_or xs i b → i < length xs
    → out ≡ initial ++ concat (older_since seen timestamp (take i xs)) → more ≡ out ++ concat (new_since seen timestamp b) → more ≡ initial ++ concat (older_since seen timestamp (take (i + 1) xs))
octets_more seen timestamp xs i b initial out more is within before e =
    e ∙ (ap (λ (t : List ℕ). t ++ concat (new_since seen timestamp b)) before
    ∙ (append_assoc initial (concat (older_since seen timestamp (take i xs))) (concat (new_since seen timestamp b))
    ∙ ap (λ (t : List ℕ). initial ++ t) (sym (concat-append (older_since seen timestamp (take i xs)) (new_since seen timestamp b))
    ∙ ap concat (ap (λ (x : TextBlock). older_since seen timestamp (take i xs) ++ new_since seen timestamp x) is ∙ sym (older_more seen timestamp xs i b within)))))

-- the marker, the older texts and the primary one
pub octets_told : (out one two three text : List ℕ) (m o all : List (List ℕ)) → one ≡ out ++ concat m → two ≡ one ++ concat o → three ≡ two ++ text → o ++ text_list text ≡ all → three ≡ out ++ concat (m ++ all)
octets_told out one two three text m o all e f g h =
    g ∙ (ap (λ (t : List ℕ). t ++ text) (f ∙ ap (λ (t : List ℕ). t ++ concat o) e)
    ∙ (append_assoc (out ++ concat m) (concat o) text
    ∙ (append_assoc out (concat m) (concat o ++ text)
    ∙ ap (λ (t : List ℕ). out ++ t) (ap (λ (t : List ℕ). concat m ++ (concat o ++ t)) (sym (concat_text text))
    ∙ (ap (λ (t : List ℕ). concat m ++ t) (sym (concat-append o (text_list text)) ∙ ap concat h) ∙ sym (concat-append m all))))))

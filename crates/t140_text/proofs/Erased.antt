-- The text without its last character, where that is no marker.
use Rattle.std.proofs.Common.{◌≡◌, ℕ, ◌≤◌, Bool, true, false, cond, eqb, List, [], ◌∷◌, ◌++◌, length, refl, sym, ap, ◌∙◌, arith, append-nil, IsUtf8, encode_utf8_all, String, string_bytes, string_len}
use Rattle.std.specs.Char.{encode_utf8}
use Rattle.std.proofs.lemmas.List.{nil_from_length}
use Rattle.std.proofs.lemmas.Str.{encodes-append, encodes_same, IsUtf8-string_bytes}
use Rattle.std.proofs.lemmas.Bool.Decides.{nat_tests}
use Rattle.view_spec.specs.declared.classes.CharClass.TheVariants.{Erase, Bell, NewLine, Silent, Marker, Print}
use Rattle.view_spec.specs.Characters.{class_of, is_marker, is_new_line, is_silent}
use Rattle.view_spec.specs.Shown.{one_back}
use Rattle.view_spec.proofs.Erasing.{one_back-append}

one_more : (ds : List ℕ) (c : ℕ) → encode_utf8_all (ds ++ c ∷ []) ≡ encode_utf8_all ds ++ encode_utf8 c
one_more ds c = encodes-append ds (c ∷ []) ∙ ap (λ l. encode_utf8_all ds ++ l) (append-nil (encode_utf8 c))

-- where its last character was taken off
popped : (old new cs : List ℕ) (c : ℕ) → old ≡ encode_utf8_all cs → IsUtf8 new → old ≡ new ++ encode_utf8 c → (ds : List ℕ) × ((new ≡ encode_utf8_all ds) × (ds ++ c ∷ [] ≡ cs))
popped old new cs c spelled u split =
    let ds = u.0 in
    let whole : encode_utf8_all (ds ++ c ∷ []) ≡ encode_utf8_all cs =
    one_more ds c ∙ (ap (λ l. l ++ encode_utf8 c) u.1.1 ∙ (sym split ∙ spelled)) in
    (ds, (sym u.1.1, encodes_same (ds ++ c ∷ []) cs whole))

-- and is no marker
pub erased_text : {Z : Type 0} (old : List ℕ) (new : String Z) (cs : List ℕ) (c : ℕ) → old ≡ encode_utf8_all cs → old ≡ string_bytes new ++ encode_utf8 c → is_marker (class_of c) ≡ false → string_bytes new ≡ encode_utf8_all (one_back cs)
erased_text old new cs c spelled split other =
    let p = popped old (string_bytes new) cs c spelled (IsUtf8-string_bytes new) split in
    p.1.0 ∙ ap encode_utf8_all (sym (append-nil p.0) ∙ (ap (λ b. p.0 ++ cond b (c ∷ []) []) (sym other) ∙ (sym (one_back-append p.0 c) ∙ ap one_back p.1.1)))

-- where it was a marker, and put back
pub marked_text : {Z : Type 0} (old : List ℕ) (mid : String Z) (new cs : List ℕ) (c : ℕ) → old ≡ encode_utf8_all cs → old ≡ string_bytes mid ++ encode_utf8 c → is_marker (class_of c) ≡ true → new ≡ string_bytes mid ++ encode_utf8 c → new ≡ encode_utf8_all (one_back cs)
marked_text old mid new cs c spelled split markers back =
    let p = popped old (string_bytes mid) cs c spelled (IsUtf8-string_bytes mid) split in
    let stays : one_back cs ≡ cs = ap one_back (sym p.1.1) ∙ (one_back-append p.0 c ∙ (ap (λ b. p.0 ++ cond b (c ∷ []) []) markers ∙ p.1.1)) in
    back ∙ (sym split ∙ (spelled ∙ ap encode_utf8_all (sym stays)))

-- where it was empty
pub none_text : {Z : Type 0} (old new : String Z) (cs : List ℕ) → string_bytes old ≡ encode_utf8_all cs → string_len old ≡ 0 → string_len new ≤ string_len old → string_bytes new ≡ encode_utf8_all (one_back cs)
none_text old new cs spelled none shorter =
    let full : string_len old ≡ length (string_bytes old) = old.bytes.ok.0 in
    let left : string_len new ≡ length (string_bytes new) = new.bytes.ok.0 in
    let before : string_bytes old ≡ [] = nil_from_length (string_bytes old) (omega arith) in
    let after : string_bytes new ≡ [] = nil_from_length (string_bytes new) (omega arith) in
    let nothing : cs ≡ [] = encodes_same cs [] (sym spelled ∙ before) in
    after ∙ ap (λ l. encode_utf8_all (one_back l)) (sym nothing)

-- U+FFFD is a marker, and nothing else is
marker_class : class_of 0xFFFD ≡ Marker
unfolding class_of
marker_class = refl

pub markers : is_marker (class_of 0xFFFD) ≡ true
markers = ap is_marker marker_class

no_other : (a b n s : Bool) → is_marker (cond a Erase (cond b Bell (cond n NewLine (cond s Silent (cond false Marker Print))))) ≡ false
no_other true b n s = refl
no_other false true n s = refl
no_other false false true s = refl
no_other false false false true = refl
no_other false false false false = refl

pub marks_not : (c : ℕ) → (c ≡ 0xFFFD → ⊥) → is_marker (class_of c) ≡ false
unfolding class_of
marks_not c h =
    let e : eqb c 0xFFFD ≡ false = grind (arith, nat_tests) in
    ap (λ m. is_marker (cond (eqb c 0x08) Erase (cond (eqb c 0x07) Bell (cond (is_new_line c) NewLine (cond (is_silent c) Silent (cond m Marker Print)))))) e
    ∙ no_other (eqb c 0x08) (eqb c 0x07) (is_new_line c) (is_silent c)

-- one more character at the end
pub longer_text : (old cs : List ℕ) (c : ℕ) → old ≡ encode_utf8_all cs → old ++ encode_utf8 c ≡ encode_utf8_all (cs ++ c ∷ [])
longer_text old cs c spelled = ap (λ l. l ++ encode_utf8 c) spelled ∙ sym (one_more cs c)

-- Names as they are told: character by character, and where nothing in them is hidden.
use Rattle.std.proofs.Common.{◌≡◌, ℕ, ◌≤◌, ◌<◌, Bool, true, false, ◌&&◌, ◌||◌, cond, nat_le, List, [], ◌∷◌, ◌++◌, length, take, get_or, refl, ap, sym, subst, ◌∙◌, arith, append_assoc, All}
use Rattle.std.specs.Prelude.{flat_map, map, encode_utf8, chars}
use Rattle.std.specs.List.{concat, list_all}
use Rattle.std.specs.Char.{is_control}
use Rattle.std.specs.Str.{IsAscii}
use Rattle.std.proofs.lemmas.Bool.{and_parts, leb-true}
use Rattle.std.proofs.lemmas.List.{get_or-map, length-map, map_push, take-map}
use Rattle.std.proofs.lemmas.Bool.Decides.{nat_tests}
use Rattle.std.proofs.lemmas.Str.{encode_ascii, chars-IsAscii}
use Rattle.std.proofs.lemmas.Str.Ascii.{IsAscii-cons, IsAscii-nil}
use Rattle.view_spec.specs.TextViews.{is_direction}
use Rattle.report_spec.specs.Told.{told_character, told_name}
use Rattle.rtt_top.specs.Sinks.{is_plain_octet}
use Rattle.rtt_io.specs.Fronts.{TakesFront}
use Rattle.rtt_top.proofs.Fronts.{concat_push, front_at}
use Rattle.rtt_check.proofs.Pieces.{pieces_more as both}

-- what is told of each character
abbrev pub told_pieces : List ℕ → List (List ℕ)
told_pieces cs = map (λ c. encode_utf8 (told_character c)) cs

pub told_in_pieces : (cs : List ℕ) → concat (told_pieces cs) ≡ flat_map (λ c. encode_utf8 (told_character c)) cs
told_in_pieces [] = refl
told_in_pieces (c ∷ cs) = ap (λ l. encode_utf8 (told_character c) ++ l) (told_in_pieces cs)

same_list : (xs : List ℕ) → map (λ x. x) xs ≡ xs
same_list [] = refl
same_list (x ∷ xs) = ap (λ l. x ∷ l) (same_list xs)

-- one character more
pub told_push : (old mid new : List ℕ) (cs : List ℕ) (c : ℕ) → mid ≡ old ++ concat (told_pieces cs) → new ≡ mid ++ encode_utf8 (told_character c) → new ≡ old ++ concat (told_pieces (cs ++ c ∷ []))
told_push old mid new cs c before more =
    both old mid new (concat (told_pieces cs)) (encode_utf8 (told_character c)) before more
    ∙ ap (λ l. old ++ l) (sym (ap concat (map_push (λ d. encode_utf8 (told_character d)) cs c) ∙ concat_push (told_pieces cs) (encode_utf8 (told_character c))))

-- all of them
pub told_whole : (name cs : List ℕ) → map (λ x. x) cs ≡ chars name → concat (told_pieces cs) ≡ told_name name
told_whole name cs e = told_in_pieces cs ∙ ap (flat_map (λ c. encode_utf8 (told_character c))) (sym (same_list cs) ∙ e)

-- those before one, and a front of this one, are a front of the name
pub told_at : (old mid new name cs : List ℕ) (c : ℕ) → map (λ x. x) cs ≡ take (length cs) (chars name) → length cs < length (chars name) → c ≡ get_or (chars name) (length cs) c
    → mid ≡ old ++ concat (told_pieces cs) → TakesFront mid new (encode_utf8 (told_character c)) → TakesFront old new (told_name name)
told_at old mid new name cs c so_far less here before front =
    let piece = encode_utf8 (told_character c) in
    let at : piece ≡ get_or (told_pieces (chars name)) (length cs) piece = ap (λ d. encode_utf8 (told_character d)) here ∙ sym (get_or-map (λ d. encode_utf8 (told_character d)) (chars name) (length cs) c piece less) in
    let first : told_pieces cs ≡ take (length cs) (told_pieces (chars name)) = ap told_pieces (sym (same_list cs) ∙ so_far) ∙ sym (take-map (λ d. encode_utf8 (told_character d)) (length cs) (chars name)) in
    subst (λ l. TakesFront old new l) (told_in_pieces (chars name))
    (front_at old mid new (told_pieces (chars name)) (length cs) piece (subst (λ n. length cs < n) (sym (length-map (chars name) (λ d. encode_utf8 (told_character d)))) less) at (before ∙ ap (λ ps. old ++ concat ps) first) front)

-- ---- ASCII that prints
plain_bounds : (c : ℕ) → is_plain_octet c ≡ true → (0x20 ≤ c) × (c ≤ 0x7E)
plain_bounds c e =
    let p = and_parts (nat_le 0x20 c) (nat_le c 0x7E) e in
    (leb-true 0x20 c p.0, leb-true c 0x7E p.1)

no_control : (c : ℕ) → 0x20 ≤ c → c ≤ 0x7E → is_control c ≡ false
no_control c lo hi =
    let z : nat_le 0 c ≡ true = grind (arith, nat_tests) in
    let a : nat_le c 0x1F ≡ false = grind (arith, nat_tests) in
    let b : nat_le 0x7F c ≡ false = grind (arith, nat_tests) in
    rw (z, a, b) refl

no_direction : (c : ℕ) → c ≤ 0x7E → is_direction c ≡ false
no_direction c hi =
    let a : nat_le 0x202A c ≡ false = grind (arith, nat_tests) in
    let b : nat_le 0x2066 c ≡ false = grind (arith, nat_tests) in
    rw (a, b) refl

plain_character : (c : ℕ) → is_plain_octet c ≡ true → encode_utf8 (told_character c) ≡ c ∷ []
plain_character c e =
    let b = plain_bounds c e in
    let hi = b.1 in
    ap (λ t. encode_utf8 (cond (t || is_direction c) 0xFFFD c)) (no_control c b.0 hi)
    ∙ (ap (λ t. encode_utf8 (cond t 0xFFFD c)) (no_direction c hi) ∙ encode_ascii c (omega (arith, hi)))

plain_characters : (cs : List ℕ) → list_all is_plain_octet cs ≡ true → flat_map (λ c. encode_utf8 (told_character c)) cs ≡ cs
plain_characters [] e = refl
plain_characters (c ∷ cs) e =
    let p = and_parts (is_plain_octet c) (list_all is_plain_octet cs) e in
    ap (λ l. l ++ flat_map (λ d. encode_utf8 (told_character d)) cs) (plain_character c p.0) ∙ ap (λ l. c ∷ l) (plain_characters cs p.1)

plain_ascii : (cs : List ℕ) → list_all is_plain_octet cs ≡ true → IsAscii cs
plain_ascii [] e = IsAscii-nil
plain_ascii (c ∷ cs) e =
    let p = and_parts (is_plain_octet c) (list_all is_plain_octet cs) e in
    let hi = (plain_bounds c p.0).1 in
    IsAscii-cons c cs (omega (arith, hi)) (plain_ascii cs p.1)

-- it is told as it is
pub plain_told : (name : List ℕ) → list_all is_plain_octet name ≡ true → told_name name ≡ name
plain_told name e = ap (flat_map (λ c. encode_utf8 (told_character c))) (chars-IsAscii name (plain_ascii name e)) ∙ plain_characters name e

-- The characters of a text, of two texts, and of a text in pieces.
use Rattle.std.proofs.Common.{◌≡◌, ℕ, ◌+◌, ◌/◌, ◌%◌, ◌≤◌, Bool, true, false, cond, List, [], ◌∷◌, ◌++◌, length, refl, ap, sym, subst, ◌∙◌, arith}
use Rattle.std.specs.Prelude.{map, flat_map, nat_lt, IsUtf8, encode_utf8}
use Rattle.std.specs.List.{AllByRecursion, concat}
use Rattle.std.specs.Str.{chars}
use Rattle.std.proofs.Math.Utf8.{scalar, scalars, encode, encodes}
use Rattle.std.proofs.lemmas.Bool.{and_parts, le-ltb, lt-leb}
use Rattle.std.proofs.lemmas.List.Folds.{concat-append}
use Rattle.std.proofs.lemmas.Str.{IsCharBoundary-start, IsUtf8-append, IsUtf8-nil, chars-encodes}
use Rattle.stream_spec.specs.Carries.{Groups}
use Rattle.stream_spec.specs.Hearing.{AreHeardTexts}
use Rattle.stream_spec.specs.Typed.{is_end}
use Rattle.stream_spec.proofs.Closing.{ends_there}
use Rattle.mixer_spec.specs.Pieces.{IsCutting, characters, in_front, pieces}
use Rattle.mixer_spec.proofs.Cutting.{AreShort, short_law, text_law, whole_law}
use Rattle.mixer_spec.proofs.Lists.{both}
use Rattle.mixer_spec.proofs.PieceTold.{HasTexts}
use Rattle.rtt_base.specs.declared.limits.TheConstants.{MOST_TEXT_OCTETS}

-- ---- together they are the text
front_whole : (x : ℕ) (cs : List (List ℕ)) → concat (in_front x cs) ≡ x ∷ concat cs
front_whole x [] = refl
front_whole x (c ∷ cs) = refl

whole : (text : List ℕ) → concat (characters text) ≡ text
whole [] = refl
whole (x ∷ text) = go (is_end text 0) (whole text)
  where
    go : (b : Bool) → concat (characters text) ≡ text → concat (cond b ((x ∷ []) ∷ characters text) (in_front x (characters text))) ≡ x ∷ text
    go true h = ap (λ ys. x ∷ ys) h
    go false h = front_whole x (characters text) ∙ ap (λ ys. x ∷ ys) h

front_some : (x : ℕ) (cs : List (List ℕ)) → HasTexts cs → HasTexts (in_front x cs)
front_some x [] h = (refl, tt)
front_some x (c ∷ cs) h = (refl, h.1)

some : (text : List ℕ) → HasTexts (characters text)
some [] = tt
some (x ∷ text) = go (is_end text 0) (some text)
  where
    go : (b : Bool) → HasTexts (characters text) → HasTexts (cond b ((x ∷ []) ∷ characters text) (in_front x (characters text)))
    go true h = (refl, h)
    go false h = front_some x (characters text) h

pub characters_law : IsCutting characters
characters_law = record { whole = whole; some = some; marker_whole = refl }

-- ---- those of two texts, where a character ends between them
-- what has text has a first character
record First (text : List ℕ) : Type 0 where
  first : List ℕ
  more : List (List ℕ)
  is : characters text ≡ first ∷ more

first_of : (x : ℕ) (text : List ℕ) → First (x ∷ text)
first_of x text = go (is_end text 0) refl
  where
    front : (cs : List (List ℕ)) → (c : List ℕ) × (more : List (List ℕ)) × (in_front x cs ≡ c ∷ more)
    front [] = (x ∷ [], [], refl)
    front (c ∷ cs) = (x ∷ c, cs, refl)

    go : (b : Bool) → is_end text 0 ≡ b → First (x ∷ text)
    go true e = record { first = x ∷ []; more = characters text; is = ap (λ b. cond b ((x ∷ []) ∷ characters text) (in_front x (characters text))) e }
    go false e = let f = front (characters text) in record { first = f.0; more = f.1; is = ap (λ b. cond b ((x ∷ []) ∷ characters text) (in_front x (characters text))) e ∙ f.2 }

front_append : (x : ℕ) (cs ds : List (List ℕ)) (f : List ℕ) (more : List (List ℕ)) → cs ≡ f ∷ more → in_front x (cs ++ ds) ≡ in_front x cs ++ ds
front_append x cs ds f more e = subst (λ (zs : List (List ℕ)). in_front x (zs ++ ds) ≡ in_front x zs ++ ds) (sym e) refl

apart : (a b : List ℕ) → is_end b 0 ≡ true → characters (a ++ b) ≡ characters a ++ characters b
apart [] b e = refl
apart (x ∷ []) b e = ap (λ t. cond t ((x ∷ []) ∷ characters b) (in_front x (characters b))) e
apart (x ∷ y ∷ a) b e = go (is_end (y ∷ a) 0) (apart (y ∷ a) b e)
  where
    go : (t : Bool) → characters (y ∷ a ++ b) ≡ characters (y ∷ a) ++ characters b
        → cond t ((x ∷ []) ∷ characters (y ∷ a ++ b)) (in_front x (characters (y ∷ a ++ b))) ≡ cond t ((x ∷ []) ∷ characters (y ∷ a)) (in_front x (characters (y ∷ a))) ++ characters b
    go true h = ap (λ cs. (x ∷ []) ∷ cs) h
    go false h = let f = first_of y a in ap (in_front x) h ∙ front_append x (characters (y ∷ a)) (characters b) f.first f.more f.is

-- a character ends before what is UTF-8
pub follow_law : (a b : List ℕ) → IsUtf8 b → characters (a ++ b) ≡ characters a ++ characters b
follow_law a b u = apart a b (ends_there b 0 (IsCharBoundary-start b u))

-- ---- those of several texts
pub utf8_all : (ts : List (List ℕ)) → AllByRecursion IsUtf8 ts → IsUtf8 (concat ts)
utf8_all [] u = IsUtf8-nil
utf8_all (t ∷ ts) u = IsUtf8-append t (concat ts) u.0 (utf8_all ts u.1)

pub all_law : (ts : List (List ℕ)) → AllByRecursion IsUtf8 ts → flat_map characters ts ≡ characters (concat ts)
all_law [] u = refl
all_law (t ∷ ts) u = ap (λ cs. characters t ++ cs) (all_law ts u.1) ∙ sym (follow_law t (concat ts) (utf8_all ts u.1))

pub pieces_law : (n : ℕ) (text : List ℕ) → 4 ≤ n → IsUtf8 text → flat_map characters (pieces n text) ≡ characters text
pieces_law n text f u = all_law (pieces n text) (text_law n text f u) ∙ ap characters ((whole_law n f).whole text)

-- ---- each is a character
goes_on : (bits : ℕ) (rest : List ℕ) → is_end ((128 + bits % 64) ∷ rest) 0 ≡ false
goes_on bits rest = rw (le-ltb (128 + bits % 64) 128 (omega arith), lt-leb 192 (128 + bits % 64) (omega arith)) refl

-- an octet that begins it, and those that go on with it
joined : (x bits : ℕ) (rest : List ℕ) (c : List ℕ) → characters ((128 + bits % 64) ∷ rest) ≡ c ∷ [] → characters (x ∷ (128 + bits % 64) ∷ rest) ≡ (x ∷ c) ∷ []
joined x bits rest c e = rw (goes_on bits rest) (ap (in_front x) e)

one : (c : ℕ) → characters (encode c) ≡ encode c ∷ []
unfolding encode
one c = go (nat_lt c 128) (nat_lt c 2048) (nat_lt c 65536)
  where
    next : ℕ → ℕ
    next bits = 128 + bits % 64

    go : (a b d : Bool) → let t : List ℕ = cond a (c ∷ []) (cond b ((192 + c / 64) ∷ next c ∷ []) (cond d ((224 + c / 4096) ∷ next (c / 64) ∷ next c ∷ []) ((240 + c / 262144) ∷ next (c / 4096) ∷ next (c / 64) ∷ next c ∷ []))) in characters t ≡ t ∷ []
    go true b d = refl
    go false true d = joined (192 + c / 64) c [] (next c ∷ []) refl
    go false false true = joined (224 + c / 4096) (c / 64) (next c ∷ []) (next (c / 64) ∷ next c ∷ []) (joined (next (c / 64)) c [] (next c ∷ []) refl)
    go false false false = joined (240 + c / 262144) (c / 4096) (next (c / 64) ∷ next c ∷ []) (next (c / 4096) ∷ next (c / 64) ∷ next c ∷ [])
        (joined (next (c / 4096)) (c / 64) (next c ∷ []) (next (c / 64) ∷ next c ∷ []) (joined (next (c / 64)) c [] (next c ∷ []) refl))

each : (cs : List ℕ) → scalars cs ≡ true → characters (encodes cs) ≡ map encode_utf8 cs
each [] s = refl
each (c ∷ cs) s =
    let rest = (and_parts (scalar c) (scalars cs) s).1 in
    follow_law (encode c) (encodes cs) (cs, (rest, refl)) ∙ (ap (λ ds. ds ++ characters (encodes cs)) (one c) ∙ ap (λ ds. encode c ∷ ds) (each cs rest))

pub each_law : (text : List ℕ) → IsUtf8 text → characters text ≡ map encode_utf8 (chars text)
each_law text u =
    subst (λ (xs : List ℕ). characters xs ≡ map encode_utf8 (chars xs)) u.1.1 (each u.0 u.1.0 ∙ ap (map encode_utf8) (sym (chars-encodes u.0 u.1.0)))

-- ---- pieces are groups of them
-- texts that fit into an entry are groups of their own pieces, however they are cut
cut_groups : (cutting : List ℕ → List (List ℕ)) → IsCutting cutting → (ts : List (List ℕ)) → AreShort MOST_TEXT_OCTETS ts → Groups ts (flat_map cutting ts) []
cut_groups cutting c [] l = refl
cut_groups cutting c (t ∷ ts) l = (cutting t, flat_map cutting ts, refl, sym (c.whole t), l.0, cut_groups cutting c ts l.1)

-- what is cut says the same
cut_says : (cutting : List ℕ → List (List ℕ)) → IsCutting cutting → (ts : List (List ℕ)) → concat (flat_map cutting ts) ≡ concat ts
cut_says cutting c [] = refl
cut_says cutting c (t ∷ ts) =
    concat-append (cutting t) (flat_map cutting ts) ∙ (ap (λ x. x ++ concat (flat_map cutting ts)) (c.whole t) ∙ ap (λ x. t ++ x) (cut_says cutting c ts))

heard_utf8 : (ts : List (List ℕ)) → AreHeardTexts ts → AllByRecursion IsUtf8 ts
heard_utf8 [] h = tt
heard_utf8 (t ∷ ts) h = (h.1, heard_utf8 ts h.2)

cut_utf8 : (n : ℕ) → 4 ≤ n → (ts : List (List ℕ)) → AreHeardTexts ts → AllByRecursion IsUtf8 (flat_map (pieces n) ts)
cut_utf8 n f [] h = tt
cut_utf8 n f (t ∷ ts) h = both IsUtf8 (pieces n t) (flat_map (pieces n) ts) (text_law n t f h.1) (cut_utf8 n f ts h.2)

longer : (n m : ℕ) → n ≤ m → (ts : List (List ℕ)) → AreShort n ts → AreShort m ts
longer n m l [] s = tt
longer n m l (t ∷ ts) s = let a = s.0 in (omega (arith, a, l), longer n m l ts s.1)

cut_short : (n : ℕ) → 4 ≤ n → (ts : List (List ℕ)) → AreShort n (flat_map (pieces n) ts)
cut_short n f [] = tt
cut_short n f (t ∷ ts) = both (λ (x : List ℕ). length x ≤ n) (pieces n t) (flat_map (pieces n) ts) (short_law n t f) (cut_short n f ts)

pub groups_law : (n : ℕ) → 4 ≤ n → n ≤ MOST_TEXT_OCTETS → (xs ys : List (List ℕ)) → AreHeardTexts xs → AreHeardTexts ys → concat xs ≡ concat ys → Groups (flat_map (pieces n) xs) (flat_map characters ys) []
groups_law n f l xs ys h k e =
    let same : flat_map characters (flat_map (pieces n) xs) ≡ flat_map characters ys =
    all_law (flat_map (pieces n) xs) (cut_utf8 n f xs h) ∙ (ap characters (cut_says (pieces n) (whole_law n f) xs ∙ e) ∙ sym (all_law ys (heard_utf8 ys k))) in
    subst (λ (zs : List (List ℕ)). Groups (flat_map (pieces n) xs) zs []) same
    (cut_groups characters characters_law (flat_map (pieces n) xs) (longer n MOST_TEXT_OCTETS l (flat_map (pieces n) xs) (cut_short n f xs)))

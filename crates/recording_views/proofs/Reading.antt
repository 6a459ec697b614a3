-- What is printed is read as a script, line by line.
use Rattle.std.proofs.Common.{◌≡◌, ℕ, zero, suc, ◌+◌, ◌-◌, ◌≤◌, ◌<◌, Bool, true, false, cond, eqb, Some, Ok, Err, List, [], ◌∷◌, ◌++◌, length, take, drop, refl, ap, sym, ◌∙◌, subst, arith, append-nil, append_assoc, IsUtf8, inl, inr}
use Rattle.std.specs.Prelude.{flat_map, codes, chars, decimal, encode_utf8, All, nat_lt, nat_le, slice_index}
use Rattle.std.specs.List.{list_all, AllByRecursion, slice_split, position_or_len}
use Rattle.std.specs.Str.{is_utf8}
use Rattle.std.proofs.Math.Utf8.{scalar, scalars}
use Rattle.std.specs.Str.Lines.{lines, lines_of_parts, strip_carriage_return}
use Rattle.std.specs.Str.Parse.{AllDigits, digits_value}
use Rattle.std.specs.Char.{is_ascii_digit, IsScalar}
use Rattle.std.proofs.lemmas.List.Splits.{slice_split_at, length-slice_split}
use Rattle.std.proofs.lemmas.List.Elements.{All-nil, All-cons, All-head, All-tail}
use Rattle.std.proofs.lemmas.List.{length-append}
use Rattle.std.proofs.Math.Seq.{take-append_seam, drop-append_seam}
use Rattle.std.proofs.lemmas.Bool.{and_parts}
use Rattle.std.proofs.lemmas.Bool.Decides.{nat_tests}
use Rattle.std.proofs.lemmas.Fmt.{decimal_is_IsNumeral, length-decimal-le, IsAscii-decimal}
use Rattle.std.proofs.lemmas.Str.{IsUtf8-append, IsUtf8-nil, IsUtf8-encode, IsUtf8-from_ascii, is_utf8-from_IsUtf8, scalars-chars}
use Rattle.std.proofs.lemmas.Str.Ascii.{IsAscii-from_all}
use Rattle.std.proofs.lemmas.Str.Parse.{digit_from_value}
use Rattle.stream_spec.specs.Lists.{In}
use Rattle.stream_spec.specs.Ready.{Chunk, ReadyRises}
use Rattle.stream_spec.proofs.ChunkTexts.{chunks_rise}
use Rattle.stream_spec.proofs.Falls.{items_law}
use Rattle.mixer_spec.specs.Laws.{AreTexts, AreShort}
use Rattle.mixer_spec.proofs.Heard.{chunks_law}
use Rattle.mixer_spec.proofs.HeardShort.{short_law}
use Rattle.mixer_spec.proofs.Recordings.{recordings_law}
use Rattle.view_spec.specs.declared.classes.CharClass.{CharClass}
use Rattle.view_spec.specs.declared.classes.CharClass.TheVariants.{Erase, Bell, NewLine, Silent, Marker, Print}
use Rattle.view_spec.specs.Characters.{class_of}
use Rattle.command_spec.specs.declared.requests.ReadRequest.{ReadRequest}
use Rattle.command_spec.specs.Reading.{usual_wait, records_of, arrivals_of}
use Rattle.wire_spec.specs.Packets.{has_text}
use Rattle.file_spec.specs.declared.kinds.ConfKind.TheVariants.{Large}
use Rattle.file_spec.specs.declared.limits.TheConstants.{LAST_MOMENT, LONGEST_TEXT, MOST_SCRIPT_OCTETS}
use Rattle.file_spec.specs.Lines.{told, is_comment, read_lines}
use Rattle.file_spec.specs.Numbers.{number}
use Rattle.file_spec.specs.Script.{ScriptLine, script_line, and_line, latest, typed, unescaped, around_space}
use Rattle.command_spec.specs.Transcripts.{escaped, escaped_as, escaped_sign, chunk_line, chunks_read, transcript_view}
use Rattle.recording_views.specs.Laws.{IsSayable, IsScript, is_sayable, script_lines}
use Rattle.recording_views.proofs.Unescaping.{IsInside, all_append, said_as_characters, text_back, text_inside}
use Rattle.file_spec.proofs.Plain.{lines_of_parts-cons as parts_cons}

-- what a line says
abbrev pub body : Chunk → List ℕ
body c = (decimal c.ready ++ codes " ") ++ escaped c.text

-- ---- a line of octets
all_fail : (p : ℕ → Bool) (P : ℕ → Type 0) → ((o : ℕ) → P o → p o ≡ false) → (xs : List ℕ) → AllByRecursion P xs → All (λ x. p x ≡ false) xs
all_fail p P f [] a = All-nil (λ x. p x ≡ false)
all_fail p P f (x ∷ xs) a = All-cons (λ x. p x ≡ false) x xs (f x a.0) (all_fail p P f xs a.1)

index_inside : (xs : List ℕ) (k : ℕ) → AllByRecursion IsInside xs → k < length xs → eqb (slice_index xs k) 13 ≡ false
index_inside [] k a l = absurd (omega arith)
index_inside (x ∷ xs) zero a l = a.0.1
index_inside (x ∷ xs) (suc k) a l = index_inside xs k a.1 (omega arith)

not_stripped : (xs : List ℕ) → AllByRecursion IsInside xs → strip_carriage_return xs ≡ xs
not_stripped [] a = refl
not_stripped (x ∷ xs) a =
    ap (λ b. cond b (take (length (x ∷ xs) - 1) (x ∷ xs)) (x ∷ xs)) (index_inside (x ∷ xs) (length (x ∷ xs) - 1) a (omega arith))

a_line : (xs rest : List ℕ) → AllByRecursion IsInside xs → lines ((xs ++ 0x0A ∷ []) ++ rest) ≡ xs ∷ lines rest
a_line xs rest a =
    ap lines (append_assoc xs (0x0A ∷ []) rest)
    ∙ (ap lines_of_parts (slice_split_at (λ c. eqb c 10) xs 10 rest (all_fail (λ c. eqb c 10) IsInside (λ o i. i.0) xs a) refl)
    ∙ (parts_cons xs (slice_split (λ c. eqb c 10) rest) (omega (arith, length-slice_split (λ c. eqb c 10) rest))
    ∙ ap (λ l. l ∷ lines rest) (not_stripped xs a)))

-- ---- its number
-- a digit
pub record IsDigit (o : ℕ) : Type 0 where
  pub low : 48 ≤ o
  pub high : o ≤ 57

digits_each : (ds : List ℕ) → AllDigits 10 ds → AllByRecursion IsDigit ds
digits_each [] a = tt
digits_each (d ∷ ds) a = let r = digit_from_value d a.0 in (record { low = r.0; high = r.1 }, digits_each ds a.1)

digit_tested : (o : ℕ) → IsDigit o → is_ascii_digit o ≡ true
digit_tested o d = let l = d.low in let h = d.high in grind (arith, nat_tests)

digits_tested : (ds : List ℕ) → AllByRecursion IsDigit ds → list_all is_ascii_digit ds ≡ true
digits_tested [] a = refl
digits_tested (d ∷ ds) a = rw (digit_tested d a.0, digits_tested ds a.1) refl

digit_inside : (o : ℕ) → IsDigit o → IsInside o
digit_inside o d = let l = d.low in let h = d.high in (grind (arith, nat_tests), grind (arith, nat_tests))

digits_inside : (ds : List ℕ) → AllByRecursion IsDigit ds → AllByRecursion IsInside ds
digits_inside [] a = tt
digits_inside (d ∷ ds) a = (digit_inside d a.0, digits_inside ds a.1)

no_space : (o : ℕ) → IsDigit o → eqb o 32 ≡ false
no_space o d = let l = d.low in grind (arith, nat_tests)

-- what is known of a moment
pub record Moment (n : ℕ) : Type 0 where
  pub some : 0 < length (decimal n)
  pub few : length (decimal n) ≤ 10
  pub digits : AllByRecursion IsDigit (decimal n)
  pub value : digits_value 10 (decimal n) ≡ n

moment : (n : ℕ) → n ≤ LAST_MOMENT → Moment n
moment n l =
    let d = decimal_is_IsNumeral n (omega (arith, l)) in
    record { some = d.0.0; few = length-decimal-le 10 n (omega arith) (omega (arith, l)) (omega (arith, l)); digits = digits_each (decimal n) d.0.1; value = d.1 }

number_back : (n : ℕ) → n ≤ LAST_MOMENT → number LAST_MOMENT (decimal n) ≡ Some n
number_back n l =
    let m = moment n l in
    let some = m.some in
    let few = m.few in
    let a : nat_lt 0 (length (decimal n)) ≡ true = grind (arith, nat_tests) in
    let b : nat_le (length (decimal n)) 10 ≡ true = grind (arith, nat_tests) in
    let c : nat_le n LAST_MOMENT ≡ true = grind (arith, nat_tests) in
    rw (m.value, a, b, digits_tested (decimal n) m.digits, c) refl

-- ---- what stands before the first space and after it
space_at : (ds rest : List ℕ) → AllByRecursion IsDigit ds → position_or_len (λ c. eqb c 32) (ds ++ 32 ∷ rest) ≡ length ds
space_at [] rest a = refl
space_at (d ∷ ds) rest a = rw (no_space d a.0) (ap (λ n. 1 + n) (space_at ds rest a.1) ∙ omega arith)

halves : (ds rest : List ℕ) → AllByRecursion IsDigit ds → around_space ((ds ++ codes " ") ++ rest) ≡ Some (ds, rest)
halves ds rest a =
    let at = space_at ds rest a in
    let l = length-append ds (32 ∷ rest) in
    let within : nat_lt (length ds) (length (ds ++ 32 ∷ rest)) ≡ true = grind (arith, nat_tests, l) in
    let front : take (length ds) (ds ++ 32 ∷ rest) ≡ ds = take-append_seam ds (32 ∷ rest) in
    let behind : drop (length ds + 1) (ds ++ 32 ∷ rest) ≡ rest = ap (drop (length ds + 1)) (sym (append_assoc ds (32 ∷ []) rest)) ∙ (ap (λ n. drop n ((ds ++ 32 ∷ []) ++ rest)) (sym (length-append ds (32 ∷ []))) ∙ drop-append_seam (ds ++ 32 ∷ []) rest) in
    ap around_space (append_assoc ds (codes " ") rest) ∙ rw (at, within, front, behind) refl

-- ---- a line
-- what is known of a text that was heard
pub record Says (c : Chunk) : Type 0 where
  pub can : IsSayable c
  pub utf8 : IsUtf8 c.text
  pub some : has_text c.text ≡ true
  pub short : length c.text ≤ LONGEST_TEXT

typed_back : (c : Chunk) → Says c → typed (escaped c.text) ≡ Ok c.text
typed_back c s =
    let short = s.short in
    let few : nat_lt LONGEST_TEXT (length c.text) ≡ false = grind (arith, nat_tests) in
    rw (text_back c.text s.utf8 s.can.plain, few) refl

-- it is UTF-8
sign_utf8 : (c : ℕ) → IsScalar c → IsUtf8 (escaped_sign c)
sign_utf8 c h = go (class_of c)
  where
    ascii : (d : ℕ) → d < 128 → IsUtf8 (92 ∷ d ∷ [])
    ascii d l = IsUtf8-from_ascii (92 ∷ d ∷ []) (IsAscii-from_all (92 ∷ d ∷ []) (All-cons (λ b. b < 128) 92 (d ∷ []) (omega arith) (All-cons (λ b. b < 128) d [] l (All-nil (λ b. b < 128)))))

    print : (b : Bool) → IsUtf8 (cond b (codes "\\\\") (encode_utf8 c))
    print true = ascii 92 (omega arith)
    print false = IsUtf8-encode c h

    go : (k : CharClass) → IsUtf8 (escaped_as k c)
    go Erase = ascii 98 (omega arith)
    go Bell = ascii 97 (omega arith)
    go NewLine = ascii 110 (omega arith)
    go Silent = IsUtf8-nil
    go Marker = print false
    go Print = print (eqb c 92)

characters_utf8 : (cs : List ℕ) → scalars cs ≡ true → IsUtf8 (flat_map escaped_sign cs)
characters_utf8 [] h = IsUtf8-nil
characters_utf8 (c ∷ cs) h =
    let b = and_parts (scalar c) (scalars cs) h in
    IsUtf8-append (escaped_sign c) (flat_map escaped_sign cs) (sign_utf8 c b.0) (characters_utf8 cs b.1)

escaped_utf8 : (text : List ℕ) → IsUtf8 text → list_all is_sayable (chars text) ≡ true → IsUtf8 (escaped text)
unfolding escaped
escaped_utf8 text u a = subst IsUtf8 (sym (said_as_characters (chars text) a)) (characters_utf8 (chars text) (scalars-chars text u))

body_utf8 : (c : Chunk) → Says c → is_utf8 (body c) ≡ true
body_utf8 c s =
    let early = s.can.early in
    let digits = IsUtf8-from_ascii (decimal c.ready) (IsAscii-decimal c.ready (omega (arith, early))) in
    let space = IsUtf8-from_ascii (codes " ") (IsAscii-from_all (32 ∷ []) (All-cons (λ b. b < 128) 32 [] (omega arith) (All-nil (λ b. b < 128)))) in
    is_utf8-from_IsUtf8 (body c) (IsUtf8-append (decimal c.ready ++ codes " ") (escaped c.text) (IsUtf8-append (decimal c.ready) (codes " ") digits space) (escaped_utf8 c.text s.utf8 s.can.plain))

-- its script line
abbrev said_at : ℕ → Chunk → ScriptLine
said_at n c = record { line = n; at = c.ready; text = c.text }

line_back : (n above : ℕ) (c : Chunk) → Says c → above ≤ c.ready → script_line above (record { number = n; octets = body c }) ≡ Ok (said_at n c)
unfolding script_line
line_back n above c s l =
    let m = moment c.ready s.can.early in
    let late : nat_lt c.ready above ≡ false = grind (arith, nat_tests) in
    rw (body_utf8 c s, halves (decimal c.ready) (escaped c.text) m.digits, number_back c.ready s.can.early, late, typed_back c s) refl

-- it is no comment, and ends no line
not_comment : (ds rest : List ℕ) → AllByRecursion IsDigit ds → 0 < length ds → is_comment (ds ++ rest) ≡ false
not_comment [] rest a l = absurd (omega arith)
not_comment (d ∷ ds) rest a l = let low = a.0.low in grind (arith, nat_tests)

body_told : (c : Chunk) → Says c → is_comment (body c) ≡ false
body_told c s =
    let m = moment c.ready s.can.early in
    ap is_comment (append_assoc (decimal c.ready) (codes " ") (escaped c.text)) ∙ not_comment (decimal c.ready) (codes " " ++ escaped c.text) m.digits m.some

body_inside : (c : Chunk) → Says c → AllByRecursion IsInside (body c)
body_inside c s =
    let m = moment c.ready s.can.early in
    all_append IsInside (decimal c.ready ++ codes " ") (escaped c.text) (all_append IsInside (decimal c.ready) (codes " ") (digits_inside (decimal c.ready) m.digits) ((refl, refl), tt)) (text_inside c.text s.can.plain)

-- it has text
still_text : (octets text : List ℕ) → unescaped octets ≡ Some text → has_text text ≡ true → has_text octets ≡ true
still_text [] text e h = let none : [] ≡ text = cc in ap has_text none ∙ h
still_text (x ∷ octets) text e h = refl

line_is : (c : Chunk) → Says c → chunk_line c ≡ body c ++ 0x0A ∷ []
line_is c s = rw (still_text (escaped c.text) c.text (text_back c.text s.utf8 s.can.plain) s.some) refl

-- ---- all lines
latest_push : (above : List ScriptLine) (l : ScriptLine) (t : ℕ) → latest above ≤ t → l.at ≤ t → latest (above ++ l ∷ []) ≤ t
latest_push [] l t a b = omega (arith, b)
latest_push (x ∷ above) l t a b = let r = latest_push above l t (omega (arith, a)) b in omega (arith, a, r)

read_on : (n : ℕ) (above : List ScriptLine) (c : Chunk) (more : List (List ℕ)) → Says c → latest above ≤ c.ready
    → read_lines and_line above (told is_comment n (body c ∷ more)) ≡ read_lines and_line (above ++ said_at n c ∷ []) (told is_comment (n + 1) more)
read_on n above c more s l = rw (body_told c s, line_back n (latest above) c s l) refl

lines_back : (n : ℕ) (above : List ScriptLine) (cs : List Chunk) → AllByRecursion Says cs → ReadyRises cs → ((c : Chunk) → In c cs → latest above ≤ c.ready)
    → read_lines and_line above (told is_comment n (lines (flat_map chunk_line cs))) ≡ Ok (above ++ script_lines n cs)
lines_back n above [] a r l = ap (λ (s : List ScriptLine). Ok s) (sym (append-nil above))
lines_back n above (c ∷ cs) a r l =
    let rest = flat_map chunk_line cs in
    let split : lines (chunk_line c ++ rest) ≡ body c ∷ lines rest = ap (λ o. lines (o ++ rest)) (line_is c a.0) ∙ a_line (body c) rest (body_inside c a.0) in
    let first = l c (inl refl) in
    ap (λ ls. read_lines and_line above (told is_comment n ls)) split
    ∙ (read_on n above c (lines rest) a.0 first
    ∙ (lines_back (n + 1) (above ++ said_at n c ∷ []) cs a.1 r.1 (λ d i. latest_push above (said_at n c) d.ready (l d (inr i)) (r.0 d i))
    ∙ ap (λ (s : List ScriptLine). Ok s) (append_assoc above (said_at n c ∷ []) (script_lines (n + 1) cs))))

-- ---- what is printed of a recording
all_say : (cs : List Chunk) → All IsSayable cs → AreTexts cs → AreShort cs → AllByRecursion Says cs
all_say [] can texts short = tt
all_say (c ∷ cs) can texts short = (
  record { can = All-head IsSayable c cs can; utf8 = texts.1; some = texts.0; short = short.0 },
  all_say cs (All-tail IsSayable c cs can) texts.2 short.1,
)

pub is_script : (r : ReadRequest) (octets : List ℕ) → IsScript r octets
unfolding transcript_view
is_script r octets can small =
    let a = arrivals_of r octets in
    let law = recordings_law (records_of octets) r.ssrc r.payload_types in
    let cs = chunks_read r octets in
    let says = all_say cs can (chunks_law usual_wait 0 a r.source law.0) (short_law usual_wait 0 r.source a law.1) in
    let rises = chunks_rise usual_wait 0 a r.source (items_law (records_of octets) r.ssrc r.payload_types) in
    let fits : nat_lt MOST_SCRIPT_OCTETS (length (flat_map chunk_line cs)) ≡ false = grind (arith, nat_tests) in
    ap (λ b. cond b (Err (record { line = 0; kind = Large })) (read_lines and_line [] (told is_comment 1 (lines (flat_map chunk_line cs))))) fits
    ∙ lines_back 1 [] cs says rises (λ c i. omega arith)
